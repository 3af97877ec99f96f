-- The promise of specs/Before.antt.
use Rattle.descriptor_list.proofs.Companions.{before_promise as list_before}
use Rattle.device_bring_up.specs.BringUp.{device_check}
use Rattle.device_bring_up.specs.Before.{device_check_before, BeforePromise}

pub before_promise : BeforePromise
unfolding device_check device_check_before
before_promise a next s =
    let b = list_before a.speed a.list s in
    record { checks = rw (b.list, b.companions); list = b.same }
