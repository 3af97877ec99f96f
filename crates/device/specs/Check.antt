-- The checks of the calls on a record, in 01's order.
use Rattle.std.specs.Prelude.{ℕ, Bool, ◌&&◌}
use Rattle.answer.specs.declared.Answer.TheVariants as answer
use Rattle.answer.specs.Check.{Check, Pass, unless}
use Rattle.record_checks.specs.Lengths.{lengths_check}
use Rattle.record_checks.specs.Think.{think_check}
use Rattle.device.specs.declared.record.Device.{Device}
use Rattle.device.specs.Sound.{sound}

-- 12, 1, 2, 3, and then the call's own: of a record that has a mark.
unfoldable pub check_marked : Bool → Device → ℕ → ℕ → ℕ → Check → Check
check_marked mark d ctx routes log next =
    unless (mark && sound d) answer.Unusable
    (lengths_check d.spacing d.max_slots ctx routes log next)

-- The unplugging asks that the record is up, every other call that it is usable.
unfoldable pub record_check : Device → ℕ → ℕ → ℕ → Check → Check
unfolding check_marked
record_check d ctx routes log next = check_marked d.usable d ctx routes log next

unfoldable pub disconnect_check : Device → ℕ → ℕ → ℕ → Check
unfolding check_marked
disconnect_check d ctx routes log = check_marked d.up d ctx routes log Pass

-- 7.
unfoldable pub hub_check : Device → ℕ → Check
hub_check d ns = think_check d.port_speed ns
