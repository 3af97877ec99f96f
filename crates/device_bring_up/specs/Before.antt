-- What a bring-up checks of a device where there are no companions: at speeds 1 to 3 it is what it was before 02's request 11.
use Rattle.std.specs.Prelude.{◌≡◌, true, false}
use Rattle.def.specs.Speed.{speed_known, is_super}
use Rattle.descriptor_list.specs.Valid.{valid_list}
use Rattle.descriptor_list.specs.Companions.{joined}
use Rattle.hub.specs.Chain.{chain_ok}
use Rattle.record_ring.specs.Store.{given_ok}
use Rattle.answer.specs.declared.Answer.TheVariants as answer
use Rattle.answer.specs.Check.{Check, unless}
use Rattle.course_init.specs.Reading.{BringUp}
use Rattle.device_bring_up.specs.BringUp.{device_check}

-- 6, 4, 5, 10, then what follows.
unfoldable pub device_check_before : BringUp → Check → Check
device_check_before a next =
    unless (speed_known a.speed) answer.Speed
    (unless (valid_list a.list) answer.DescriptorList
    (unless (chain_ok a.hubs a.parent) answer.HubChain
    (unless (given_ok a.rings) answer.Rings next)))

pub record AsBefore (a : BringUp) (next : Check) : Type 0 where
  pub checks : device_check a next ≡ device_check_before a next
  -- and what lookup will work on is the list itself
  pub list : valid_list a.list ≡ true → joined a.list ≡ a.list

abbrev pub BeforePromise : Type 0
BeforePromise = (a : BringUp) (next : Check) → is_super a.speed ≡ false → AsBefore a next
