-- Settings for a wanted polling period: what is answered. 02, item 14.
use Rattle.std.specs.Prelude.{ℕ, ◌<◌, ◌≤◌, ◌≡◌, true, false, ◌&&◌, List, length}
use Rattle.device.specs.declared.record.Device.{Device}
use Rattle.device.specs.Device.{list_of}
use Rattle.device.specs.Sound.{sound}
use Rattle.choice_search.specs.Room.{NAMES}
use Rattle.choice_list.specs.declared.chosen.Chosen.{Chosen}
use Rattle.choice_list.specs.Chosen.{Refused, ChosenIn}

-- 12, then 29, then 30 or the first choice of the record's list at its speed.
pub data Answered (d : Device) (names : List ℕ) (longest : ℕ) (r : Chosen) : Type 0 where
  unusable : (d.usable && sound d) ≡ false → Refused 12 r → Answered d names longest r
  many_names : (d.usable && sound d) ≡ true → NAMES < length names → Refused 29 r → Answered d names longest r
  in_list :
      (d.usable && sound d) ≡ true → length names ≤ NAMES → ChosenIn (list_of d) d.port_speed longest names r → Answered d names longest r
