-- What a choice answers, exit by exit.
use Rattle.std.specs.Prelude.{ℕ, ◌<◌, ◌≤◌, ◌≡◌, true, false, List, length}
use mathlib.Core.Path.{refl}
use mathlib.Core.Bool.{and-false}
use Rattle.laws.proofs.Tests.{and-true}
use Rattle.device.specs.declared.record.Device.{Device}
use Rattle.device.specs.Device.{list_of}
use Rattle.device.specs.Sound.{sound}
use Rattle.choice_list.specs.declared.chosen.Chosen.{Chosen}
use Rattle.choice_list.specs.Chosen.{Refused, ChosenIn}
use Rattle.choice.specs.Choose.{Answered, unusable, many_names, in_list}

module _ (d : Device) (names : List ℕ) (longest : ℕ) (r : Chosen) where
  pub not_usable : d.usable ≡ false → Refused 12 r → Answered d names longest r
  not_usable e f = unusable (rw e refl) f

  pub not_sound : sound d ≡ false → Refused 12 r → Answered d names longest r
  not_sound e f = unusable (rw (e, and-false d.usable) refl) f

  module _ (u : d.usable ≡ true) (s : sound d ≡ true) where
    pub too_many : 8 < length names → Refused 29 r → Answered d names longest r
    too_many h f = many_names (and-true d.usable (sound d) u s) h f

    pub of_list : length names ≤ 8 → ChosenIn (list_of d) d.port_speed longest names r → Answered d names longest r
    of_list h f = in_list (and-true d.usable (sound d) u s) h f
