-- The choice by the exported function.
use Rattle.std.specs.Prelude.{ℕ, ◌≡◌, Bool, true, false, ◌&&◌, List}
use mathlib.Core.Path.{refl, sym, ◌∙◌}
use Rattle.laws.proofs.Tests.{and_left, not_both}
use Rattle.device.specs.declared.record.Device.{Device}
use Rattle.device.specs.Sound.{sound}
use Rattle.device_image.specs.Image.{is_set, read, decode, is_image}
use Rattle.choice_list.specs.declared.chosen.Chosen.{Chosen}
use Rattle.choice_list.specs.Chosen.{Refused}
use Rattle.choice.specs.Choose.{Answered, unusable, many_names, in_list}
use Rattle.choice.proofs.Promises.{keeps}
use Rattle.theorem_library.specs.Choose.{ChosenAcross, LibraryChoice}

-- Where the buffer holds no record, what is read of it is not usable.
not_usable : (image : List ℕ) → is_image image ≡ false → (decode image).usable ≡ false
unfolding decode read is_set
not_usable image n = rw n refl

twelve : (d : Device) (names : List ℕ) (longest : ℕ) (r : Chosen) → d.usable ≡ false → Answered d names longest r → Refused 12 r
twelve d names longest r n (unusable e f) = f
twelve d names longest r n (many_names e h f) = not_both d.usable (and_left d.usable (sound d) e) n
twelve d names longest r n (in_list e h f) = not_both d.usable (and_left d.usable (sound d) e) n

pub library_choice : LibraryChoice
library_choice image names longest r a =
    record {
      there = λ i. keeps (decode image) names longest r a;
      no_record = λ n. twelve (decode image) names longest r (not_usable image n) a;
    }
