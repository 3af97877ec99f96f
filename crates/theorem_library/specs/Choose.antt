-- The choice by the exported function.
use Rattle.std.specs.Prelude.{ℕ, ◌≡◌, true, false, List}
use Rattle.device_image.specs.Image.{decode, is_image}
use Rattle.choice_list.specs.declared.chosen.Chosen.{Chosen}
use Rattle.choice_list.specs.Chosen.{Refused}
use Rattle.choice.specs.Choose.{Answered}
use Rattle.choice.specs.Promises.{Promised}

-- Of a buffer that holds a record it is that record's choice; else 12.
pub record ChosenAcross (image names : List ℕ) (longest : ℕ) (r : Chosen) : Type 0 where
  pub there : is_image image ≡ true → Promised (decode image) names longest r
  pub no_record : is_image image ≡ false → Refused 12 r

abbrev pub LibraryChoice : Type 0
LibraryChoice =
    (image names : List ℕ) (longest : ℕ) (r : Chosen) → Answered (decode image) names longest r → ChosenAcross image names longest r
