-- What a choice promises, answer by answer.
use Rattle.std.specs.Prelude.{ℕ, ◌<◌, ◌≤◌, ◌≡◌, ◌↔◌, true, false, ◌&&◌, List, length, get_or}
use Rattle.device.specs.declared.record.Device.{Device}
use Rattle.device.specs.Device.{list_of}
use Rattle.device.specs.Sound.{sound}
use Rattle.choice_list.specs.declared.chosen.Chosen.{Chosen}
use Rattle.choice_list.specs.Choice.{Choice, First, alternate_at}
use Rattle.choice.specs.Choose.{Answered}

-- Places for the names, of which the alternates are those returned.
pub record Returned (list : List ℕ) (speed longest : ℕ) (names : List ℕ) (r : Chosen) : Type 0 where
  pub places : List ℕ
  -- it is a choice, and none comes before it
  pub first : First list speed longest names places
  pub alternates : (j : ℕ) → j < length names → get_or r.alternates j 0 ≡ alternate_at list (get_or places j 0)

pub record Promised (d : Device) (names : List ℕ) (longest : ℕ) (r : Chosen) : Type 0 where
  pub unusable : (r.answer ≡ 12) ↔ ((d.usable && sound d) ≡ false)
  pub many_names : (r.answer ≡ 29) ↔ (((d.usable && sound d) ≡ true) × (8 < length names))
  pub no_choice :
      (r.answer ≡ 30)
      ↔ (((d.usable && sound d) ≡ true) × (length names ≤ 8) × ((places : List ℕ) → Choice (list_of d) d.port_speed longest names places → ⊥))
  pub chosen : r.answer ≡ 0 → Returned (list_of d) d.port_speed longest names r
  -- a repeated name has its one alternate at each of its places
  pub repeated :
      r.answer ≡ 0 → (j k : ℕ) → j < length names → k < length names → get_or names j 0 ≡ get_or names k 0 →
      get_or r.alternates j 0 ≡ get_or r.alternates k 0
  -- past the names, and in a refusal, there are zeros
  pub zeros : (j : ℕ) → length names ≤ j → get_or r.alternates j 0 ≡ 0
  pub refused : (r.answer ≡ 0 → ⊥) → (j : ℕ) → get_or r.alternates j 0 ≡ 0

abbrev pub ChoicePromise : Type 0
ChoicePromise = (d : Device) (names : List ℕ) (longest : ℕ) (r : Chosen) → Answered d names longest r → Promised d names longest r
