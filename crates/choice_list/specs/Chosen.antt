-- What is chosen of a list, as numbers.
use Rattle.std.specs.Prelude.{ℕ, ◌≡◌, List, [], get_or, map}
use Rattle.choice_list.specs.declared.chosen.Chosen.{Chosen}
use Rattle.choice_list.specs.Choice.{Choice, First, alternate_at}

-- The alternates, by name, 0 past them.
abbrev pub AlternatesAs : List ℕ → List ℕ → Type 0
AlternatesAs alternates r = (j : ℕ) → get_or r j 0 ≡ get_or alternates j 0

pub record Refused (number : ℕ) (r : Chosen) : Type 0 where
  pub answer : r.answer ≡ number
  pub none : AlternatesAs [] r.alternates

-- Of a list: the first choice, or 30 where there is none.
pub data ChosenIn (list : List ℕ) (speed longest : ℕ) (names : List ℕ) (r : Chosen) : Type 0 where
  chosen :
      (places : List ℕ) → First list speed longest names places → r.answer ≡ 0 → AlternatesAs (map (alternate_at list) places) r.alternates →
      ChosenIn list speed longest names r
  no_choice :
      ((places : List ℕ) → Choice list speed longest names places → ⊥) → Refused 30 r → ChosenIn list speed longest names r
