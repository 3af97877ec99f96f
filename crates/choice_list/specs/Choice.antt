-- Settings for a wanted polling period, of a list: what a choice is, and which comes first, without any way to find one. 02, item 14.
use Rattle.std.specs.Prelude.{ℕ, ◌<◌, ◌≡◌, true, false, ◌&&◌, List, length, get_or}
use Rattle.descriptor.specs.Word.{alternate_setting}
use Rattle.choice_search.specs.Order.{NotAfter}
use Rattle.choice_list.specs.Candidate.{words_at, is_candidate, has_address}

-- One place for each name: the same for the same interface, and no address in two interfaces.
pub record Choice (list : List ℕ) (speed longest : ℕ) (names places : List ℕ) : Type 0 where
  pub long : length places ≡ length names
  pub each :
      (j : ℕ) → j < length names → is_candidate list speed longest (get_or names j 0) (get_or places j 0) ≡ true
  pub one :
      (j k : ℕ) → j < length names → k < length names → get_or names j 0 ≡ get_or names k 0 → get_or places j 0 ≡ get_or places k 0
  pub apart :
      (j k a : ℕ) → j < length names → k < length names → (get_or names j 0 ≡ get_or names k 0 → ⊥) →
      (has_address a (words_at list (get_or names j 0) (get_or places j 0))
      && has_address a (words_at list (get_or names k 0) (get_or places k 0))) ≡ false

-- A choice before which none comes, compared name by name by place in the list.
pub record First (list : List ℕ) (speed longest : ℕ) (names places : List ℕ) : Type 0 where
  pub choice : Choice list speed longest names places
  pub first : (others : List ℕ) → Choice list speed longest names others → NotAfter places others

-- The alternate of the word at a place.
abbrev pub alternate_at : List ℕ → ℕ → ℕ
alternate_at list place = alternate_setting (get_or list place 0)
