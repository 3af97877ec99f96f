-- What the search promises: its picks have no address in two names and none comes before them; where it finds none, there are none.
use Rattle.std.specs.Prelude.{ℕ, ◌≡◌, ◌<◌, ◌⊎◌, Some, None, List, [], ◌∷◌}
use Rattle.std.specs.Int.Bits.{bit_and, bit_or}
use Rattle.choice_search.specs.declared.by_name.Candidate.{Candidate}
use Rattle.choice_search.specs.Order.{NotAfter}
use Rattle.choice_search.specs.Search.{pick}

unfoldable pub Among : Candidate → List Candidate → Type 0
Among c [] = ⊥
Among c (x ∷ xs) = (c ≡ x) ⊎ Among c xs

-- A candidate of each name, by its place, with no address that is taken or that an earlier one has.
unfoldable pub IsPick : List (List Candidate) → ℕ → List ℕ → Type 0
IsPick [] taken [] = Unit {0}
IsPick [] taken (p ∷ places) = ⊥
IsPick (cs ∷ names) taken [] = ⊥
IsPick (cs ∷ names) taken (p ∷ places) =
    (c : Candidate) × (Among c cs × (c.place ≡ p) × (bit_and c.addresses taken ≡ 0) × IsPick names (bit_or taken c.addresses) places)

-- Each name's candidates stand in the order of their places.
unfoldable pub Rises : List Candidate → Type 0
Rises [] = Unit {0}
Rises (c ∷ cs) = ((x : Candidate) → Among x cs → c.place < x.place) × Rises cs

unfoldable pub AllRise : List (List Candidate) → Type 0
AllRise [] = Unit {0}
AllRise (cs ∷ names) = Rises cs × AllRise names

pub record Earliest (names : List (List Candidate)) (taken : ℕ) (places : List ℕ) : Type 0 where
  pub picks : IsPick names taken places
  pub first : (others : List ℕ) → IsPick names taken others → NotAfter places others

abbrev pub PicksEarliest : Type 0
PicksEarliest = (names : List (List Candidate)) (taken : ℕ) (places : List ℕ) → AllRise names → pick names taken ≡ Some places → Earliest names taken places

abbrev pub NonePicks : Type 0
NonePicks = (names : List (List Candidate)) (taken : ℕ) → AllRise names → pick names taken ≡ None → (places : List ℕ) → IsPick names taken places → ⊥
