-- The earliest pick of one candidate for each name, such that no two have an address in common.
use Rattle.std.specs.Prelude.{ℕ, zero, suc, ◌≡◌, Bool, true, cond, Option, Some, None, Result, Ok, Err, List, [], ◌∷◌, eqb, length, get_or, take, drop}
use Rattle.std.specs.Int.Bits.{bit_and, bit_or}
use Rattle.std.specs.Int.{bit_at}
use Rattle.choice_search.specs.declared.by_name.Candidate.{Candidate}

-- The candidates of each name, of a list in which they stand name by name, and how many each has.
unfoldable pub grouped : List ℕ → List Candidate → List (List Candidate)
grouped [] all = []
grouped (count ∷ counts) all = take count all ∷ grouped counts (drop count all)

unfoldable pub with_place : ℕ → Option (List ℕ) → Option (List ℕ)
with_place place None = None
with_place place (Some places) = Some (place ∷ places)

unfoldable pub or_else : Option (List ℕ) → Option (List ℕ) → Option (List ℕ)
or_else None other = other
or_else (Some places) other = Some places

-- Of some candidates, the first that has no address taken and after which the other names can be given theirs.
unfoldable pub pick_one : List Candidate → ℕ → (ℕ → Option (List ℕ)) → Option (List ℕ)
pick_one [] taken others = None
pick_one (c ∷ cs) taken others =
    cond (eqb (bit_and c.addresses taken) 0)
    (or_else (with_place c.place (others (bit_or taken c.addresses))) (pick_one cs taken others))
    (pick_one cs taken others)

-- The places picked, name by name, where some addresses are taken.
unfoldable pub pick : List (List Candidate) → ℕ → Option (List ℕ)
pick [] taken = Some []
pick (cs ∷ names) taken = pick_one cs taken (λ t. pick names t)

-- Whether an address is in a set of them.
unfoldable pub has : ℕ → ℕ → Bool
has set k = eqb (bit_at set k) 1

abbrev pub Within : ℕ → ℕ → Type 0
Within a b = (k : ℕ) → has a k ≡ true → has b k ≡ true

-- A part of a set that is not empty.
abbrev pub OneOf : ℕ → ℕ → Type 0
OneOf set r = Within r set × (r ≡ 0 → ⊥)

-- Unless it is 0, one of some sets, and within another.
abbrev pub FoundWithin : List ℕ → ℕ → ℕ → Type 0
FoundWithin sets set r = (r ≡ 0 → ⊥) → (k : ℕ) × ((get_or sets k 0 ≡ r) × Within r set)

-- These addresses are to blame: wherever they are taken, none can be picked.
abbrev pub Blamed : List (List Candidate) → ℕ → Type 0
Blamed names blame = (taken : ℕ) → Within blame taken → pick names taken ≡ None

-- The first n numbers, the last first.
unfoldable pub turned : List ℕ → ℕ → List ℕ
turned places zero = []
turned places (suc n) = get_or places n 0 ∷ turned places n

-- What the search returns.
unfoldable pub PickedAs : List (List Candidate) → ℕ → Result (List ℕ) ℕ → Type 0
PickedAs names taken (Ok places) = pick names taken ≡ Some (turned places (length names))
PickedAs names taken (Err blame) = Blamed names blame × Within blame taken
