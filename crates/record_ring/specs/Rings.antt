-- Ring addresses, from 01, "Rings offered" and the sound record.
use Rattle.std.specs.Prelude.{ℕ, ◌%◌, Bool, true, not, cond, ◌&&◌, List, [], ◌∷◌, ◌++◌, eqb, length}
use Rattle.laws.specs.Distinct.{elem, distinct}

-- How many rings a record may have: live, control's and quarantined.
abbrev pub RING-ROOM : ℕ
RING-ROOM = 61

-- A nonzero multiple of 16.
unfoldable pub ring_ok : ℕ → Bool
ring_ok r = not (eqb r 0) && eqb (r % 16) 0

unfoldable pub rings_ok : List ℕ → Bool
rings_ok [] = true
rings_ok (r ∷ rs) = ring_ok r && rings_ok rs

-- None of some rings is among others.
unfoldable pub disjoint : List ℕ → List ℕ → Bool
disjoint [] others = true
disjoint (r ∷ rs) others = not (elem r others) && disjoint rs others

-- Of some rings, those that are not among others.
unfoldable pub not_among : List ℕ → List ℕ → List ℕ
not_among others [] = []
not_among others (r ∷ rs) = cond (elem r others) (not_among others rs) (r ∷ not_among others rs)

-- Rings in quarantine, after some more have entered it: each that is not there already.
unfoldable pub entered : List ℕ → List ℕ → List ℕ
entered quarantined [] = quarantined
entered quarantined (r ∷ rs) = entered (cond (elem r quarantined) quarantined (quarantined ++ (r ∷ []))) rs

-- Rings offered for so many endpoint words, while others are live, control's or quarantined.
unfoldable pub offer_ok : ℕ → List ℕ → List ℕ → ℕ → List ℕ → Bool
offer_ok count rings live control quarantined =
    eqb (length rings) count
    && (rings_ok rings && (distinct rings && (disjoint rings live && (not (elem control rings) && disjoint rings quarantined))))
