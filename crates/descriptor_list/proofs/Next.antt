-- One turn of a loop over a list: what is left at an index is the word there and what is left after it.
use Prim.Native.Nat.{ℕ, ◌+◌, ◌-◌, ◌≤◌, ◌<◌}
use mathlib.Core.Path.{◌≡◌}
use mathlib.Core.List.{List, ◌∷◌}
use native.Mathlib.Numerals.{add-one}
use native.Mathlib.Omega.{arith}
use lib.ListN.{length, get_or, drop}
use lib.Seq.{drop-cons}

pub drop_next : (l : List ℕ) (i : ℕ) → i < length l → drop i l ≡ get_or l i 0 ∷ drop (i + 1) l
drop_next l i h = rw (add-one, drop-cons l i 0)

-- and of one from its end
pub drop_back : (l : List ℕ) (i : ℕ) → 0 < i → i ≤ length l → drop (i - 1) l ≡ get_or l (i - 1) 0 ∷ drop i l
drop_back l i h g = let e : i - 1 + 1 ≡ i = omega arith in rw e at (drop_next l (i - 1) (omega arith))
