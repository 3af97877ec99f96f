-- Words stored one after the other in a list.
use Prim.Native.Nat.{ℕ, zero, suc, ◌+◌, ◌<◌, ◌≤◌}
use mathlib.Core.Path.{◌≡◌, refl, ◌∙◌}
use mathlib.Core.List.{List, [], ◌∷◌}
use native.Mathlib.Nat.{add-zero}
use native.Mathlib.Omega.{arith}
use lib.ListN.{length, get_or, set, drop, length-set}
use lib.Seq.{sets, get_or-set_same, get_or-set_other}

-- A list is read from its second number on.
pub get_d_second : (l : List ℕ) (i : ℕ) → get_or l (suc i) 0 ≡ get_or (drop 1 l) i 0
get_d_second [] i = refl
get_d_second (x ∷ l) i = refl

-- what is past them is kept
pub sets_past : (ws log : List ℕ) (n k : ℕ) → n + length ws ≤ k → get_or (sets log n ws) k 0 ≡ get_or log k 0
sets_past [] log n k h = refl
sets_past (w ∷ ws) log n k h =
    sets_past ws (set log n w) (suc n) k (omega arith) ∙ get_or-set_other log n k w 0 (λ e. omega arith)

-- what is before them too
pub sets_before : (ws log : List ℕ) (n k : ℕ) → k < n → get_or (sets log n ws) k 0 ≡ get_or log k 0
sets_before [] log n k h = refl
sets_before (w ∷ ws) log n k h =
    sets_before ws (set log n w) (suc n) k (omega arith) ∙ get_or-set_other log n k w 0 (λ e. omega arith)

-- and they are there
pub sets_there : (ws log : List ℕ) (n i : ℕ) → i < length ws → n + length ws ≤ length log →
    get_or (sets log n ws) (n + i) 0 ≡ get_or ws i 0
sets_there [] log n i h l = absurd (omega arith)
sets_there (w ∷ ws) log n zero h l =
    rw add-zero (sets_before ws (set log n w) (suc n) n (omega arith) ∙ get_or-set_same log n w 0 (omega arith))
sets_there (w ∷ ws) log n (suc i) h l =
    let e : n + suc i ≡ suc n + i = omega arith in
    let m : suc n + length ws ≤ length (set log n w) = simp length-set (omega arith) in
    rw e (sets_there ws (set log n w) (suc n) i (omega arith) m)
