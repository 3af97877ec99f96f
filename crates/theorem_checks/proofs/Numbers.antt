-- Lists without repeats, by place, and how many numbers are such.
use Prim.Native.Nat.{ℕ, suc, ◌≤◌}
use mathlib.Core.Path.{◌≡◌, refl, sym}
use mathlib.Core.Bool.{true}
use mathlib.Core.List.{List, [], ◌∷◌}
use native.Mathlib.Omega.{arith}
use lib.ListN.{length, get_or}
use Rattle.laws.specs.Distinct.{elem, distinct}
use Rattle.laws.proofs.Cases.{false_if}
use Rattle.laws.proofs.Distinct.{elem_at, elem_place, distinct_cons, distinct_place, distinct_fits}
use Rattle.theorem_checks.specs.Descriptors.{Differ, Each, AtMost}

pub differ_distinct : (l : List ℕ) → Differ l → distinct l ≡ true
unfolding distinct
differ_distinct [] f = refl
differ_distinct (x ∷ l) f =
    distinct_cons x l (false_if (elem x l) here)
    (differ_distinct l (λ i j p q e. same i j (f (suc i) (suc j) (omega arith) (omega arith) e)))
  where
    same : (i j : ℕ) → suc i ≡ suc j → i ≡ j
    same i j e = omega (arith, e)

    here : elem x l ≡ true → ⊥
    here e =
        let t = elem_place x l e in
        let z : 0 ≡ suc t.0 = f 0 (suc t.0) (omega arith) (omega (arith, t.1)) (sym t.2) in
        absurd (omega (arith, z))

pub distinct_differ : (l : List ℕ) → distinct l ≡ true → Differ l
distinct_differ l d = distinct_place l d

pub each_elem : (P : ℕ → Type 0) (l : List ℕ) → Each P l → (x : ℕ) → elem x l ≡ true → P x
each_elem P l f x e = let t = elem_place x l e in rw (← t.2) (f t.0 t.1)

pub elem_each : (P : ℕ → Type 0) (l : List ℕ) → ((x : ℕ) → elem x l ≡ true → P x) → Each P l
elem_each P l f i h = f (get_or l i 0) (elem_at l i h)

-- As many as a list has that all such are in.
pub at_most_by : (n : ℕ) (P : ℕ → Type 0) (m : List ℕ) → ((x : ℕ) → P x → elem x m ≡ true) → length m ≤ n → AtMost n P
at_most_by n P m f h l d e =
    omega (arith, h, distinct_fits l m (differ_distinct l d) (λ x g. f x (each_elem P l e x g)))

pub at_most_at : (n : ℕ) (P : ℕ → Type 0) (m : List ℕ) → AtMost n P → distinct m ≡ true → ((x : ℕ) → elem x m ≡ true → P x) → length m ≤ n
at_most_at n P m a d f = a m (distinct_differ m d) (elem_each P m f)
