-- Laws of membership and of lists without repeats, and a list with one number taken out.
use Prim.Native.Nat.{ℕ, zero, suc, ◌≤◌, ◌<◌}
use mathlib.Core.Path.{◌≡◌, refl, sym, ap, ◌∙◌}
use mathlib.Core.Logic.{◌⊎◌, inl, inr, ⊎_elim}
use mathlib.Core.Bool.{Bool, true, false, not, cond, ◌||◌}
use mathlib.Core.List.{List, [], ◌∷◌, ◌++◌}
use native.Mathlib.Omega.{arith}
use borrow.Author.Tests.{eqb-true, eqb-false, eq-eqb, ne_eqb, not-true}
use lib.Dec.{eqb}
use lib.ListN.{length, get_or}
use Rattle.laws.specs.Distinct.{elem, distinct}
use Rattle.laws.proofs.Tests.{and_left, and_right, not_both}
use Rattle.laws.proofs.Cases.{Decided, decided, or_left, or_right, or_cases, or_none}

-- The list without a number, wherever it stood.
unfoldable pub without : ℕ → List ℕ → List ℕ
without x [] = []
without x (y ∷ l) = cond (eqb x y) (without x l) (y ∷ without x l)

-- no number is in the empty list
pub elem_none : {P : Type 0} (x : ℕ) → elem x [] ≡ true → P
unfolding elem
elem_none x e = not_both false e refl

-- the first number is in the list
pub elem_here : (x : ℕ) (l : List ℕ) → elem x (x ∷ l) ≡ true
unfolding elem
elem_here x l = or_left _ _ (eq-eqb x x refl)

-- what is in the rest is in the list
pub elem_there : (x y : ℕ) (l : List ℕ) → elem x l ≡ true → elem x (y ∷ l) ≡ true
unfolding elem
elem_there x y l e = or_right (eqb x y) (elem x l) e

-- a number in the list is the first, or in the rest
pub elem_cases : (x y : ℕ) (l : List ℕ) → elem x (y ∷ l) ≡ true → (x ≡ y) ⊎ (elem x l ≡ true)
unfolding elem
elem_cases x y l e = ⊎_elim (λ p. inl (eqb-true x y p)) (λ p. inr p) (or_cases (eqb x y) (elem x l) e)

-- in a list without repeats the first number is not in the rest
pub distinct_first : (x : ℕ) (l : List ℕ) → distinct (x ∷ l) ≡ true → elem x l ≡ false
unfolding distinct
distinct_first x l e = not-true (elem x l) (and_left (not (elem x l)) (distinct l) e)

-- and the rest has no repeats
pub distinct_rest : (x : ℕ) (l : List ℕ) → distinct (x ∷ l) ≡ true → distinct l ≡ true
unfolding distinct
distinct_rest x l e = and_right (not (elem x l)) (distinct l) e

-- a number that is not in it may come before it
pub distinct_cons : (x : ℕ) (l : List ℕ) → elem x l ≡ false → distinct l ≡ true → distinct (x ∷ l) ≡ true
unfolding distinct
distinct_cons x l e d = rw (e, d)

-- what stands at a place is in the list
pub elem_at : (l : List ℕ) (k : ℕ) → k < length l → elem (get_or l k 0) l ≡ true
elem_at [] k h = absurd (omega arith)
elem_at (x ∷ l) zero h = elem_here x l
elem_at (x ∷ l) (suc k) h = elem_there (get_or l k 0) x l (elem_at l k (omega arith))

-- what is in the list stands at a place
pub elem_place : (x : ℕ) (l : List ℕ) → elem x l ≡ true → (k : ℕ) × (k < length l) × (get_or l k 0 ≡ x)
elem_place x [] e = elem_none x e
elem_place x (y ∷ l) e = go (elem_cases x y l e) (elem_place x l)
  where
    Place : List ℕ → Type 0
    Place m = (k : ℕ) × (k < length m) × (get_or m k 0 ≡ x)

    go : (x ≡ y) ⊎ (elem x l ≡ true) → (elem x l ≡ true → Place l) → Place (y ∷ l)
    go (inl p) f = (zero, omega arith, sym p)
    go (inr p) f = let t = f p in (suc t.0, omega arith, t.2)

-- in a list without repeats equal numbers stand at one place
pub distinct_place : (l : List ℕ) → distinct l ≡ true → (j k : ℕ) → j < length l → k < length l →
    get_or l j 0 ≡ get_or l k 0 → j ≡ k
distinct_place [] d j k p q e = absurd (omega arith)
distinct_place (x ∷ l) d zero zero p q e = refl
distinct_place (x ∷ l) d zero (suc k) p q e =
    not_both (elem x l) (rw e (elem_at l k (omega arith))) (distinct_first x l d)
distinct_place (x ∷ l) d (suc j) zero p q e =
    not_both (elem x l) (rw (← e) (elem_at l j (omega arith))) (distinct_first x l d)
distinct_place (x ∷ l) d (suc j) (suc k) p q e =
    ap suc (distinct_place l (distinct_rest x l d) j k (omega arith) (omega arith) e)

-- membership in two lists put together
pub elem_append : (x : ℕ) (l m : List ℕ) → elem x (l ++ m) ≡ (elem x l || elem x m)
unfolding elem
elem_append x [] m = refl
elem_append x (y ∷ l) m = rw (elem_append x l m) (go (eqb x y))
  where
    go : (b : Bool) → (b || (elem x l || elem x m)) ≡ (b || elem x l || elem x m)
    go true = refl
    go false = refl

-- two lists without repeats and with no number in common have none together
pub distinct_append : (l m : List ℕ) → distinct l ≡ true → distinct m ≡ true →
    ((x : ℕ) → elem x l ≡ true → elem x m ≡ false) → distinct (l ++ m) ≡ true
distinct_append [] m d e f = e
distinct_append (x ∷ l) m d e f =
    distinct_cons x (l ++ m)
    (rw (elem_append, distinct_first x l d, f x (elem_here x l)))
    (distinct_append l m (distinct_rest x l d) e (λ y p. f y (elem_there y x l p)))

-- without a number: the others stay
pub elem_without : (x y : ℕ) (l : List ℕ) → (x ≡ y → ⊥) → elem y (without x l) ≡ elem y l
unfolding elem without
elem_without x y [] h = refl
elem_without x y (z ∷ l) h = go (decided (eqb x z)) (elem_without x y l h)
  where
    go : Decided (eqb x z) → elem y (without x l) ≡ elem y l →
        elem y (cond (eqb x z) (without x l) (z ∷ without x l)) ≡ (eqb y z || elem y l)
    go (inl p) e = rw (p, ne_eqb y z (λ q. h (eqb-true x z p ∙ sym q)), e)
    go (inr p) e = rw (p, e)

-- and the number itself is gone
pub without_gone : (x : ℕ) (l : List ℕ) → elem x (without x l) ≡ false
unfolding elem without
without_gone x [] = refl
without_gone x (z ∷ l) = go (decided (eqb x z)) (without_gone x l)
  where
    go : Decided (eqb x z) → elem x (without x l) ≡ false →
        elem x (cond (eqb x z) (without x l) (z ∷ without x l)) ≡ false
    go (inl p) e = rw (p, e)
    go (inr p) e = rw (p, p, e)

-- a number that was not there changes nothing
pub without_none : (x : ℕ) (l : List ℕ) → elem x l ≡ false → without x l ≡ l
unfolding elem without
without_none x [] e = refl
without_none x (z ∷ l) e = let t = or_none (eqb x z) (elem x l) e in rw (t.0, without_none x l t.1)

-- and a list without repeats stays one
pub distinct_without : (x : ℕ) (l : List ℕ) → distinct l ≡ true → distinct (without x l) ≡ true
unfolding without
distinct_without x [] d = d
distinct_without x (z ∷ l) d = go (decided (eqb x z)) (distinct_without x l (distinct_rest z l d))
  where
    go : Decided (eqb x z) → distinct (without x l) ≡ true →
        distinct (cond (eqb x z) (without x l) (z ∷ without x l)) ≡ true
    go (inl p) e = rw (p, e)
    go (inr p) e =
        rw p (distinct_cons z (without x l) (elem_without x z l (eqb-false x z p) ∙ distinct_first z l d) e)

-- no list grows
pub length_without_le : (x : ℕ) (l : List ℕ) → length (without x l) ≤ length l
unfolding without
length_without_le x [] = omega arith
length_without_le x (z ∷ l) = go (eqb x z) (length_without_le x l)
  where
    go : (b : Bool) → length (without x l) ≤ length l → length (cond b (without x l) (z ∷ without x l)) ≤ length (z ∷ l)
    go true h = omega arith
    go false h = omega arith

-- a list is shorter without a number that is in it
pub length_without : (x : ℕ) (l : List ℕ) → elem x l ≡ true → length (without x l) < length l
unfolding elem without
length_without x [] e = elem_none x e
length_without x (z ∷ l) e = go (decided (eqb x z)) (length_without x l)
  where
    go : Decided (eqb x z) → (elem x l ≡ true → length (without x l) < length l) →
        length (cond (eqb x z) (without x l) (z ∷ without x l)) < length (z ∷ l)
    go (inl p) f = rw p (omega (arith, length_without_le x l))
    go (inr p) f = rw p (omega (arith, f (rw p at e)))

-- by exactly one, if it has no repeats
pub length_without_one : (x : ℕ) (l : List ℕ) → distinct l ≡ true → elem x l ≡ true → suc (length (without x l)) ≡ length l
unfolding elem without
length_without_one x [] d e = elem_none x e
length_without_one x (z ∷ l) d e = go (decided (eqb x z)) (length_without_one x l (distinct_rest z l d))
  where
    go : Decided (eqb x z) → (elem x l ≡ true → suc (length (without x l)) ≡ length l) →
        suc (length (cond (eqb x z) (without x l) (z ∷ without x l))) ≡ length (z ∷ l)
    go (inl p) f = let s : x ≡ z = eqb-true x z p in rw (p, s, without_none z l (distinct_first z l d))
    go (inr p) f = rw p (ap suc (f (rw p at e)))

-- pigeonhole: a list without repeats is no longer than a list that has all its numbers
pub distinct_fits : (l m : List ℕ) → distinct l ≡ true → ((x : ℕ) → elem x l ≡ true → elem x m ≡ true) →
    length l ≤ length m
distinct_fits [] m d f = omega arith
distinct_fits (x ∷ l) m d f =
    let shorter : length l ≤ length (without x m) = distinct_fits l (without x m) (distinct_rest x l d) kept in
    omega (arith, length_without x m (f x (elem_here x l)))
  where
    kept : (y : ℕ) → elem y l ≡ true → elem y (without x m) ≡ true
    kept y p =
        elem_without x y m (λ q. not_both (elem x l) (rw q p) (distinct_first x l d)) ∙ f y (elem_there y x l p)
