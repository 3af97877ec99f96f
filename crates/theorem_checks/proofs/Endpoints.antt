-- The endpoints of arrays, by place and by index.
use Prim.Native.Nat.{ℕ, zero, suc, ◌<◌}
use mathlib.Core.Path.{◌≡◌, refl, sym, ap, ◌∙◌}
use mathlib.Core.Logic.{◌⊎◌, inl, inr}
use mathlib.Core.Bool.{true, not, ◌&&◌}
use mathlib.Core.List.{List, [], ◌∷◌}
use native.Mathlib.Decide.{dec_lt}
use native.Mathlib.Omega.{arith}
use borrow.Author.Tests.{lt-ltb, eqb-true, eqb-false}
use lib.Dec.{eqb, ltb}
use lib.ListN.{length, get_or, take, length-take, get_or-eq_default}
use lib.Seq.{get_or-take}
use Rattle.laws.specs.Distinct.{elem, distinct}
use Rattle.laws.proofs.Tests.{and-true}
use Rattle.laws.proofs.Cases.{Decided, decided}
use Rattle.laws.proofs.Distinct.{elem_at, elem_place, distinct_first, distinct_rest, distinct_cons}
use Rattle.record_endpoint.specs.declared.entry.Endpoint.{Endpoint}
use Rattle.record_endpoint.specs.Order.{place_of}
use Rattle.record_endpoint.specs.Endpoint.{blank, addresses, addresses_fit, rings_of}
use Rattle.record_endpoint.proofs.Laws.{no_place_low}
use Rattle.record_endpoint.proofs.Clean.{fit_cons}
use Rattle.theorem_checks.proofs.Numbers.{differ_distinct, distinct_differ}

-- The first of k numbers that a function takes to another, or that there is none.
pub one_of : (f : ℕ → ℕ) (p n : ℕ) → ((k : ℕ) × (k < n) × (f k ≡ p)) ⊎ ((k : ℕ) → k < n → f k ≡ p → ⊥)
one_of f p zero = inr (λ k h e. omega arith)
one_of f p (suc n) = go (decided (eqb (f n) p)) (one_of f p n)
  where
    none : (f n ≡ p → ⊥) → ((k : ℕ) → k < n → f k ≡ p → ⊥) → (k : ℕ) → k < suc n → f k ≡ p → Dec (k < n) → ⊥
    none m g k h e (yes l) = g k l e
    none m g k h e (no l) = let s : k ≡ n = omega arith in m (rw s at e)

    go : Decided (eqb (f n) p) → ((k : ℕ) × (k < n) × (f k ≡ p)) ⊎ ((k : ℕ) → k < n → f k ≡ p → ⊥) →
        ((k : ℕ) × (k < suc n) × (f k ≡ p)) ⊎ ((k : ℕ) → k < suc n → f k ≡ p → ⊥)
    go (inl e) g = inl (n, omega arith, eqb-true (f n) p e)
    go (inr m) (inl t) = inl (t.0, omega (arith, t.1), t.2)
    go (inr m) (inr g) = inr (λ k h e. none (eqb-false (f n) p m) g k h e (dec_lt k n))

rings_length : (es : List Endpoint) → length (rings_of es) ≡ length es
unfolding rings_of
rings_length [] = refl
rings_length (e ∷ es) = ap suc (rings_length es)

addresses_length : (es : List Endpoint) → length (addresses es) ≡ length es
unfolding addresses
addresses_length [] = refl
addresses_length (e ∷ es) = ap suc (addresses_length es)

addresses_at : (es : List Endpoint) (k : ℕ) → get_or (addresses es) k 0 ≡ (get_or es k blank).address
unfolding addresses
addresses_at [] k = refl
addresses_at (e ∷ es) zero = refl
addresses_at (e ∷ es) (suc k) = addresses_at es k

rings_at : (es : List Endpoint) (k : ℕ) → get_or (rings_of es) k 0 ≡ (get_or es k blank).ring
unfolding rings_of
rings_at [] k = refl
rings_at (e ∷ es) zero = refl
rings_at (e ∷ es) (suc k) = rings_at es k

module _ (n : ℕ) (eps : List Endpoint) where
  -- An address with a place is one in the array.
  pub inside_lem : (k : ℕ) → place_of (get_or eps k blank).address < 30 → k < length eps
  inside_lem k h = go (dec_lt k (length eps))
    where
      go : Dec (k < length eps) → k < length eps
      go (yes l) = l
      go (no l) =
          let z : get_or eps k blank ≡ blank = get_or-eq_default eps blank (omega arith) in
          let t : place_of (get_or eps k blank).address ≡ 30 = rw z (no_place_low 0 (omega arith)) in
          absurd (omega arith)

  abbrev front : List Endpoint
  front = take n eps

  front_length : (k : ℕ) → k < n → k < length eps → k < length front
  front_length k h l = omega (arith, length-take n eps)

  front_inside : (k : ℕ) → k < length front → (k < n) × (k < length eps)
  front_inside k h = (omega (arith, length-take n eps), omega (arith, length-take n eps))

  pub address_at_lem : (k : ℕ) → k < n → get_or (addresses (take n eps)) k 0 ≡ (get_or eps k blank).address
  address_at_lem k h = addresses_at front k ∙ rw (get_or-take n eps k blank h)

  pub ring_at_lem : (k : ℕ) → k < n → get_or (rings_of (take n eps)) k 0 ≡ (get_or eps k blank).ring
  ring_at_lem k h = rings_at front k ∙ rw (get_or-take n eps k blank h)

  pub rings_count : (k : ℕ) → k < n → k < length eps → k < length (rings_of (take n eps))
  rings_count k h l = omega (arith, rings_length front, front_length k h l)

  pub rings_made : ((j k : ℕ) → j < n → j < length eps → k < n → k < length eps → (get_or eps j blank).ring ≡ (get_or eps k blank).ring → j ≡ k) →
      distinct (rings_of (take n eps)) ≡ true
  rings_made f =
      differ_distinct (rings_of front)
      (λ j k p q e.
      let i = front_inside j (omega (arith, rings_length front)) in
      let m = front_inside k (omega (arith, rings_length front)) in
      f j k i.0 i.1 m.0 m.1 (sym (ring_at_lem j i.0) ∙ e ∙ ring_at_lem k m.0))

  pub ring_elem : (k : ℕ) → k < n → k < length eps → elem (get_or eps k blank).ring (rings_of (take n eps)) ≡ true
  ring_elem k h l = rw (← ring_at_lem k h) (elem_at (rings_of front) k (omega (arith, rings_length front, front_length k h l)))

  pub elem_ring : (x : ℕ) → elem x (rings_of (take n eps)) ≡ true → (k : ℕ) × (k < n) × (k < length eps) × ((get_or eps k blank).ring ≡ x)
  elem_ring x e =
      let t = elem_place x (rings_of front) e in
      let i = front_inside t.0 (omega (arith, t.1, rings_length front)) in
      (t.0, i.0, i.1, sym (ring_at_lem t.0 i.0) ∙ t.2)

-- Addresses that fit.
fit_each : (l : List ℕ) → addresses_fit l ≡ true → (k : ℕ) → k < length l → place_of (get_or l k 0) < 30
fit_each [] f k h = absurd (omega arith)
fit_each (a ∷ l) f zero h = (fit_cons a l f).0
fit_each (a ∷ l) f (suc k) h = fit_each l (fit_cons a l f).2 k (omega arith)

fit_distinct : (l : List ℕ) → addresses_fit l ≡ true → distinct l ≡ true
unfolding distinct
fit_distinct [] f = refl
fit_distinct (a ∷ l) f = let t = fit_cons a l f in distinct_cons a l t.1 (fit_distinct l t.2)

each_fit : (l : List ℕ) → ((k : ℕ) → k < length l → place_of (get_or l k 0) < 30) → distinct l ≡ true → addresses_fit l ≡ true
unfolding addresses_fit distinct
each_fit [] f d = refl
each_fit (a ∷ l) f d =
    and-true (ltb (place_of a) 30 && not (elem a l)) (addresses_fit l)
    (and-true (ltb (place_of a) 30) (not (elem a l)) (lt-ltb (place_of a) 30 (f 0 (omega arith))) (rw (distinct_first a l d)))
    (each_fit l (λ k h. f (suc k) (omega arith)) (distinct_rest a l d))

module _ (n : ℕ) (eps : List Endpoint) where
  pub fit_place : addresses_fit (addresses (take n eps)) ≡ true → (k : ℕ) → k < n → k < length eps → place_of (get_or eps k blank).address < 30
  fit_place f k h l =
      rw (← address_at_lem n eps k h)
      (fit_each (addresses (take n eps)) f k (omega (arith, addresses_length (take n eps), front_length n eps k h l)))

  pub fit_differ : addresses_fit (addresses (take n eps)) ≡ true → (j k : ℕ) → j < n → j < length eps → k < n → k < length eps →
      (get_or eps j blank).address ≡ (get_or eps k blank).address → j ≡ k
  fit_differ f j k h l g m e =
      distinct_differ (addresses (take n eps)) (fit_distinct (addresses (take n eps)) f) j k
      (omega (arith, addresses_length (take n eps), front_length n eps j h l))
      (omega (arith, addresses_length (take n eps), front_length n eps k g m))
      (address_at_lem n eps j h ∙ e ∙ sym (address_at_lem n eps k g))

  pub fit_made : ((k : ℕ) → k < n → k < length eps → place_of (get_or eps k blank).address < 30) →
      ((j k : ℕ) → j < n → j < length eps → k < n → k < length eps → (get_or eps j blank).address ≡ (get_or eps k blank).address → j ≡ k) →
      addresses_fit (addresses (take n eps)) ≡ true
  fit_made f g =
      let count = addresses_length (take n eps) in
      each_fit (addresses (take n eps))
      (λ k h. let i = front_inside n eps k (omega (arith, count)) in rw (address_at_lem n eps k i.0) (f k i.0 i.1))
      (differ_distinct (addresses (take n eps))
      (λ j k p q e.
      let i = front_inside n eps j (omega (arith, count)) in
      let m = front_inside n eps k (omega (arith, count)) in
      g j k i.0 i.1 m.0 m.1 (sym (address_at_lem n eps j i.0) ∙ e ∙ address_at_lem n eps k m.0)))
