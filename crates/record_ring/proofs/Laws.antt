-- What callers use of rings.
use Prim.Native.Nat.{ℕ, zero, suc, ◌%◌, ◌<◌}
use mathlib.Core.Path.{◌≡◌, refl, sym}
use mathlib.Core.Logic.{◌⊎◌, inl, inr}
use mathlib.Core.Bool.{true, false, not, ◌&&◌}
use mathlib.Core.List.{List, [], ◌∷◌}
use native.Mathlib.Omega.{arith}
use borrow.Author.Tests.{eq-eqb, ne_eqb, eqb-true, eqb-false, not-true}
use lib.Dec.{eqb}
use lib.ListN.{length, get_or}
use Rattle.laws.proofs.Tests.{and_left, and_right}
use Rattle.std.specs.List.{list_any}
use Rattle.laws.proofs.Cases.{Decided, decided}
use Rattle.laws.specs.Distinct.{elem, distinct}
use Rattle.laws.proofs.Distinct.{elem_none, elem_here, elem_there, elem_cases}
use Rattle.record_ring.specs.Rings.{ring_ok, rings_ok, disjoint, offer_ok}

-- Each of them is a nonzero multiple of 16.
pub ring_at : (l : List ℕ) → rings_ok l ≡ true → (i : ℕ) → i < length l → ring_ok (get_or l i 0) ≡ true
unfolding rings_ok
ring_at [] e i h = absurd (omega arith)
ring_at (r ∷ l) e zero h = and_left (ring_ok r) (rings_ok l) e
ring_at (r ∷ l) e (suc i) h = ring_at l (and_right (ring_ok r) (rings_ok l) e) i (omega arith)

-- No ring is 0.
pub ring_nonzero : (r : ℕ) → ring_ok r ≡ true → r ≡ 0 → ⊥
unfolding ring_ok
ring_nonzero r e = eqb-false r 0 (not-true (eqb r 0) (and_left (not (eqb r 0)) (eqb (r % 16) 0) e))

-- What is among rings that are disjoint from others is not among the others.
pub disjoint_elem : (l m : List ℕ) → disjoint l m ≡ true → (x : ℕ) → elem x l ≡ true → elem x m ≡ false
unfolding disjoint
disjoint_elem [] m e x h = elem_none x h
disjoint_elem (r ∷ l) m e x h =
    go (elem_cases x r l h)
    (not-true (elem r m) (and_left (not (elem r m)) (disjoint l m) e))
    (disjoint_elem l m (and_right (not (elem r m)) (disjoint l m) e) x)
  where
    go : (x ≡ r) ⊎ (elem x l ≡ true) → elem r m ≡ false → (elem x l ≡ true → elem x m ≡ false) → elem x m ≡ false
    go (inl s) f g = rw s f
    go (inr s) f g = g s

-- Rings none of which is among others.
pub disjoint_from : (l m : List ℕ) → ((x : ℕ) → elem x l ≡ true → elem x m ≡ false) → disjoint l m ≡ true
unfolding disjoint
disjoint_from [] m f = refl
disjoint_from (r ∷ l) m f = rw (f r (elem_here r l), disjoint_from l m (λ x e. f x (elem_there x r l e)))

-- What a passed offer tells.
pub record Offered (count : ℕ) (rings live : List ℕ) (control : ℕ) (quarantined : List ℕ) : Type 0 where
  pub counted : length rings ≡ count
  pub ok : rings_ok rings ≡ true
  pub apart : distinct rings ≡ true
  pub not_live : disjoint rings live ≡ true
  pub not_control : elem control rings ≡ false
  pub not_quarantined : disjoint rings quarantined ≡ true

pub offered :
    (count : ℕ) (rings live : List ℕ) (control : ℕ) (quarantined : List ℕ) →
    offer_ok count rings live control quarantined ≡ true → Offered count rings live control quarantined
unfolding offer_ok
offered count rings live control quarantined e =
    let b = rings_ok rings in
    let d = distinct rings in
    let l = disjoint rings live in
    let n = not (elem control rings) in
    let q = disjoint rings quarantined in
    let t = eqb (length rings) count in
    let e1 : (b && (d && (l && (n && q)))) ≡ true = and_right t (b && (d && (l && (n && q)))) e in
    let e2 : (d && (l && (n && q))) ≡ true = and_right b (d && (l && (n && q))) e1 in
    let e3 : (l && (n && q)) ≡ true = and_right d (l && (n && q)) e2 in
    let e4 : (n && q) ≡ true = and_right l (n && q) e3 in
    record {
      counted = eqb-true (length rings) count (and_left t (b && (d && (l && (n && q)))) e);
      ok = and_left b (d && (l && (n && q))) e1;
      apart = and_left d (l && (n && q)) e2;
      not_live = and_left l (n && q) e3;
      not_control = not-true (elem control rings) (and_left n q e4);
      not_quarantined = and_right n q e4;
    }

-- Rings looked up as the library does.
turned : (a b : ℕ) → eqb a b ≡ eqb b a
turned a b = go (decided (eqb b a))
  where
    go : Decided (eqb b a) → eqb a b ≡ eqb b a
    go (inl p) = rw p (eq-eqb a b (sym (eqb-true b a p)))
    go (inr p) = rw p (ne_eqb a b (λ e. eqb-false b a p (sym e)))

pub any_elem : (x : ℕ) (l : List ℕ) → list_any (λ y. eqb y x) l ≡ elem x l
unfolding elem
any_elem x [] = refl
any_elem x (y ∷ l) = rw (turned y x, any_elem x l)
