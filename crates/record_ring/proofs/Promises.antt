-- Given, free and drawn rings are what is promised of them.
use Prim.Native.Nat.{ℕ, suc, ◌+◌, ◌%◌, ◌≤◌, ◌<◌}
use mathlib.Core.Path.{◌≡◌, refl, sym, ◌∙◌}
use mathlib.Core.Logic.{◌⊎◌, inl, inr}
use mathlib.Core.Bool.{true, false, not, ◌&&◌, ◌||◌}
use mathlib.Core.List.{List, [], ◌∷◌, ◌++◌}
use native.Mathlib.Omega.{arith}
use borrow.Author.Tests.{leb-true, leb-false, le-leb, eqb-true, eqb-false, eq-eqb, ne_eqb, not-true}
use lib.Dec.{eqb, leb}
use lib.ListN.{length, get_or, take}
use lib.Seq.{length-take-le}
use Rattle.laws.specs.Distinct.{elem, distinct}
use Rattle.laws.proofs.Tests.{and_left, and_right, and-true}
use Rattle.laws.proofs.Cases.{Decided, decided, false_if, or_none}
use Rattle.laws.proofs.Distinct.{elem_none, elem_here, elem_there, elem_cases, elem_at, elem_place, elem_append, distinct_first, distinct_rest, distinct_cons, distinct_place, without, elem_without, length_without_one, distinct_without}
use Rattle.record_ring.specs.Rings.{ring_ok, rings_ok, not_among, offer_ok}
use Rattle.record_ring.specs.Store.{GIVEN-ROOM, given_ok, among, inserted, sorted, lowest, least, free_rings}
use Rattle.record_ring.specs.Promises.{Given, GivenPromise, LowestPromise, LeastPromise, Free, FreePromise, CountPromise, DrawnPromise}
use Rattle.record_ring.proofs.Laws.{ring_at, ring_nonzero, disjoint_from}
use Rattle.record_ring.proofs.Sorted.{Rises, elem_sorted, length_sorted, rises_sorted, rises_distinct, elem_take, rises_take, rises_at, rises_left_out, elem_not_among, distinct_not_among, lower, least_cons, not_among_none, not_among_without}

-- Given rings.
ring_multiple : (r : ℕ) → ring_ok r ≡ true → r % 16 ≡ 0
unfolding ring_ok
ring_multiple r e = eqb-true (r % 16) 0 (and_right (not (eqb r 0)) (eqb (r % 16) 0) e)

ring_is : (r : ℕ) → (r ≡ 0 → ⊥) → r % 16 ≡ 0 → ring_ok r ≡ true
unfolding ring_ok
ring_is r n m = rw (ne_eqb r 0 n, eq-eqb (r % 16) 0 m)

rings_are : (l : List ℕ) → ((i : ℕ) → i < length l → ring_ok (get_or l i 0) ≡ true) → rings_ok l ≡ true
unfolding rings_ok
rings_are [] f = refl
rings_are (r ∷ l) f = and-true (ring_ok r) (rings_ok l) (f 0 (omega arith)) (rings_are l (λ i h. f (suc i) (omega arith)))

apart_distinct :
    (l : List ℕ) → ((i j : ℕ) → i < length l → j < length l → get_or l i 0 ≡ get_or l j 0 → i ≡ j) → distinct l ≡ true
unfolding distinct
apart_distinct [] f = refl
apart_distinct (r ∷ l) f =
    distinct_cons r l (false_if (elem r l) here) (apart_distinct l (λ i j p q e. suc_same i j (f (suc i) (suc j) (omega arith) (omega arith) e)))
  where
    suc_same : (i j : ℕ) → suc i ≡ suc j → i ≡ j
    suc_same i j e = omega (arith, e)

    here : elem r l ≡ true → ⊥
    here e =
        let t = elem_place r l e in
        let z : 0 ≡ suc t.0 = f 0 (suc t.0) (omega arith) (omega (arith, t.1)) (sym t.2) in
        absurd (omega (arith, z))

given_read : (rings : List ℕ) → given_ok rings ≡ true → Given rings
unfolding given_ok
given_read rings e =
    let n = leb 1 (length rings) && leb (length rings) GIVEN-ROOM in
    let f = rings_ok rings && distinct rings in
    let counted : n ≡ true = and_left n f e in
    let fit : f ≡ true = and_right n f e in
    let ok : rings_ok rings ≡ true = and_left (rings_ok rings) (distinct rings) fit in
    record {
      some = leb-true 1 (length rings) (and_left (leb 1 (length rings)) (leb (length rings) GIVEN-ROOM) counted);
      room = leb-true (length rings) 64 (and_right (leb 1 (length rings)) (leb (length rings) GIVEN-ROOM) counted);
      nonzero = λ i h. ring_nonzero (get_or rings i 0) (ring_at rings ok i h);
      multiple = λ i h. ring_multiple (get_or rings i 0) (ring_at rings ok i h);
      apart = distinct_place rings (and_right (rings_ok rings) (distinct rings) fit);
    }

given_made : (rings : List ℕ) → Given rings → given_ok rings ≡ true
unfolding given_ok
given_made rings g =
    rw (
      le-leb 1 (length rings) g.some,
      le-leb (length rings) 64 g.room,
      rings_are rings (λ i h. ring_is (get_or rings i 0) (g.nonzero i h) (g.multiple i h)),
      apart_distinct rings g.apart,
    )

pub given_promise : GivenPromise
given_promise rings = (given_read rings, given_made rings)

-- The lowest ones.
pub lowest_promise : LowestPromise
unfolding lowest
lowest_promise n rings d =
    let h : Rises (sorted rings) = rises_sorted rings d in
    record {
      counted = λ le. length-take-le n (sorted rings) (omega (arith, length_sorted rings));
      of_them = λ x e. sym (elem_sorted x rings) ∙ elem_take n x (sorted rings) e;
      rise = rises_at (take n (sorted rings)) (rises_take n (sorted rings) h);
      left_out = λ x y e p. rises_left_out n (sorted rings) h x y e (elem_sorted y rings ∙ p);
    }

-- The lowest.
least_one : (r : ℕ) → least (r ∷ []) ≡ r
unfolding least sorted inserted
least_one r = refl

least_first : (r : ℕ) (l : List ℕ) → (least (r ∷ l) ≡ r) ⊎ ((0 < length l) × (least (r ∷ l) ≡ least l))
least_first r [] = inl (least_one r)
least_first r (s ∷ l) = go (decided (leb r (least (s ∷ l)))) (least_cons r (s ∷ l) (omega arith))
  where
    go : Decided (leb r (least (s ∷ l))) → least (r ∷ s ∷ l) ≡ lower r (least (s ∷ l)) →
        (least (r ∷ s ∷ l) ≡ r) ⊎ ((0 < length (s ∷ l)) × (least (r ∷ s ∷ l) ≡ least (s ∷ l)))
    go (inl b) e = inl (e ∙ rw b)
    go (inr b) e = inr (omega arith, e ∙ rw b)

least_of : (l : List ℕ) → 0 < length l → elem (least l) l ≡ true
least_of [] h = absurd (omega arith)
least_of (r ∷ l) h = go (least_first r l) (least_of l)
  where
    go : (least (r ∷ l) ≡ r) ⊎ ((0 < length l) × (least (r ∷ l) ≡ least l)) → (0 < length l → elem (least l) l ≡ true) →
        elem (least (r ∷ l)) (r ∷ l) ≡ true
    go (inl e) f = rw e (elem_here r l)
    go (inr e) f = rw e.1 (elem_there (least l) r l (f e.0))

some_or : (l : List ℕ) → (0 < length l) ⊎ (length l ≡ 0)
some_or [] = inr refl
some_or (r ∷ l) = inl (omega arith)

some_there : (x : ℕ) (l : List ℕ) → elem x l ≡ true → 0 < length l
some_there x [] e = elem_none x e
some_there x (r ∷ l) e = omega arith

least_bound : (l : List ℕ) (x : ℕ) → elem x l ≡ true → least l ≤ x
least_bound [] x e = elem_none x e
least_bound (r ∷ l) x e = go (elem_cases x r l e) (least_bound l x)
  where
    first : (0 < length l) ⊎ (length l ≡ 0) → least (r ∷ l) ≤ r
    first (inl h) = rw (least_cons r l h) (low (decided (leb r (least l))))
      where
        low : Decided (leb r (least l)) → lower r (least l) ≤ r
        low (inl b) = rw b (omega arith)
        low (inr b) = rw b (omega (arith, leb-false r (least l) b))
    first (inr h) = none l h
      where
        none : (m : List ℕ) → length m ≡ 0 → least (r ∷ m) ≤ r
        none [] h = rw (least_one r) (omega arith)
        none (s ∷ m) h = absurd (omega (arith, h))

    later : (0 < length l) → least (r ∷ l) ≤ least l
    later h = rw (least_cons r l h) (low (decided (leb r (least l))))
      where
        low : Decided (leb r (least l)) → lower r (least l) ≤ least l
        low (inl b) = rw b (leb-true r (least l) b)
        low (inr b) = rw b (omega arith)

    go : (x ≡ r) ⊎ (elem x l ≡ true) → (elem x l ≡ true → least l ≤ x) → least (r ∷ l) ≤ x
    go (inl p) f = rw p (first (some_or l))
    go (inr p) f = omega (arith, later (some_there x l p), f p)

pub least_promise : LeastPromise
least_promise rings = record { of_them = least_of rings; none_lower = least_bound rings }

-- Free ones.
free_read :
    (given live : List ℕ) (control : ℕ) (quarantined : List ℕ) (x : ℕ) →
    elem x (free_rings given live control quarantined) ≡ true → Free given live control quarantined x
unfolding free_rings elem
free_read given live control quarantined x e =
    let used = live ++ (control ∷ quarantined) in
    let both : (elem x given && not (elem x used)) ≡ true = sym (elem_not_among x used given) ∙ e in
    let out : elem x used ≡ false = not-true (elem x used) (and_right (elem x given) (not (elem x used)) both) in
    let parts = or_none (elem x live) (eqb x control || elem x quarantined) (sym (elem_append x live (control ∷ quarantined)) ∙ out) in
    let rest = or_none (eqb x control) (elem x quarantined) parts.1 in
    record {
      is_given = and_left (elem x given) (not (elem x used)) both;
      not_live = parts.0;
      not_control = eqb-false x control rest.0;
      not_quarantined = rest.1;
    }

free_made :
    (given live : List ℕ) (control : ℕ) (quarantined : List ℕ) (x : ℕ) →
    Free given live control quarantined x → elem x (free_rings given live control quarantined) ≡ true
unfolding free_rings elem
free_made given live control quarantined x f =
    elem_not_among x (live ++ (control ∷ quarantined)) given
    ∙ rw (f.is_given, elem_append x live (control ∷ quarantined), f.not_live, ne_eqb x control f.not_control, f.not_quarantined)

pub free_promise : FreePromise
free_promise given live control quarantined x =
    (free_read given live control quarantined x, free_made given live control quarantined x)

-- Their number.
among_without : (u : ℕ) (l given : List ℕ) → elem u l ≡ false → among l given ≡ true → among l (without u given) ≡ true
unfolding among elem
among_without u [] given n e = refl
among_without u (r ∷ l) given n e =
    let t = or_none (eqb u r) (elem u l) n in
    and-true (elem r (without u given)) (among l (without u given))
    (elem_without u r given (eqb-false u r t.0) ∙ and_left (elem r given) (among l given) e)
    (among_without u l given t.1 (and_right (elem r given) (among l given) e))

among_first : (r : ℕ) (l given : List ℕ) → among (r ∷ l) given ≡ true → elem r given ≡ true
unfolding among
among_first r l given e = and_left (elem r given) (among l given) e

among_rest : (r : ℕ) (l given : List ℕ) → among (r ∷ l) given ≡ true → among l given ≡ true
unfolding among
among_rest r l given e = and_right (elem r given) (among l given) e

pub count_promise : CountPromise
count_promise given [] d u a = rw (not_among_none given) (omega arith)
count_promise given (r ∷ used) d u a =
    let there = among_first r used given a in
    let rest : length (not_among used (without r given)) + length used ≡ length (without r given) =
    count_promise (without r given) used (distinct_without r given d) (distinct_rest r used u)
    (among_without r used given (distinct_first r used u) (among_rest r used given a)) in
    rw (not_among_without r used given) (omega (arith, rest, length_without_one r given d there))

-- Drawn ones.
-- Given rings fit.
pub given_fits : (given : List ℕ) → given_ok given ≡ true → (rings_ok given && distinct given) ≡ true
unfolding given_ok
given_fits given e = and_right (leb 1 (length given) && leb (length given) GIVEN-ROOM) (rings_ok given && distinct given) e

given_ok_lem : (given : List ℕ) → given_ok given ≡ true → rings_ok given ≡ true
given_ok_lem given e = and_left (rings_ok given) (distinct given) (given_fits given e)

pub given_apart : (given : List ℕ) → given_ok given ≡ true → distinct given ≡ true
given_apart given e = and_right (rings_ok given) (distinct given) (given_fits given e)

free_distinct :
    (given live : List ℕ) (control : ℕ) (quarantined : List ℕ) →
    distinct given ≡ true → distinct (free_rings given live control quarantined) ≡ true
unfolding free_rings
free_distinct given live control quarantined d = distinct_not_among (live ++ (control ∷ quarantined)) given d

lowest_distinct : (n : ℕ) (l : List ℕ) → distinct l ≡ true → distinct (lowest n l) ≡ true
unfolding lowest
lowest_distinct n l d = rises_distinct (take n (sorted l)) (rises_take n (sorted l) (rises_sorted l d))

rings_of_lem : (l : List ℕ) → ((x : ℕ) → elem x l ≡ true → ring_ok x ≡ true) → rings_ok l ≡ true
rings_of_lem l f = rings_are l (λ i h. f (get_or l i 0) (elem_at l i h))

ring_of : (l : List ℕ) → rings_ok l ≡ true → (x : ℕ) → elem x l ≡ true → ring_ok x ≡ true
ring_of l e x h = let t = elem_place x l h in rw (← t.2) (ring_at l e t.0 t.1)

pub drawn_promise : DrawnPromise
unfolding offer_ok
drawn_promise n given live control quarantined g h =
    let free = free_rings given live control quarantined in
    let p = lowest_promise n free (free_distinct given live control quarantined (given_apart given g)) in
    let is : (x : ℕ) → elem x (lowest n free) ≡ true → Free given live control quarantined x =
    λ x e. free_read given live control quarantined x (p.of_them x e) in
    rw (
      eq-eqb (length (lowest n free)) n (p.counted h),
      rings_of_lem (lowest n free) (λ x e. ring_of given (given_ok_lem given g) x (is x e).is_given),
      lowest_distinct n free (free_distinct given live control quarantined (given_apart given g)),
      disjoint_from (lowest n free) live (λ x e. (is x e).not_live),
      false_if (elem control (lowest n free)) (λ e. (is control e).not_control refl),
      disjoint_from (lowest n free) quarantined (λ x e. (is x e).not_quarantined),
    )

-- A ring drawn is one of the given.
pub drawn_given :
    (n : ℕ) (given live : List ℕ) (control : ℕ) (quarantined : List ℕ) → given_ok given ≡ true →
    (x : ℕ) → elem x (lowest n (free_rings given live control quarantined)) ≡ true → elem x given ≡ true
drawn_given n given live control quarantined g x e =
    let p = lowest_promise n (free_rings given live control quarantined) (free_distinct given live control quarantined (given_apart given g)) in
    (free_read given live control quarantined x (p.of_them x e)).is_given
