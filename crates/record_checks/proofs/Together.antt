-- What sound rings are: the live ones and the quarantined ones fit, and all together, each once, have room.
use Prim.Native.Nat.{ℕ, ◌+◌, ◌≤◌}
use mathlib.Core.Path.{◌≡◌, refl, sym}
use mathlib.Core.Logic.{◌⊎◌, inl, inr, ⊎_elim}
use mathlib.Core.Bool.{Bool, true, false, not, ◌&&◌, ◌||◌}
use mathlib.Core.List.{List, [], ◌∷◌, ◌++◌}
use borrow.Author.Tests.{eq-eqb, eqb-true, le-leb, leb-true}
use lib.Dec.{eqb, leb}
use lib.ListN.{length, length-append}
use Rattle.laws.specs.Distinct.{elem, distinct}
use Rattle.laws.proofs.Tests.{and_left, and_right, and-true, not_both}
use Rattle.laws.proofs.Cases.{decided, false_if}
use Rattle.laws.proofs.Distinct.{distinct_first, distinct_rest, distinct_cons, distinct_append, distinct_fits, elem_place}
use Rattle.record_ring.specs.Rings.{ring_ok, rings_ok, not_among}
use Rattle.record_ring.proofs.Laws.{ring_at}
use Rattle.record_ring.proofs.Entered.{rings_ok_append, elem_left, elem_right, elem_either, not_among_from, not_among_has, not_among_distinct, not_among_ok}
use Rattle.record_checks.specs.Rings.{each_once, sound_rings}

pub record SoundRings (usable : Bool) (live quarantined : List ℕ) : Type 0 where
  pub few : length (each_once live quarantined) ≤ 61
  pub live_ok : rings_ok live ≡ true
  pub live_distinct : distinct live ≡ true
  pub ok : rings_ok quarantined ≡ true
  pub apart : distinct quarantined ≡ true
  pub free : usable ≡ true → length quarantined ≡ 0

-- Parts of rings that fit.
pub rings_ok_elem : (l : List ℕ) → rings_ok l ≡ true → (x : ℕ) → elem x l ≡ true → ring_ok x ≡ true
rings_ok_elem l e x h = let t = elem_place x l h in rw (← t.2) (ring_at l e t.0 t.1)

pub rings_ok_left : (l m : List ℕ) → rings_ok (l ++ m) ≡ true → rings_ok l ≡ true
unfolding rings_ok
rings_ok_left [] m e = refl
rings_ok_left (x ∷ l) m e =
    and-true (ring_ok x) (rings_ok l) (and_left (ring_ok x) (rings_ok (l ++ m)) e)
    (rings_ok_left l m (and_right (ring_ok x) (rings_ok (l ++ m)) e))

pub distinct_left : (l m : List ℕ) → distinct (l ++ m) ≡ true → distinct l ≡ true
unfolding distinct
distinct_left [] m e = refl
distinct_left (x ∷ l) m e =
    distinct_cons x l
    (false_if (elem x l) (λ h. not_both (elem x (l ++ m)) (elem_left x l m h) (distinct_first x (l ++ m) e)))
    (distinct_left l m (distinct_rest x (l ++ m) e))

-- Rings each of which is one.
pub rings_ok_each : (l : List ℕ) → ((x : ℕ) → elem x l ≡ true → ring_ok x ≡ true) → rings_ok l ≡ true
unfolding rings_ok elem
rings_ok_each [] h = refl
rings_ok_each (x ∷ l) h =
    and-true (ring_ok x) (rings_ok l) (h x (elem_left x (x ∷ []) l (rw (eq-eqb x x refl)))) (rings_ok_each l (λ y e. h y (elem_right y (x ∷ []) l e)))

module _ (live quarantined : List ℕ) where
  -- A ring of either is among all of them, and no other is.
  pub once_live : (x : ℕ) → elem x live ≡ true → elem x (each_once live quarantined) ≡ true
  unfolding each_once
  once_live x h = elem_left x live (not_among live quarantined) h

  once_other : (x : ℕ) → elem x quarantined ≡ true → elem x live ≡ false → elem x (each_once live quarantined) ≡ true
  unfolding each_once
  once_other x h e = elem_right x live (not_among live quarantined) (not_among_has live quarantined x h e)

  pub once_kept : (x : ℕ) → elem x quarantined ≡ true → elem x (each_once live quarantined) ≡ true
  once_kept x h = ⊎_elim (once_live x) (once_other x h) (decided (elem x live))

  pub once_from : (x : ℕ) → elem x (each_once live quarantined) ≡ true → (elem x live ≡ true) ⊎ (elem x quarantined ≡ true)
  unfolding each_once
  once_from x h =
      ⊎_elim (λ s. inl s) (λ s. inr (not_among_from live quarantined x s).0) (elem_either x live (not_among live quarantined) h)

  once_distinct : distinct live ≡ true → distinct quarantined ≡ true → distinct (each_once live quarantined) ≡ true
  unfolding each_once
  once_distinct d q =
      distinct_append live (not_among live quarantined) d (not_among_distinct live quarantined q)
      (λ x h. false_if (elem x (not_among live quarantined)) (λ g. not_both (elem x live) h (not_among_from live quarantined x g).1))

  once_ok : rings_ok live ≡ true → rings_ok quarantined ≡ true → rings_ok (each_once live quarantined) ≡ true
  unfolding each_once
  once_ok o k = rings_ok_append live (not_among live quarantined) o (not_among_ok live quarantined k)

  once_live_ok : rings_ok (each_once live quarantined) ≡ true → rings_ok live ≡ true
  unfolding each_once
  once_live_ok e = rings_ok_left live (not_among live quarantined) e

  once_live_distinct : distinct (each_once live quarantined) ≡ true → distinct live ≡ true
  unfolding each_once
  once_live_distinct e = distinct_left live (not_among live quarantined) e

  pub once_length : length (each_once live quarantined) ≡ length live + length (not_among live quarantined)
  unfolding each_once
  once_length = length-append live (not_among live quarantined)

-- Rings of which each is one of these are no more than these.
pub once_fits : (live quarantined l q : List ℕ) → distinct l ≡ true → distinct q ≡ true →
    ((x : ℕ) → elem x l ≡ true → elem x (each_once live quarantined) ≡ true) →
    ((x : ℕ) → elem x q ≡ true → elem x (each_once live quarantined) ≡ true) →
    length (each_once l q) ≤ length (each_once live quarantined)
once_fits live quarantined l q d e f g =
    distinct_fits (each_once l q) (each_once live quarantined) (once_distinct l q d e)
    (λ x h. ⊎_elim (f x) (g x) (once_from l q x h))

pub both_ways : (a b : Bool) → (a ≡ true → b ≡ true) → (b ≡ true → a ≡ true) → a ≡ b
both_ways true b f g = sym (f refl)
both_ways false true f g = g refl
both_ways false false f g = refl

module _ (usable : Bool) (live quarantined : List ℕ) where
  none_if : (u : Bool) (n : ℕ) → (not u || eqb n 0) ≡ true → u ≡ true → n ≡ 0
  none_if true n e h = eqb-true n 0 e
  none_if false n e h = not_both false h refl

  if_none : (u : Bool) (n : ℕ) → (u ≡ true → n ≡ 0) → (not u || eqb n 0) ≡ true
  if_none true n h = eq-eqb n 0 (h refl)
  if_none false n h = refl

  -- What the test tells.
  pub rings_told : sound_rings usable live quarantined ≡ true → SoundRings usable live quarantined
  rings_told e =
      let all = each_once live quarantined in
      let few = leb (length all) 61 in
      let free = not usable || eqb (length quarantined) 0 in
      let fits = rings_ok all && distinct all in
      let e1 : (few && fits) ≡ true = and_left (few && fits) (distinct quarantined && free) e in
      let e2 : (distinct quarantined && free) ≡ true = and_right (few && fits) (distinct quarantined && free) e in
      let e3 : fits ≡ true = and_right few fits e1 in
      let ok : rings_ok all ≡ true = and_left (rings_ok all) (distinct all) e3 in
      record {
        few = leb-true (length all) 61 (and_left few fits e1);
        live_ok = once_live_ok live quarantined ok;
        live_distinct = once_live_distinct live quarantined (and_right (rings_ok all) (distinct all) e3);
        ok = rings_ok_each quarantined (λ x h. rings_ok_elem all ok x (once_kept live quarantined x h));
        apart = and_left (distinct quarantined) free e2;
        free = none_if usable (length quarantined) (and_right (distinct quarantined) free e2);
      }

  -- And what it asks.
  pub rings_sound : SoundRings usable live quarantined → sound_rings usable live quarantined ≡ true
  rings_sound s =
      let all = each_once live quarantined in
      let free = not usable || eqb (length quarantined) 0 in
      let few = leb (length all) 61 in
      and-true (few && (rings_ok all && distinct all)) (distinct quarantined && free)
      (and-true few (rings_ok all && distinct all) (le-leb (length all) 61 s.few)
      (and-true (rings_ok all) (distinct all) (once_ok live quarantined s.live_ok s.ok) (once_distinct live quarantined s.live_distinct s.apart)))
      (and-true (distinct quarantined) free s.apart (if_none usable (length quarantined) s.free))

  -- As the code tests them: nothing is quarantined while the record is usable, each fits, and there is room.
  pub sound_tests :
      sound_rings usable live quarantined
      ≡ ((((not usable || eqb (length quarantined) 0) && (rings_ok live && distinct live)) && (rings_ok quarantined && distinct quarantined))
      && leb (length live + length (not_among live quarantined)) 61)
  sound_tests =
      let free = not usable || eqb (length quarantined) 0 in
      let first = rings_ok live && distinct live in
      let second = rings_ok quarantined && distinct quarantined in
      let room = leb (length live + length (not_among live quarantined)) 61 in
      both_ways (sound_rings usable live quarantined) (((free && first) && second) && room)
      (λ e. let s = rings_told e in
      and-true ((free && first) && second) room
      (and-true (free && first) second
      (and-true free first (if_none usable (length quarantined) s.free) (and-true (rings_ok live) (distinct live) s.live_ok s.live_distinct))
      (and-true (rings_ok quarantined) (distinct quarantined) s.ok s.apart))
      (le-leb (length live + length (not_among live quarantined)) 61 (rw (once_length live quarantined) at s.few)))
      (λ e.
      let tests : ((free && first) && second) ≡ true = and_left ((free && first) && second) room e in
      let one : (free && first) ≡ true = and_left (free && first) second tests in
      let fits : first ≡ true = and_right free first one in
      let kept : second ≡ true = and_right (free && first) second tests in
      rings_sound
      (record {
        few = rw (once_length live quarantined) (leb-true (length live + length (not_among live quarantined)) 61 (and_right ((free && first) && second) room e));
        live_ok = and_left (rings_ok live) (distinct live) fits;
        live_distinct = and_right (rings_ok live) (distinct live) fits;
        ok = and_left (rings_ok quarantined) (distinct quarantined) kept;
        apart = and_right (rings_ok quarantined) (distinct quarantined) kept;
        free = none_if usable (length quarantined) (and_left free first one);
      }))
