-- The held settings of arrays, by place.
use Prim.Native.Nat.{ℕ, zero, suc, ◌<◌}
use mathlib.Core.Path.{◌≡◌, refl, sym, ◌∙◌}
use mathlib.Core.Logic.{inl, inr}
use mathlib.Core.Bool.{true, false, cond}
use mathlib.Core.List.{List}
use native.Mathlib.Omega.{arith}
use borrow.Author.Tests.{eqb-true, eq-eqb}
use lib.Dec.{eqb}
use lib.ListN.{length, get_or, drop}
use Rattle.laws.specs.Distinct.{distinct}
use Rattle.laws.proofs.Cases.{Decided, decided, or_right}
use Rattle.laws.proofs.Tests.{not_both}
use Rattle.laws.proofs.Distinct.{distinct_place}
use Rattle.laws.proofs.Stores.{get_d_second}
use Rattle.record_settings.specs.Held.{Held, held_in, interfaces_of, is_held, alternate_of}
use Rattle.record_settings.proofs.Laws.{interfaces_length, held_length}
use Rattle.theorem_checks.proofs.Numbers.{differ_distinct}

pub record HeldAt (n : ℕ) (is alternates : List ℕ) (i a : ℕ) : Type 0 where
  pub at : ℕ
  pub counted : at < n
  pub interface_is : get_or is at 0 ≡ i
  pub alternate_is : get_or alternates at 0 ≡ a

later : (n : ℕ) (is alternates : List ℕ) (i a : ℕ) → HeldAt n (drop 1 is) (drop 1 alternates) i a → HeldAt (suc n) is alternates i a
later n is alternates i a h =
    record {
      at = suc h.at;
      counted = omega (arith, h.counted);
      interface_is = get_d_second is h.at ∙ h.interface_is;
      alternate_is = get_d_second alternates h.at ∙ h.alternate_is;
    }

pub held_read : (n : ℕ) (is alternates : List ℕ) (i : ℕ) → is_held i (held_in n is alternates) ≡ true →
    HeldAt n is alternates i (alternate_of i (held_in n is alternates))
unfolding held_in is_held alternate_of
held_read zero is alternates i e = not_both false e refl
held_read (suc n) is alternates i e = go (decided (eqb (get_or is 0 0) i)) (held_read n (drop 1 is) (drop 1 alternates) i)
  where
    rest : List Held
    rest = held_in n (drop 1 is) (drop 1 alternates)

    first : get_or is 0 0 ≡ i → HeldAt (suc n) is alternates i (get_or alternates 0 0)
    first s = record { at = 0; counted = omega arith; interface_is = s; alternate_is = refl }

    go : Decided (eqb (get_or is 0 0) i) →
        (is_held i rest ≡ true → HeldAt n (drop 1 is) (drop 1 alternates) i (alternate_of i rest)) →
        HeldAt (suc n) is alternates i (cond (eqb (get_or is 0 0) i) (get_or alternates 0 0) (alternate_of i rest))
    go (inl p) f = rw p (first (eqb-true (get_or is 0 0) i p))
    go (inr p) f = rw p (later n is alternates i (alternate_of i rest) (f (rw p at e)))

held_place : (n : ℕ) (is alternates : List ℕ) (i k : ℕ) → k < n → get_or is k 0 ≡ i → is_held i (held_in n is alternates) ≡ true
unfolding held_in is_held
held_place zero is alternates i k h e = absurd (omega arith)
held_place (suc n) is alternates i zero h e = rw (eq-eqb (get_or is 0 0) i e)
held_place (suc n) is alternates i (suc k) h e =
    or_right (eqb (get_or is 0 0) i) _ (held_place n (drop 1 is) (drop 1 alternates) i k (omega arith) (sym (get_d_second is k) ∙ e))

pub held_made : (n : ℕ) (is alternates : List ℕ) (i a : ℕ) → HeldAt n is alternates i a → is_held i (held_in n is alternates) ≡ true
held_made n is alternates i a h = held_place n is alternates i h.at h.counted h.interface_is

interface_at : (n : ℕ) (is alternates : List ℕ) (k : ℕ) → k < n → get_or (interfaces_of (held_in n is alternates)) k 0 ≡ get_or is k 0
unfolding held_in interfaces_of
interface_at zero is alternates k h = absurd (omega arith)
interface_at (suc n) is alternates zero h = refl
interface_at (suc n) is alternates (suc k) h = interface_at n (drop 1 is) (drop 1 alternates) k (omega arith) ∙ sym (get_d_second is k)

count : (n : ℕ) (is alternates : List ℕ) → length (interfaces_of (held_in n is alternates)) ≡ n
count n is alternates = interfaces_length (held_in n is alternates) ∙ held_length n is alternates

module _ (n : ℕ) (is alternates : List ℕ) where
  abbrev pub Apart : Type 0
  Apart = (j k : ℕ) → j < n → k < n → get_or is j 0 ≡ get_or is k 0 → j ≡ k

  pub apart_read : distinct (interfaces_of (held_in n is alternates)) ≡ true → Apart
  apart_read d j k p q e =
      distinct_place (interfaces_of (held_in n is alternates)) d j k (omega (arith, count n is alternates)) (omega (arith, count n is alternates))
      (interface_at n is alternates j p ∙ e ∙ sym (interface_at n is alternates k q))

  pub apart_made : Apart → distinct (interfaces_of (held_in n is alternates)) ≡ true
  apart_made f =
      differ_distinct (interfaces_of (held_in n is alternates))
      (λ j k p q e.
      let p' : j < n = omega (arith, count n is alternates) in
      let q' : k < n = omega (arith, count n is alternates) in
      f j k p' q' (sym (interface_at n is alternates j p') ∙ e ∙ interface_at n is alternates k q'))

  -- An interface holds one alternate.
  pub held_one : Apart → (i a : ℕ) → HeldAt n is alternates i a → alternate_of i (held_in n is alternates) ≡ a
  held_one f i a h =
      let g = held_read n is alternates i (held_made n is alternates i a h) in
      let s : g.at ≡ h.at = f g.at h.at g.counted h.counted (g.interface_is ∙ sym h.interface_is) in
      sym g.alternate_is ∙ rw s h.alternate_is
