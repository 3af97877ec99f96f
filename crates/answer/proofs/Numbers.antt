-- Answers by their numbers.
use Prim.Native.Nat.{ℕ, ◌+◌, ◌≤◌, ◌<◌}
use mathlib.Core.Path.{◌≡◌, refl, sym, ap, ◌∙◌}
use mathlib.Core.Logic.{◌⊎◌, inl, inr}
use mathlib.Core.Bool.{true, false, cond, ◌||◌}
use mathlib.Core.List.{List, [], ◌∷◌}
use native.Mathlib.Omega.{arith}
use mir.Val.{has_key}
use types.Run.{OneOf}
use denote.Enum.Declared.{Declared, tag_of}
use borrow.Author.Tests.{ne_eqb, eqb-true, ltb-true, ltb-false}
use lib.Dec.{eqb, ltb}
use Rattle.laws.proofs.Cases.{Decided, decided}
use Rattle.laws.proofs.Variants.{each_value, places_but, none_but}
use Rattle.answer.specs.contracts.Answer.{enum, the_type}
use Rattle.answer.specs.declared.Answer.{Answer}
use Rattle.answer.specs.Answer.{number, code_of}

-- The number of the answer at a place of the enum: 20, 23 and 24 are no answers of a call.
abbrev pub number_at : ℕ → ℕ
number_at place = cond (ltb place 20) place (cond (ltb place 22) (place + 1) (place + 3))

-- an answer's place says its number
pub tag_number : (a : Answer) (place : ℕ) → tag_of the_type a ≡ place → number a ≡ number_at place
unfolding number
tag_number a place e =
    sym (eqb-true (number_at (tag_of the_type a)) (number a) (each_value enum (λ x. eqb (number_at (tag_of the_type x)) (number x)) refl (λ v. refl, tt) a))
    ∙ ap number_at e

-- what it is
abbrev Is : ℕ → ℕ → Type 0
Is i n = ((i < 20) × (n ≡ i)) ⊎ (((20 ≤ i) × (i < 22) × (n ≡ i + 1)) ⊎ ((22 ≤ i) × (n ≡ i + 3)))

number_is : (i : ℕ) → Is i (number_at i)
number_is i = go (decided (ltb i 20)) (decided (ltb i 22))
  where
    go : Decided (ltb i 20) → Decided (ltb i 22) → Is i (number_at i)
    go (inl p) q = inl (ltb-true i 20 p, rw p refl)
    go (inr p) (inl q) = inr (inl (ltb-false i 20 p, ltb-true i 22 q, rw (p, q) refl))
    go (inr p) (inr q) = inr (inr (ltb-false i 22 q, rw (p, q) refl))

number_once : (i j : ℕ) → number_at i ≡ number_at j → i ≡ j
number_once i j e = go (number_at i) (number_at j) e (number_is i) (number_is j)
  where
    go : (n m : ℕ) → n ≡ m → Is i n → Is j m → i ≡ j
    go n m z (inl p) (inl q) = omega (arith, p.1, q.1)
    go n m z (inl p) (inr (inl q)) = absurd (omega (arith, p.0, p.1, q.0, q.2))
    go n m z (inl p) (inr (inr q)) = absurd (omega (arith, p.0, p.1, q.0, q.1))
    go n m z (inr (inl p)) (inl q) = absurd (omega (arith, p.0, p.2, q.0, q.1))
    go n m z (inr (inl p)) (inr (inl q)) = omega (arith, p.2, q.2)
    go n m z (inr (inl p)) (inr (inr q)) = absurd (omega (arith, p.1, p.2, q.0, q.1))
    go n m z (inr (inr p)) (inl q) = absurd (omega (arith, p.0, p.1, q.0, q.1))
    go n m z (inr (inr p)) (inr (inl q)) = absurd (omega (arith, p.0, p.1, q.1, q.2))
    go n m z (inr (inr p)) (inr (inr q)) = omega (arith, p.1, q.1)

-- An answer of an arm for all but those of ks.
abbrev pub AnyBut : List ℕ → Answer → Type 0
AnyBut ks a = OneOf (places_but the_type ks) (tag_of the_type a)

-- over any enum: with the answers' own places the kernel would compute them for a ks that is not known
none_of : (E : Declared) (ks : List ℕ) (k place : ℕ) → has_key ks k ≡ true → k ≡ place → OneOf (places_but E ks) place → ⊥
none_of E ks k place among e h = none_but E ks k among (rw e h)

-- its number is that of none of ks
pub other_answer : (ks : List ℕ) (k : ℕ) (a : Answer) → has_key ks k ≡ true → AnyBut ks a → eqb (number a) (number_at k) ≡ false
other_answer ks k a among h =
    ne_eqb (number a) (number_at k)
    (λ z. none_of the_type ks k (tag_of the_type a) among (number_once k (tag_of the_type a) (sym z ∙ tag_number a (tag_of the_type a) refl)) h)

-- only 13 has a code
pub other_code : (a : Answer) → AnyBut (13 ∷ []) a → 0 ≡ code_of a
unfolding number code_of
other_code a h =
    let e : (eqb (number a) 13 || eqb (code_of a) 0) ≡ true =
    each_value enum (λ x. eqb (number x) 13 || eqb (code_of x) 0) refl (λ v. refl, tt) a in
    sym (eqb-true (code_of a) 0 (rw (other_answer (13 ∷ []) 13 a refl h) at e))
