-- The variants of an enum: a test of each, and the places of all but some.
use Prim.Native.Nat.{ℕ, suc}
use mathlib.Core.Path.{◌≡◌, refl, sym, ◌∙◌, ap}
use mathlib.Core.Bool.{Bool, true, false, cond, ◌&&◌}
use mathlib.Core.List.{List, [], ◌∷◌}
use mathlib.Core.Logic.{inl, inr}
use mir.Val.{has_key}
use denote.Struct.Field.{Field}
use denote.Struct.Values.{Values}
use denote.Enum.Declared.{Choice, Record, Declared}
use types.Run.{OneOf, miss}
use borrow.Author.Tests.{ne_eqb}
use Rattle.laws.proofs.Tests.{and_left, and_right, not_both}
use Rattle.laws.proofs.Cases.{Decided, decided}

-- A test holds of each variant that has no fields,
abbrev pub each_bare : (Fss : List (List Field)) → (Choice Fss → Bool) → Bool
each_bare [] test = true
each_bare ([] ∷ Fss) test = test (inl tt) && each_bare Fss (λ c. test (inr c))
each_bare ((F ∷ Fs) ∷ Fss) test = each_bare Fss (λ c. test (inr c))

-- and of each that has, whatever they are.
abbrev pub EachOther : (Fss : List (List Field)) → (Choice Fss → Bool) → Type 0
EachOther [] test = Unit {0}
EachOther ([] ∷ Fss) test = EachOther Fss (λ c. test (inr c))
EachOther ((F ∷ Fs) ∷ Fss) test = ((v : Values (F ∷ Fs)) → test (inl v) ≡ true) × EachOther Fss (λ c. test (inr c))

each_choice :
    (Fss : List (List Field)) (test : Choice Fss → Bool) → each_bare Fss test ≡ true → EachOther Fss test → (c : Choice Fss) →
    test c ≡ true
each_choice [] test e o c = absurd c
each_choice ([] ∷ Fss) test e o (inl v) = and_left (test (inl tt)) _ e
each_choice ([] ∷ Fss) test e o (inr c) = each_choice Fss (λ x. test (inr x)) (and_right (test (inl tt)) _ e) o c
each_choice ((F ∷ Fs) ∷ Fss) test e o (inl v) = o.0 v
each_choice ((F ∷ Fs) ∷ Fss) test e o (inr c) = each_choice Fss (λ x. test (inr x)) e o.1 c

-- so it holds of every value
pub each_value :
    (N : Record) (test : N.D → Bool) → each_bare N.parts (λ c. test (N.make c)) ≡ true →
    EachOther N.parts (λ c. test (N.make c)) → (d : N.D) → test d ≡ true
each_value N test e o d = ap test (sym (N.eta d)) ∙ each_choice N.parts (λ c. test (N.make c)) e o (N.as_values d)

-- The places from n on of all variants but those of ks.
abbrev places_from : ℕ → List ℕ → List (List Field) → List ℕ
places_from n ks [] = []
places_from n ks (Fs ∷ Fss) = cond (has_key ks n) (places_from (suc n) ks Fss) (n ∷ places_from (suc n) ks Fss)

-- The places of the last arm of a `match`, where those of the arms before it are ks.
abbrev pub places_but : Declared → List ℕ → List ℕ
places_but E ks = places_from 0 ks E.parts

places_miss : (n : ℕ) (ks : List ℕ) (Fss : List (List Field)) (k : ℕ) → has_key ks k ≡ true → has_key (places_from n ks Fss) k ≡ false
places_miss n ks [] k h = refl
places_miss n ks (Fs ∷ Fss) k h = go (decided (has_key ks n)) (places_miss (suc n) ks Fss k h)
  where
    go : Decided (has_key ks n) → has_key (places_from (suc n) ks Fss) k ≡ false → has_key (places_from n ks (Fs ∷ Fss)) k ≡ false
    go (inl t) e = rw t e
    go (inr t) e = rw (t, ne_eqb n k (λ q. not_both (has_key ks k) h (ap (has_key ks) (sym q) ∙ t))) e

-- none of ks is among them
pub none_but : (E : Declared) (ks : List ℕ) (k : ℕ) → has_key ks k ≡ true → OneOf (places_but E ks) k → ⊥
none_but E ks k h = miss (places_but E ks) k (rw (places_miss 0 ks E.parts k h) tt)
