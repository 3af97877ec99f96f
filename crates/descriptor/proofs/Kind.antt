-- A word's kind by its name and by its number.
use Prim.Native.Nat.{ℕ}
use mathlib.Core.Path.{◌≡◌, sym, ap, ◌∙◌}
use mathlib.Core.Logic.{◌≢◌, inl, inr}
use borrow.Author.Tests.{eqb-true, eqb-false, ne_eqb}
use lib.Dec.{eqb}
use Rattle.std.proofs.Common.{Bool, true, false, refl, Option, Some, None}
use Rattle.laws.proofs.Cases.{Decided, decided}
use Rattle.descriptor.specs.Word.{CONFIGURATION, ALTERNATE, ENDPOINT, kind, word_kind, word_ok}
use Rattle.std.specs.Option.{option_eq}
use Rattle.descriptor.specs.contracts.WordKindPartialEq.TheImpl as kinds
use Rattle.descriptor.specs.declared.WordKind.{WordKind}
use Rattle.descriptor.specs.declared.WordKind.TheVariants.{Configuration, Alternate, Endpoint}

abbrev pub kind_number : WordKind → ℕ
kind_number Configuration = CONFIGURATION
kind_number Alternate = ALTERNATE
kind_number Endpoint = ENDPOINT

module _ (w : ℕ) where
  pub named : (k : WordKind) → kind w ≡ kind_number k → word_kind w ≡ Some k
  unfolding word_kind
  named Configuration e = rw e
  named Alternate e = rw e
  named Endpoint e = rw e

  pub numbered : (k : WordKind) → word_kind w ≡ Some k → kind w ≡ kind_number k
  unfolding word_kind
  numbered k e = go (decided (eqb (kind w) CONFIGURATION)) (decided (eqb (kind w) ALTERNATE)) (decided (eqb (kind w) ENDPOINT))
    where
      go : Decided (eqb (kind w) CONFIGURATION) → Decided (eqb (kind w) ALTERNATE) → Decided (eqb (kind w) ENDPOINT) → kind w ≡ kind_number k
      go (inl p) a b = let q : Some Configuration ≡ Some k = rw p at e in let r : Configuration ≡ k = cc in rw (← r) (eqb-true _ _ p)
      go (inr c) (inl p) b = let q : Some Alternate ≡ Some k = rw (c, p) at e in let r : Alternate ≡ k = cc in rw (← r) (eqb-true _ _ p)
      go (inr c) (inr a) (inl p) = let q : Some Endpoint ≡ Some k = rw (c, a, p) at e in let r : Endpoint ≡ k = cc in rw (← r) (eqb-true _ _ p)
      go (inr c) (inr a) (inr b) = let q : None ≡ Some k = rw (c, a, b) at e in absurd (cc)

-- The same of what `word_kind` returned.
module _ (w : ℕ) (r : Option WordKind) (q : r ≡ word_kind w) where
  -- in the arm of a kind
  pub kind_in : {n : WordKind} {k : WordKind} → r ≡ Some n → n ≡ k → kind w ≡ kind_number k
  kind_in {n} {k} s i = numbered w k (sym q ∙ s ∙ ap Some i)

  -- in the arm of None
  pub kind_none : r ≡ None → (k : WordKind) → kind w ≢ kind_number k
  kind_none n k e = let p : None ≡ Some k = sym n ∙ q ∙ named w k e in absurd (cc)

  -- such a word stands in no valid list
  pub none_refused : r ≡ None → word_ok w ≡ false
  unfolding word_ok
  none_refused n =
      let o = kind_none n in
      rw (ne_eqb _ _ (o Configuration), ne_eqb _ _ (o Alternate), ne_eqb _ _ (o Endpoint))

  -- where it is another
  pub kind_not : {k : WordKind} → r ≢ Some k → kind w ≢ kind_number k
  kind_not {k} n e = n (q ∙ named w k e)

-- What `word_kind(w) == Some(..)` tests.
abbrev pub is_kind : WordKind → ℕ → Bool
is_kind k w = option_eq kinds.eq-value.it (word_kind w) (Some k)

same_number : (n k : WordKind) → kinds.eq-value.it n k ≡ eqb (kind_number n) (kind_number k)
same_number Configuration Configuration = refl
same_number Configuration Alternate = refl
same_number Configuration Endpoint = refl
same_number Alternate Configuration = refl
same_number Alternate Alternate = refl
same_number Alternate Endpoint = refl
same_number Endpoint Configuration = refl
same_number Endpoint Alternate = refl
same_number Endpoint Endpoint = refl

pub kind_test : (k : WordKind) (w : ℕ) → is_kind k w ≡ eqb (kind w) (kind_number k)
kind_test k w = go (word_kind w) refl
  where
    go : (r : Option WordKind) → r ≡ word_kind w → option_eq kinds.eq-value.it r (Some k) ≡ eqb (kind w) (kind_number k)
    go (Some n) e = rw (numbered w n (sym e)) (same_number n k)
    go None e = sym (ne_eqb _ _ (kind_none w None e refl k))

-- The same of a call's result that was compared.
module _ (w : ℕ) (r : Option WordKind) (q : r ≡ word_kind w) (k : WordKind) (b : Bool) (e : b ≡ option_eq kinds.eq-value.it r (Some k)) where
  pub kind_equal : b ≡ eqb (kind w) (kind_number k)
  kind_equal = e ∙ rw q (kind_test k w)

  pub kind_true : b ≡ true → kind w ≡ kind_number k
  kind_true t = eqb-true _ _ (sym kind_equal ∙ t)

  pub kind_false : b ≡ false → kind w ≢ kind_number k
  kind_false f = eqb-false _ _ (sym kind_equal ∙ f)
