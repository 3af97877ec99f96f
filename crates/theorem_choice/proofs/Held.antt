-- What is held after a setting was taken in: it, and of the others what was held.
use Rattle.std.specs.Prelude.{ℕ, ◌≡◌, true, false, cond, ◌||◌, List, [], ◌∷◌, ◌++◌, eqb}
use mathlib.Core.Path.{refl, sym, ◌∙◌}
use mathlib.Core.Logic.{inl, inr}
use borrow.Author.Tests.{eqb-true, eqb-false, ne_eqb}
use Rattle.laws.proofs.Cases.{Decided, decided, or_left, or_right}
use Rattle.laws.proofs.Tests.{not_both}
use Rattle.record_settings.specs.Held.{Held, is_held, alternate_of, without_setting, with_setting}

pub data Which (i a : ℕ) (hs gs : List Held) (x : ℕ) : Type 0 where
  its : x ≡ i → alternate_of x gs ≡ a → Which i a hs gs x
  other : is_held x hs ≡ true → alternate_of x gs ≡ alternate_of x hs → Which i a hs gs x

module _ (i a x : ℕ) where
  -- The same, where one is not the setting that was taken in.
  data Which_of (hs gs : List Held) : Type 0 where
    its_of : x ≡ i → alternate_of x gs ≡ a → Which_of hs gs
    other_of : (x ≡ i → ⊥) → is_held x hs ≡ true → alternate_of x gs ≡ alternate_of x hs → Which_of hs gs

  new : Held
  new = record { interface = i; alternate = a }

  which_of : (hs : List Held) → is_held x (without_setting i hs ++ (new ∷ [])) ≡ true → Which_of hs (without_setting i hs ++ (new ∷ []))
  unfolding is_held alternate_of without_setting new
  which_of [] e = go (decided (eqb i x)) e
    where
      go : Decided (eqb i x) → (eqb i x || false) ≡ true → Which_of [] (new ∷ [])
      go (inl q) e = its_of (sym (eqb-true i x q)) (rw q refl)
      go (inr q) e = not_both false (rw q at e) refl
  which_of (h ∷ hs) e = go (decided (eqb h.interface i)) (decided (eqb h.interface x)) e (which_of hs)
    where
      go : Decided (eqb h.interface i) → Decided (eqb h.interface x) →
          is_held x (cond (eqb h.interface i) (without_setting i hs) (h ∷ without_setting i hs) ++ (new ∷ [])) ≡ true →
          (is_held x (without_setting i hs ++ (new ∷ [])) ≡ true → Which_of hs (without_setting i hs ++ (new ∷ []))) →
          Which_of (h ∷ hs) (cond (eqb h.interface i) (without_setting i hs) (h ∷ without_setting i hs) ++ (new ∷ []))
      go (inl q) o e f = rw q (here (f (rw q at e)))
        where
          here : Which_of hs (without_setting i hs ++ (new ∷ [])) → Which_of (h ∷ hs) (without_setting i hs ++ (new ∷ []))
          here (its_of s t) = its_of s t
          here (other_of n s t) =
              let z : eqb h.interface x ≡ false = ne_eqb h.interface x (λ w. n (sym w ∙ eqb-true h.interface i q)) in
              other_of n (or_right (eqb h.interface x) (is_held x hs) s) (rw z t)
      go (inr q) (inl o) e f =
          rw q (other_of (λ w. eqb-false h.interface i q (eqb-true h.interface x o ∙ w)) (or_left (eqb h.interface x) (is_held x hs) o) (rw o refl))
      go (inr q) (inr o) e f = rw q (here (f (rw (q, o) at e)))
        where
          here : Which_of hs (without_setting i hs ++ (new ∷ [])) → Which_of (h ∷ hs) (h ∷ (without_setting i hs ++ (new ∷ [])))
          here (its_of s t) = its_of s (rw o t)
          here (other_of n s t) = other_of n (or_right (eqb h.interface x) (is_held x hs) s) (rw o t)

pub which : (i a x : ℕ) (hs : List Held) → is_held x (with_setting i a hs) ≡ true → Which i a hs (with_setting i a hs) x
unfolding with_setting new
which i a x hs e = go (which_of i a x hs e)
  where
    go : Which_of i a x hs (without_setting i hs ++ (record { interface = i; alternate = a } ∷ [])) →
        Which i a hs (without_setting i hs ++ (record { interface = i; alternate = a } ∷ [])) x
    go (its_of s t) = its s t
    go (other_of n s t) = other s t
