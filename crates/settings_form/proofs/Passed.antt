-- Companions have no say in which settings a list has: `PassedPromise`.
use Prim.Native.Nat.{ℕ, suc}
use mathlib.Core.Path.{◌≡◌, refl}
use mathlib.Core.Logic.{inl, inr}
use mathlib.Core.Bool.{false, cond}
use mathlib.Core.List.{List, [], ◌∷◌}
use Rattle.std.proofs.Common.{Some}
use borrow.Author.Tests.{eqb-true}
use lib.Dec.{eqb}
use Rattle.std.specs.List.{list_any}
use Rattle.laws.proofs.Cases.{Decided, decided}
use Rattle.descriptor.specs.Word.{COMPANION, CONFIGURATION, kind}
use Rattle.descriptor_configuration.specs.Words.{up_to_configuration}
use Rattle.descriptor_list.specs.Lookup.{of_interface, is_alternate}
use Rattle.descriptor_list.specs.Promises.{passed_over}
use Rattle.settings_form.specs.Held.{is_configuration, configuration_words, pairs_held, held_in, settings_held}
use Rattle.settings_form.specs.Promises.{PassedPromise}

-- A companion is neither a configuration's word nor an alternate's.
module _ (w : ℕ) (c : kind w ≡ COMPANION) where
  no_alternate : (interface alternate : ℕ) → is_alternate interface alternate w ≡ false
  unfolding is_alternate of_interface
  no_alternate interface alternate = rw c

  no_configuration : (value : ℕ) → is_configuration value w ≡ false
  unfolding is_configuration
  no_configuration value = rw c

alternates_passed : (interface alternate : ℕ) (l : List ℕ) →
    list_any (is_alternate interface alternate) l ≡ list_any (is_alternate interface alternate) (passed_over l)
unfolding passed_over
alternates_passed interface alternate [] = refl
alternates_passed interface alternate (w ∷ l) = go (decided (eqb (kind w) COMPANION)) (alternates_passed interface alternate l)
  where
    go : Decided (eqb (kind w) COMPANION) →
        list_any (is_alternate interface alternate) l ≡ list_any (is_alternate interface alternate) (passed_over l) →
        list_any (is_alternate interface alternate) (w ∷ l)
        ≡ list_any (is_alternate interface alternate) (cond (eqb (kind w) COMPANION) (passed_over l) (w ∷ passed_over l))
    go (inl c) r = rw (c, no_alternate w (eqb-true _ _ c) interface alternate) r
    go (inr c) r = rw (c, r)

up_to_passed : (l : List ℕ) → up_to_configuration (passed_over l) ≡ passed_over (up_to_configuration l)
unfolding passed_over up_to_configuration
up_to_passed [] = refl
up_to_passed (w ∷ l) = go (decided (eqb (kind w) COMPANION)) (decided (eqb (kind w) CONFIGURATION)) (up_to_passed l)
  where
    go : Decided (eqb (kind w) COMPANION) → Decided (eqb (kind w) CONFIGURATION) →
        up_to_configuration (passed_over l) ≡ passed_over (up_to_configuration l) →
        up_to_configuration (cond (eqb (kind w) COMPANION) (passed_over l) (w ∷ passed_over l))
        ≡ passed_over (cond (eqb (kind w) CONFIGURATION) [] (w ∷ up_to_configuration l))
    go (inl c) f r = let k : kind w ≡ COMPANION = eqb-true _ _ c in rw (k, c) r
    go (inr c) (inl f) r = rw (c, f)
    go (inr c) (inr f) r = rw (c, f, c, r)

pairs_passed : (least : ℕ) (words pairs : List ℕ) → pairs_held least words pairs ≡ pairs_held least (passed_over words) pairs
unfolding pairs_held
pairs_passed least words [] = refl
pairs_passed least words (i ∷ []) = refl
pairs_passed least words (i ∷ (a ∷ pairs)) = rw (alternates_passed i a words, pairs_passed (suc i) words pairs)

held_passed : (value : ℕ) (list pairs : List ℕ) →
    held_in (configuration_words value list) pairs ≡ held_in (configuration_words value (passed_over list)) pairs
unfolding configuration_words passed_over held_in
held_passed value [] pairs = refl
held_passed value (w ∷ l) pairs = go (decided (eqb (kind w) COMPANION)) (decided (is_configuration value w)) (held_passed value l pairs)
  where
    go : Decided (eqb (kind w) COMPANION) → Decided (is_configuration value w) →
        held_in (configuration_words value l) pairs ≡ held_in (configuration_words value (passed_over l)) pairs →
        held_in (cond (is_configuration value w) (Some (up_to_configuration l)) (configuration_words value l)) pairs
        ≡ held_in (configuration_words value (cond (eqb (kind w) COMPANION) (passed_over l) (w ∷ passed_over l))) pairs
    go (inl c) f r = rw (c, no_configuration w (eqb-true _ _ c) value) r
    go (inr c) (inl f) r = rw (c, f, up_to_passed l) (pairs_passed 0 (up_to_configuration l) pairs)
    go (inr c) (inr f) r = rw (c, f) r

passed_lem : PassedPromise
unfolding settings_held
passed_lem list value pairs = rw (held_passed value list pairs)
