-- The words before the next configuration word as the library's words for chains of iterators.
use Rattle.std.proofs.Common.{ℕ, ◌+◌, ◌≡◌, refl, cond, List, [], ◌∷◌, length, take, inl, inr, Bool, not}
use native.Mathlib.Numerals.{one-add}
use lib.Dec.{eqb}
use Rattle.std.specs.List.{prefix_len}
use Rattle.std.proofs.lemmas.List.Folds.{length-prefix_len}
use Rattle.laws.proofs.Cases.{Decided, decided}
use Rattle.descriptor.specs.declared.WordKind.TheVariants.{Configuration}
use Rattle.descriptor.specs.Word.{CONFIGURATION, kind}
use Rattle.descriptor.proofs.Kind.{is_kind, kind_test}
use Rattle.descriptor_configuration.specs.Words.{up_to_configuration}

-- What a closure tests of a word.
abbrev pub stays : ℕ → Bool
stays w = not (is_kind Configuration w)

pub taken : (l : List ℕ) → take (prefix_len stays l) l ≡ up_to_configuration l
unfolding up_to_configuration
taken [] = refl
taken (w ∷ l) = go (decided (eqb (kind w) CONFIGURATION)) (taken l)
  where
    go : Decided (eqb (kind w) CONFIGURATION) → take (prefix_len stays l) l ≡ up_to_configuration l →
        take (cond (stays w) (1 + prefix_len stays l) 0) (w ∷ l) ≡ cond (eqb (kind w) CONFIGURATION) [] (w ∷ up_to_configuration l)
    go (inl c) t = rw (kind_test Configuration w, c)
    go (inr c) t = rw (kind_test Configuration w, c, one-add (prefix_len stays l), t)

pub words_taken : (l : List ℕ) → take (length (take (prefix_len stays l) l)) l ≡ up_to_configuration l
words_taken l = rw (length-prefix_len stays l) (taken l)
