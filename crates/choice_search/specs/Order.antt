-- Which of two lists of places comes first.
use Rattle.std.specs.Prelude.{ℕ, ◌<◌, List, [], ◌∷◌}

-- Compared name by name: the same, or lower at the first that differs.
pub data NotAfter : List ℕ → List ℕ → Type 0 where
  alike : NotAfter [] []
  lower : {p q : ℕ} {ps qs : List ℕ} → p < q → NotAfter (p ∷ ps) (q ∷ qs)
  same : {p : ℕ} {ps qs : List ℕ} → NotAfter ps qs → NotAfter (p ∷ ps) (p ∷ qs)
