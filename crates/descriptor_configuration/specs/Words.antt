-- The words of one configuration of a list.
use Rattle.std.specs.Prelude.{ℕ, cond, List, [], ◌∷◌, eqb}
use Rattle.descriptor.specs.Word.{CONFIGURATION, kind}

-- The words before the next configuration word.
unfoldable pub up_to_configuration : List ℕ → List ℕ
up_to_configuration [] = []
up_to_configuration (w ∷ l) = cond (eqb (kind w) CONFIGURATION) [] (w ∷ up_to_configuration l)
