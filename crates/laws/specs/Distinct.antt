-- Membership in a list of numbers, and lists without repeats.
use Rattle.std.specs.Prelude.{ℕ, Bool, true, false, not, ◌&&◌, ◌||◌, List, [], ◌∷◌, eqb}

unfoldable pub elem : ℕ → List ℕ → Bool
elem x [] = false
elem x (y ∷ l) = eqb x y || elem x l

unfoldable pub distinct : List ℕ → Bool
distinct [] = true
distinct (x ∷ l) = not (elem x l) && distinct l
