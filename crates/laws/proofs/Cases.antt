-- The two cases of a test, and what a disjunction of tests tells.
use Prim.Native.Nat.{ℕ}
use mathlib.Core.Path.{◌≡◌, refl}
use mathlib.Core.Logic.{◌⊎◌}
use mathlib.Core.Bool.{Bool, true, false, cond, ◌||◌}
pub use Rattle.std.proofs.lemmas.Bool.{cases_Bool as decided, false_from_ne_true as false_if, or_left, or_right, or_cases, or_parts as or_none}

abbrev pub Decided : Bool → Type 0
Decided a = (a ≡ true) ⊎ (a ≡ false)

-- a choice after the same choice
pub cond_or : (a b : Bool) (x y : ℕ) → cond b x (cond a x y) ≡ cond (a || b) x y
cond_or true true x y = refl
cond_or true false x y = refl
cond_or false b x y = refl

-- where a disjunction fails, each side does
pub or_left_false : (a b : Bool) → (a || b) ≡ false → a ≡ false
or_left_false a b e = (or_none a b e).0

pub or_right_false : (a b : Bool) → (a || b) ≡ false → b ≡ false
or_right_false a b e = (or_none a b e).1
