-- What holds of tests whatever they say: computed for each value.
use mathlib.Core.Path.{◌≡◌, refl, sym, ◌∙◌}
use mathlib.Core.Bool.{Bool, true, false, not, cond, ◌&&◌}
use Rattle.laws.proofs.Tests.{and_left, and_right}

abbrev pub implies : Bool → Bool → Bool
implies a b = cond a b true

abbrev pub same : Bool → Bool → Bool
same a b = cond a b (not b)

pub implied : (a b : Bool) → implies a b ≡ true → a ≡ true → b ≡ true
implied a b e h = sym (rw h) ∙ e

pub implies_if : (a b : Bool) → (a ≡ true → b ≡ true) → implies a b ≡ true
implies_if true b h = h refl
implies_if false b h = refl

pub same_is : (a b : Bool) → same a b ≡ true → a ≡ b
same_is true b e = sym e
same_is false true e = e
same_is false false e = refl

pub same_if : (a b : Bool) → (a ≡ true → b ≡ true) → (b ≡ true → a ≡ true) → a ≡ b
same_if true b f g = sym (f refl)
same_if false true f g = g refl
same_if false false f g = refl

abbrev pub every : (Bool → Bool) → Bool
every f = f true && f false

pub at_each : (f : Bool → Bool) → every f ≡ true → (a : Bool) → f a ≡ true
at_each f e true = and_left (f true) (f false) e
at_each f e false = and_right (f true) (f false) e

abbrev pub every2 : (Bool → Bool → Bool) → Bool
every2 f = every (λ a. every (f a))

pub at_each2 : (f : Bool → Bool → Bool) → every2 f ≡ true → (a b : Bool) → f a b ≡ true
at_each2 f e a b = at_each (f a) (at_each (λ x. every (f x)) e a) b

-- Five tests: a premise under which two tests of them are the same.
abbrev pub Tests : Type 0
Tests = Bool → Bool → Bool → Bool → Bool → Bool

abbrev pub every5 : Tests → Bool
every5 f = every2 (λ a b. every2 (λ c d. every (f a b c d)))

at_each5 : (f : Tests) → every5 f ≡ true → (a b c d e : Bool) → f a b c d e ≡ true
at_each5 f x a b c d e =
    at_each (f a b c d) (at_each2 (λ y z. every (f a b y z)) (at_each2 (λ y z. every2 (λ v w. every (f y z v w))) x a b) c d) e

abbrev pub alike : Tests → Tests → Tests → Bool
alike h l r = every5 (λ a b c d e. implies (h a b c d e) (same (l a b c d e) (r a b c d e)))

pub law : (h l r : Tests) → alike h l r ≡ true → (a b c d e : Bool) → h a b c d e ≡ true → l a b c d e ≡ r a b c d e
law h l r x a b c d e p =
    same_is (l a b c d e) (r a b c d e)
    (implied (h a b c d e) (same (l a b c d e) (r a b c d e))
    (at_each5 (λ a b c d e. implies (h a b c d e) (same (l a b c d e) (r a b c d e))) x a b c d e) p)
