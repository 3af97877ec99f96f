-- Two courses that send the same commands over the same contexts, and end alike.
use Prim.Native.Nat.{ℕ, ◌+◌}
use mathlib.Core.Path.{◌≡◌, refl, ap}
use mathlib.Core.List.{List, ◌∷◌}
use Rattle.command.specs.declared.Command.{Command}
use Rattle.command.specs.declared.Sent.{Sent}
use Rattle.command.specs.declared.Sent.TheVariants.{Done, Failed, Cut}
use Rattle.command.specs.Command.{command_word, outcome_at}
use Rattle.command.specs.Course.{Course, ends, sends, on_sent, then, words, result}

pub data Alike {A : Type 0} (R : A → A → Type 0) : Course A → Course A → Type 0 where
  both_end : {a b : A} → R a b → Alike R (ends a) (ends b)
  both_send : {c : Command} {ctx : List ℕ} {f g : Sent → Course A} → ((s : Sent) → Alike R (f s) (g s)) → Alike R (sends c ctx f) (sends c ctx g)

pub alike_words : {A : Type 0} (R : A → A → Type 0) (p q : Course A) → Alike R p q → (o : List ℕ) (n : ℕ) → words o n q ≡ words o n p
unfolding words
alike_words R (ends a) (sends _ _ g) h o n = elim h [ ]
alike_words R (sends c ctx f) (ends b) h o n = elim h [ ]
alike_words R (ends a) (ends b) (both_end r) o n = refl
alike_words R (sends c ctx f) (sends _ _ g) (both_send h) o n = ap (λ ws. command_word c ∷ ws) (alike_words R (f (outcome_at o n)) (g (outcome_at o n)) (h (outcome_at o n)) o (n + 1))

pub alike_result : {A : Type 0} (R : A → A → Type 0) (p q : Course A) → Alike R p q → (o : List ℕ) (n : ℕ) → R (result o n p) (result o n q)
unfolding result
alike_result R (ends a) (sends _ _ g) h o n = elim h [ ]
alike_result R (sends c ctx f) (ends b) h o n = elim h [ ]
alike_result R (ends a) (ends b) (both_end r) o n = r
alike_result R (sends c ctx f) (sends _ _ g) (both_send h) o n = alike_result R (f (outcome_at o n)) (g (outcome_at o n)) (h (outcome_at o n)) o (n + 1)

-- By the outcome.
pub alike_on : {A : Type 0} (R : A → A → Type 0) (d e x y : Course A) (f g : ℕ → Course A) → Alike R d e → ((k : ℕ) → Alike R (f k) (g k)) → Alike R x y →
    (s : Sent) → Alike R (on_sent s d f x) (on_sent s e g y)
unfolding on_sent
alike_on R d e x y f g a b c Done = a
alike_on R d e x y f g a b c (Failed k) = b k
alike_on R d e x y f g a b c Cut = c

-- The same course, and then others that are alike.
pub alike_then : {A B : Type 0} (R : B → B → Type 0) (p : Course A) (f g : A → Course B) → ((a : A) → Alike R (f a) (g a)) → Alike R (then p f) (then p g)
unfolding then
alike_then R (ends a) f g h = h a
alike_then R (sends c ctx k) f g h = both_send (λ s. alike_then R (k s) f g h)

-- Two that are alike, and then others that are.
pub alike_both : {A B : Type 0} (S : A → A → Type 0) (R : B → B → Type 0) (p q : Course A) (f g : A → Course B) → Alike S p q →
    ((a b : A) → S a b → Alike R (f a) (g b)) → Alike R (then p f) (then q g)
unfolding then
alike_both S R (ends a) (sends _ _ l) f g h n = elim h [ ]
alike_both S R (sends c ctx k) (ends b) f g h n = elim h [ ]
alike_both S R (ends a) (ends b) f g (both_end r) h = h a b r
alike_both S R (sends c ctx k) (sends _ _ l) f g (both_send m) h = both_send (λ s. alike_both S R (k s) (l s) f g (m s) h)
