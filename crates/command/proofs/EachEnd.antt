-- Every end of a course.
use Prim.Native.Nat.{ℕ, ◌+◌}
use mathlib.Core.List.{List}
use Rattle.command.specs.declared.Sent.{Sent}
use Rattle.command.specs.Command.{outcome_at}
use Rattle.command.specs.Course.{Course, ends, sends, then, result}

-- What holds of each,
unfoldable pub EachEnd : {A : Type 0} → (A → Type 0) → Course A → Type 0
EachEnd P (ends a) = P a
EachEnd P (sends c ctx k) = (s : Sent) → EachEnd P (k s)

-- holds of the one that is reached.
pub end_of : {A : Type 0} (P : A → Type 0) (o : List ℕ) (n : ℕ) (c : Course A) → EachEnd P c → P (result o n c)
unfolding EachEnd result
end_of P o n (ends a) e = e
end_of P o n (sends c ctx k) e = end_of P o (n + 1) (k (outcome_at o n)) (e (outcome_at o n))

-- Of a course and what follows it, only the latter's ends count.
pub end_then :
    {A B : Type 0} (P : B → Type 0) (c : Course A) (f : A → Course B) → ((a : A) → EachEnd P (f a)) → EachEnd P (then c f)
unfolding EachEnd then
end_then P (ends a) f e = e a
end_then P (sends c ctx k) f e = λ s. end_then P (k s) f e
