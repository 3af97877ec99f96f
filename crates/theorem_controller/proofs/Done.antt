-- Whether a command of an operation was done in a course.
use Prim.Native.Nat.{ℕ, suc, ◌+◌}
use mathlib.Core.Path.{◌≡◌, refl}
use mathlib.Core.Bool.{Bool, false, ◌&&◌, ◌||◌}
use mathlib.Core.List.{List}
use native.Mathlib.Nat.{add-zero}
use native.Mathlib.Omega.{arith}
use lib.Dec.{eqb}
use lib.ListN.{length}
use Rattle.command.specs.declared.Command.{Command}
use Rattle.command.specs.declared.Sent.{Sent}
use Rattle.command.specs.Command.{outcome_at}
use Rattle.command.specs.Course.{Course, ends, sends, then, words, result}
use Rattle.command.proofs.Operations.{ByteOperands, operation, operation_command, EachCommand}
use Rattle.theorem_controller.specs.Controller.{is_done, done_word}

-- Whether a command is of an operation, and its outcome done.
unfoldable pub is_done_command : ℕ → Command → Sent → Bool
is_done_command op c s = eqb (operation c) op && is_done s

-- Along these outcomes a command of this operation is done.
unfoldable pub done_in : {A : Type 0} → ℕ → List ℕ → ℕ → Course A → Bool
done_in op outcomes n (ends a) = false
done_in op outcomes n (sends c ctx k) =
    is_done_command op c (outcome_at outcomes n) || done_in op outcomes (n + 1) (k (outcome_at outcomes n))

-- the log tells whether one is
pub done_logged : {A : Type 0} (op : ℕ) (o : List ℕ) (n : ℕ) (c : Course A) → EachCommand ByteOperands c →
    done_word op o n (words o n c) ≡ done_in op o n c
unfolding done_in done_word is_done_command words EachCommand
done_logged op o n (ends a) e = refl
done_logged op o n (sends c ctx k) e =
    rw (operation_command c e.0, done_logged op o (n + 1) (k (outcome_at o n)) (e.1 (outcome_at o n)))

-- Each command is of another operation.
abbrev pub NoneOf : {A : Type 0} → ℕ → Course A → Type 0
NoneOf op = EachCommand (λ c. eqb (operation c) op ≡ false)

-- none is done where none is sent
pub done_none : {A : Type 0} (op : ℕ) (o : List ℕ) (n : ℕ) (c : Course A) → NoneOf op c → done_in op o n c ≡ false
unfolding done_in is_done_command EachCommand
done_none op o n (ends a) e = refl
done_none op o n (sends c ctx k) e = rw (e.0, done_none op o (n + 1) (k (outcome_at o n)) (e.1 (outcome_at o n)))

-- what comes after such a course counts
pub done_after : {A B : Type 0} (op : ℕ) (o : List ℕ) (n : ℕ) (c : Course A) (f : A → Course B) → NoneOf op c →
    done_in op o n (then c f) ≡ done_in op o (n + length (words o n c)) (f (result o n c))
unfolding done_in is_done_command words result then EachCommand
done_after op o n (ends a) f e = rw add-zero
done_after op o n (sends c ctx k) f e =
    let ws : List ℕ = words o (n + 1) (k (outcome_at o n)) in
    let m : n + suc (length ws) ≡ n + 1 + length ws = omega arith in
    rw (e.0, m) (done_after op o (n + 1) (k (outcome_at o n)) f (e.1 (outcome_at o n)))
