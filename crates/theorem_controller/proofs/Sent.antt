-- Whether a command of an operation was sent in a course.
use Prim.Native.Nat.{ℕ, suc, ◌+◌}
use mathlib.Core.Path.{◌≡◌, refl}
use mathlib.Core.Bool.{Bool, false, ◌||◌}
use mathlib.Core.List.{List}
use native.Mathlib.Nat.{add-zero}
use native.Mathlib.Omega.{arith}
use lib.Dec.{eqb}
use lib.ListN.{length}
use Rattle.command.specs.Command.{outcome_at}
use Rattle.command.specs.Course.{Course, ends, sends, then, words, result}
use Rattle.command.proofs.Operations.{ByteOperands, operation, operation_command, EachCommand}
use Rattle.theorem_controller.specs.Controller.{sent_word}
use Rattle.theorem_controller.proofs.Done.{NoneOf}

-- Along these outcomes a command of this operation is sent.
unfoldable pub sent_in : {A : Type 0} → ℕ → List ℕ → ℕ → Course A → Bool
sent_in op outcomes n (ends a) = false
sent_in op outcomes n (sends c ctx k) = eqb (operation c) op || sent_in op outcomes (n + 1) (k (outcome_at outcomes n))

-- the log tells whether one is
pub sent_logged : {A : Type 0} (op : ℕ) (o : List ℕ) (n : ℕ) (c : Course A) → EachCommand ByteOperands c →
    sent_word op (words o n c) ≡ sent_in op o n c
unfolding sent_in sent_word words EachCommand
sent_logged op o n (ends a) e = refl
sent_logged op o n (sends c ctx k) e =
    rw (operation_command c e.0, sent_logged op o (n + 1) (k (outcome_at o n)) (e.1 (outcome_at o n)))

-- what comes after commands of other operations counts
pub sent_after : {A B : Type 0} (op : ℕ) (o : List ℕ) (n : ℕ) (c : Course A) (f : A → Course B) → NoneOf op c →
    sent_in op o n (then c f) ≡ sent_in op o (n + length (words o n c)) (f (result o n c))
unfolding sent_in words result then EachCommand
sent_after op o n (ends a) f e = rw add-zero
sent_after op o n (sends c ctx k) f e =
    let ws : List ℕ = words o (n + 1) (k (outcome_at o n)) in
    let m : n + suc (length ws) ≡ n + 1 + length ws = omega arith in
    rw (e.0, m) (sent_after op o (n + 1) (k (outcome_at o n)) f (e.1 (outcome_at o n)))
