-- Which command a log word is of.
use Prim.Native.Nat.{ℕ, ◌+◌, ◌*◌, ◌^◌, ◌<◌}
use mathlib.Core.Path.{◌≡◌, refl}
use native.Mathlib.Omega.{arith}
use lib.Arith.{digits_div}
use Rattle.command.specs.declared.Command.{Command}
use Rattle.command.specs.declared.Command.TheVariants as command
use Rattle.command.specs.declared.Sent.{Sent}
use Rattle.command.specs.Command.{log_word, operation_of, command_word}
use Rattle.command.specs.Course.{Course, ends, sends, then}

-- a word of byte operands tells its operation
pub operation_word : (operation first second : ℕ) → first < 256 → second < 256 →
    operation_of (log_word operation first second) ≡ operation
operation_word operation first second f s =
    let e : operation * 2 ^ 28 + first * 2 ^ 20 + second * 2 ^ 12 ≡ operation * 2 ^ 28 + (first * 2 ^ 20 + second * 2 ^ 12) =
    omega arith in
    let l : first * 2 ^ 20 + second * 2 ^ 12 < 2 ^ 28 = omega arith in
    rw e (digits_div operation l)

-- The operands of a command are bytes.
unfoldable pub ByteOperands : Command → Type 0
ByteOperands command.Address = Unit {0}
ByteOperands command.Evaluate = Unit {0}
ByteOperands command.Configure = Unit {0}
ByteOperands (command.Stop dci) = dci.0 < 256
ByteOperands (command.Resume dci) = dci.0 < 256
ByteOperands (command.SetInterface interface alternate) = (interface < 256) × (alternate < 256)
ByteOperands (command.SetConfiguration value) = value < 256
ByteOperands command.ReadHeader = Unit {0}
ByteOperands command.ReadConfiguration = Unit {0}
ByteOperands command.ReadDevice = Unit {0}
ByteOperands (command.ReadConfig index) = index < 256
ByteOperands command.Disable = Unit {0}

-- The operation of a command.
unfoldable pub operation : Command → ℕ
operation command.Address = 1
operation command.Evaluate = 2
operation command.Configure = 3
operation (command.Stop dci) = 4
operation (command.Resume dci) = 5
operation (command.SetInterface interface alternate) = 6
operation (command.SetConfiguration value) = 7
operation command.ReadHeader = 8
operation command.ReadConfiguration = 9
operation command.ReadDevice = 10
operation (command.ReadConfig index) = 11
operation command.Disable = 12

-- a command's word tells its operation
pub operation_command : (c : Command) → ByteOperands c → operation_of (command_word c) ≡ operation c
unfolding command_word ByteOperands operation
operation_command command.Address b = refl
operation_command command.Evaluate b = refl
operation_command command.Configure b = refl
operation_command (command.Stop dci) b = operation_word 4 dci.0 0 b (omega arith)
operation_command (command.Resume dci) b = operation_word 5 dci.0 0 b (omega arith)
operation_command (command.SetInterface interface alternate) b = operation_word 6 interface alternate b.0 b.1
operation_command (command.SetConfiguration value) b = operation_word 7 value 0 b (omega arith)
operation_command command.ReadHeader b = refl
operation_command command.ReadConfiguration b = refl
operation_command command.ReadDevice b = refl
operation_command (command.ReadConfig index) b = operation_word 11 index 0 b (omega arith)
operation_command command.Disable b = refl

-- Every command that a course can send has P.
unfoldable pub EachCommand : {A : Type 0} → (Command → Type 0) → Course A → Type 0
EachCommand P (ends a) = Unit {0}
EachCommand P (sends c ctx k) = P c × ((s : Sent) → EachCommand P (k s))

-- the commands of one course after the other
pub each_then : {A B : Type 0} (P : Command → Type 0) (c : Course A) (f : A → Course B) → EachCommand P c →
    ((a : A) → EachCommand P (f a)) → EachCommand P (then c f)
unfolding EachCommand then
each_then P (ends a) f e g = g a
each_then P (sends c ctx k) f e g = (e.0, λ s. each_then P (k s) f (e.1 s) g)
