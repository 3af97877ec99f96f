-- What is below the last operand of an operation is never nothing.
use Prim.Native.Nat.{ℕ, ◌<◌}
use mathlib.Core.Bool.{Bool, true, false, cond}
use Rattle.std.proofs.Common.{lit<}
use Rattle.command_reader.specs.Read.{has_one, has_two, lowest_bit}

positive : (b c : Bool) {x y z : ℕ} → 0 < x → 0 < y → 0 < z → 0 < cond b x (cond c y z)
positive true c p q r = p
positive false true p q r = q
positive false false p q r = r

-- no operation's is 0
pub lowest_some : (operation : ℕ) → 0 < lowest_bit operation
unfolding lowest_bit
lowest_some operation = positive (has_one operation) (has_two operation) (lit< tt) (lit< tt) (lit< tt)
