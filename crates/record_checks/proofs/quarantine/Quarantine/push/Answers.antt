use native.Mathlib.Omega.{arith}
use Rattle.record_checks.proofs.Steps.{push_zeros}
use Rattle.record_checks.proofs.quarantine.Quarantine.push.Goals as goal

pub invariant_of-self : goal.invariant_of-self
invariant_of-self c = record { fits = omega arith; zeros = push_zeros c.args.self.now c.args.ring c.requires }
