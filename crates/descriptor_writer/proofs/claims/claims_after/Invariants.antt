use Rattle.descriptor_writer.proofs.Claiming.{Claiming}
use Rattle.descriptor_writer.proofs.claims.claims_after.Given as goal

abbrev pub invariant-loop-w : goal.invariant-loop-w
invariant-loop-w l = Claiming l.after l.marks l.bytes l.w-index
