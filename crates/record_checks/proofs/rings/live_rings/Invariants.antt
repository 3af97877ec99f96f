use Rattle.record_checks.proofs.Steps.{Gathered}
use Rattle.record_checks.proofs.rings.live_rings.Given as goal

abbrev pub invariant-loop-i : goal.invariant-loop-i
invariant-loop-i l = Gathered l.eps l.control l.rings l.i
