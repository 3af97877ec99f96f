use Rattle.record_endpoint.proofs.Steps.{Claiming}
use Rattle.record_endpoint.proofs.pending.claimed_endpoints.Given as goal

abbrev pub invariant-loop-p : goal.invariant-loop-p
invariant-loop-p l = Claiming l.interface l.pending l.initial.c l.p l.c
