use Prim.Native.Nat.{◌≤◌}
use Rattle.record_endpoint.proofs.Steps.{Activated}
use Rattle.record_endpoint.proofs.endpoint_map.with_active.Given as goal

abbrev pub invariant-loop-p : goal.invariant-loop-p
invariant-loop-p l =
    (l.seen ≤ l.p) × Activated l.who l.n l.initial.c l.seen l.p l.c
