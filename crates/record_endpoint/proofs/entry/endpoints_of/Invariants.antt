use Prim.Native.Nat.{◌≤◌}
use lib.ListN.{get_or}
use Rattle.record_endpoint.specs.Endpoint.{blank}
use Rattle.record_endpoint.specs.EndpointMap.{endpoint_at}
use Rattle.record_endpoint.proofs.Steps.{Filled}
use Rattle.record_endpoint.proofs.entry.endpoints_of.Given as goal

abbrev pub invariant-loop-p : goal.invariant-loop-p
invariant-loop-p l =
    (l.n ≤ l.p)
    × Filled 30 blank (endpoint_at l.c) l.c.rings l.p l.eps l.n
    × Filled 30 0 (λ q. get_or l.c.owners q 0) l.c.rings l.p l.owners l.n
