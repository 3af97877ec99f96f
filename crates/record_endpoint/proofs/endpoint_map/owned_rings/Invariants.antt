use mathlib.Core.Bool.{cond}
use lib.ListN.{get_or}
use Rattle.record_endpoint.specs.EndpointMap.{is_owned}
use Rattle.record_endpoint.proofs.Steps.{Written}
use Rattle.record_endpoint.proofs.endpoint_map.owned_rings.Given as goal

abbrev pub invariant-loop-p : goal.invariant-loop-p
invariant-loop-p l =
    Written 30 (λ q. cond (is_owned l.who l.c q) (get_or l.c.rings q 0) 0) l.c.rings 0 l.p l.rings
