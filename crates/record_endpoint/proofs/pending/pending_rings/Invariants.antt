use mathlib.Core.Path.{◌≡◌}
use lib.ListN.{length, drop, replicate}
use Rattle.record_endpoint.specs.EndpointMap.{pending_from}
use Rattle.record_endpoint.proofs.pending.pending_rings.Given as goal

abbrev pub invariant-loop-i : goal.invariant-loop-i
invariant-loop-i l =
    (length l.by ≡ 30)
    × (pending_from l.words l.rings (replicate 30 0) ≡ pending_from (drop l.i l.words) (drop l.i l.rings) l.by)
