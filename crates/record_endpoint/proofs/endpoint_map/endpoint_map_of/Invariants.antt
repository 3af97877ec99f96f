use mathlib.Core.Path.{◌≡◌}
use Prim.Native.Nat.{◌-◌}
use lib.ListN.{length, drop}
use Rattle.record_endpoint.specs.EndpointMap.{Whole, no_endpoints, endpoint_map_from}
use Rattle.record_endpoint.proofs.endpoint_map.endpoint_map_of.Given as goal

abbrev pub invariant-loop-i : goal.invariant-loop-i
invariant-loop-i l =
    Whole l.c
    × (endpoint_map_from (length l.eps) l.eps l.owners no_endpoints ≡ endpoint_map_from (length l.eps - l.i) (drop l.i l.eps) (drop l.i l.owners) l.c)
