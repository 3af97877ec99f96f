use mathlib.Core.Path.{◌≡◌}
use lib.ListN.{drop}
use Rattle.record_ring.proofs.Steps.{rises_from}
use Rattle.record_ring.proofs.rings_rise.Given as goal

abbrev pub invariant-loop-ring : goal.invariant-loop-ring
invariant-loop-ring l =
    rises_from 0 l.rings ≡ rises_from l.last (drop l.ring-index l.rings)
