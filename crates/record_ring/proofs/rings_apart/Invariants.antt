use mathlib.Core.Path.{◌≡◌}
use lib.ListN.{drop}
use Rattle.record_ring.proofs.Steps.{fit}
use Rattle.record_ring.proofs.rings_apart.Given as goal

abbrev pub invariant-loop-i : goal.invariant-loop-i
invariant-loop-i l =
    fit l.rings ≡ fit (drop l.i l.rings)
