use mathlib.Core.Path.{◌≡◌}
use lib.ListN.{drop}
use Rattle.laws.specs.Distinct.{elem}
use Rattle.record_ring.proofs.place_from.Given as goal

abbrev pub invariant-loop-i : goal.invariant-loop-i
invariant-loop-i l =
    elem l.ring (drop l.from l.rings) ≡ elem l.ring (drop l.i l.rings)
