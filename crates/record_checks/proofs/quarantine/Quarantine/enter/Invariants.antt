use mathlib.Core.Path.{◌≡◌}
use lib.ListN.{drop}
use Rattle.record_ring.specs.Rings.{entered}
use Rattle.record_checks.specs.Rings.{quarantined_by}
use Rattle.record_checks.proofs.quarantine.Quarantine.enter.Given as goal

abbrev pub invariant-loop-ring : goal.invariant-loop-ring
invariant-loop-ring l =
    entered (quarantined_by l.fn.self) l.rings ≡ entered (quarantined_by l.self) (drop l.ring-index l.rings)
