use mathlib.Core.Path.{◌≡◌}
use lib.ListN.{drop}
use Rattle.transfer.specs.Routes.{queues, published}
use Rattle.transfer.proofs.put_routes.Given as goal

abbrev pub invariant-loop-i : goal.invariant-loop-i
invariant-loop-i l =
    published l.initial.routes l.slot.0 (queues l.dcis l.rings) ≡ published l.routes l.slot.0 (drop l.i (queues l.dcis l.rings))
