use mathlib.Core.Path.{◌≡◌}
use Prim.Native.Nat.{◌≤◌}
use lib.ListN.{length, get_or}
use Rattle.record_endpoint.specs.Order.{dci_at}
use Rattle.record_endpoint.proofs.Steps.{Filled}
use Rattle.record_endpoint.proofs.pending.queues_of.Given as goal

abbrev pub invariant-loop-p : goal.invariant-loop-p
invariant-loop-p l =
    (l.n ≤ l.p)
    × (length l.by ≡ 30)
    × Filled 30 0 dci_at l.by l.p l.dcis l.n
    × Filled 30 0 (λ q. get_or l.by q 0) l.by l.p l.rings l.n
