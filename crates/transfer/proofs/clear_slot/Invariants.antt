use mathlib.Core.Path.{◌≡◌}
use Rattle.transfer.specs.Routes.{without_slot}
use Rattle.transfer.proofs.Steps.{cleared_from}
use Rattle.transfer.proofs.clear_slot.Given as goal

abbrev pub invariant-loop-dci : goal.invariant-loop-dci
invariant-loop-dci l = without_slot l.initial.routes l.slot.0 ≡ cleared_from l.routes l.slot.0 l.dci
