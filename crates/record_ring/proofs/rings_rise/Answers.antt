use mathlib.Core.Path.{◌∙◌}
use native.Mathlib.Omega.{arith}
use Rattle.record_ring.proofs.Steps.{rises_next, rises_last, rises_fit}
use Rattle.record_ring.proofs.rings_rise.Goals as goal

pub loop-ring-preserved : goal.loop-ring-preserved
loop-ring-preserved c =
    c.loop-ring.invariant ∙ rises_next _ _ _ c.loop-ring-test.true c.if-ring-last.false c.if-ring-ne0.false

pub returns : goal.returns
returns c = λ _. rises_fit _ 0 (c.loop-ring.invariant ∙ rises_last c.args.rings.now c.loop-ring.ring-index _ (omega arith))
