use Rattle.dispatcher.proofs.Laws.{first_found, first_on, first_none}
use Rattle.dispatcher.proofs.first_waiting.Goals as goal

pub returns-then-marks-slot-eq-WAITING : goal.returns-then-marks-slot-eq-WAITING
returns-then-marks-slot-eq-WAITING c = first_found _ _ _ _ c.loop-k-test.true c.loop-k.invariant c.if-marks-slot-eq-WAITING.true

pub loop-k-preserved : goal.loop-k-preserved
loop-k-preserved c = first_on _ _ _ _ c.loop-k-test.true c.loop-k.invariant c.if-marks-slot-eq-WAITING.false

pub returns : goal.returns
returns c = first_none _ _ _ _ c.loop-k-test.false c.loop-k.invariant
