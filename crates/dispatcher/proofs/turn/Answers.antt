use Rattle.dispatcher.specs.Dispatcher.{next_slot}
use Rattle.dispatcher.proofs.Laws.{turn_slot, turn_nobody}
use Rattle.dispatcher.proofs.turn.Goals as goal

pub returns-then-place-ge-SLOTS : goal.returns-then-place-ge-SLOTS
unfolding next_slot
returns-then-place-ge-SLOTS c = turn_nobody _ _ c.first_waiting-place.ensures c.if-place-ge-SLOTS.true

pub returns : goal.returns
unfolding next_slot
returns c = turn_slot _ _ c.first_waiting-place.ensures c.if-place-ge-SLOTS.false
