use mathlib.Core.Path.{sym}
use Rattle.dispatcher.proofs.Laws.{submit_again, submit_many, submit_new, submit_known}
use Rattle.dispatcher.proofs.submit.Goals.{then-mark-eq-NEVER+else-d-ge-TAKEN_ROOM, else-mark-eq-NEVER}
use Rattle.dispatcher.proofs.submit.Goals as goal

pub returns-then-mark-eq-WAITING : goal.returns-then-mark-eq-WAITING
returns-then-mark-eq-WAITING c = sym (submit_again _ _ c.if-mark-eq-WAITING.true)

pub returns-then-d-ge-TAKEN_ROOM : goal.returns-then-d-ge-TAKEN_ROOM
returns-then-d-ge-TAKEN_ROOM c = sym (submit_many _ _ c.if-mark-eq-NEVER.true c.if-d-ge-TAKEN_ROOM.true)

pub returns : goal.returns
returns c = elim c.if-mark-eq-NEVER.branch [
  | then-mark-eq-NEVER+else-d-ge-TAKEN_ROOM w ↦ rw w.d-is (sym (submit_new _ _ w.if-mark-eq-NEVER.true w.if-d-ge-TAKEN_ROOM.false))
  | else-mark-eq-NEVER w ↦ rw w.d-is (sym (submit_known _ _ c.if-mark-eq-WAITING.false w.if-mark-eq-NEVER.false))
]
