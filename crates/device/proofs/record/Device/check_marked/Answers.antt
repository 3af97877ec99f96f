use mathlib.Core.Path.{sym, ◌∙◌}
use Rattle.device.specs.Check.{check_marked}
use Rattle.device.proofs.Facts.{sound_facts}
use Rattle.device.proofs.record.Device.check_marked.Goals.{then-not-mark-via-then-not-mark, then-not-mark-via-else-not-mark+then-not-sound}
use Rattle.device.proofs.record.Device.check_marked.Goals as goal

pub returns-then-not-mark : goal.returns-then-not-mark
unfolding check_marked
returns-then-not-mark c = elim c.then-not-mark.branch [
  | then-not-mark-via-then-not-mark w ↦ rw w.if-not-mark.true
  | then-not-mark-via-else-not-mark+then-not-sound w ↦ rw (← w.sound.ensures, w.if-not-sound.true, w.if-not-mark.false)
]

pub lengths_check-requires : goal.lengths_check-requires
lengths_check-requires c = (sound_facts _ (sym c.sound.ensures ∙ c.if-not-sound.false)).place.narrow

pub returns : goal.returns
unfolding check_marked
returns c = rw (← c.sound.ensures, c.if-not-sound.false, c.if-not-mark.false, c.lengths_check.ensures)
