use mathlib.Core.Path.{sym, ◌∙◌}
use Rattle.descriptor_list.proofs.Companions.{listed}
use Rattle.record_checks.proofs.sound.lists_sound.Goals as goal

pub beside_list-requires : goal.beside_list-requires
beside_list-requires c = (listed _ _ (sym c.valid_at.ensures ∙ c.if-valid_at.true)).short

pub returns-then-valid_at : goal.returns-then-valid_at
returns-then-valid_at c = rw (sym c.valid_at.ensures ∙ c.if-valid_at.true) c.beside_list.ensures

pub returns-else-valid_at : goal.returns-else-valid_at
returns-else-valid_at c = rw (sym c.valid_at.ensures ∙ c.if-valid_at.false) c.if-valid_at.false
