use mathlib.Core.Path.{◌∙◌}
use Rattle.record_checks.proofs.sound.beside_list.Goals as goal

pub returns : goal.returns
returns c = c.lists_match.ensures ∙ rw c.join-count.ensures.1
