use mathlib.Core.Path.{sym, ◌∙◌}
use Rattle.settings_form.proofs.Words.{many_pairs, no_words, held_words}
use Rattle.settings_form.proofs.held.settings_held.Goals as goal

pub returns-then-pairs-gt-PAIR_BYTES : goal.returns-then-pairs-gt-PAIR_BYTES
returns-then-pairs-gt-PAIR_BYTES c = sym (many_pairs _ _ _ c.if-pairs-gt-PAIR_BYTES.true)

pub returns-in_default : goal.returns-in_default
returns-in_default c = sym (no_words _ _ _ c.in_default.ensures)

pub returns : goal.returns
returns c = c.pairs_held.ensures ∙ sym (held_words _ _ _ c.if-pairs-gt-PAIR_BYTES.false _ c.in-Some.ensures)
