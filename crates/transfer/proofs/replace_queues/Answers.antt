use mathlib.Core.Path.{sym, ap, ◌∙◌}
use mathlib.Core.Bool.{not}
use Rattle.transfer.proofs.Steps.{at_invalid, at_full, at_done}
use Rattle.transfer.proofs.replace_queues.Goals as goal

pub returns-then-not-old_match : goal.returns-then-not-old_match
returns-then-not-old_match c = at_invalid _ _ _ _ _ (ap not (sym c.old_match.ensures ∙ c.if-not-old_match.true))

pub returns-then-not-new_free : goal.returns-then-not-new_free
returns-then-not-new_free c = at_full _ _ _ _ _ (ap not (sym c.new_free.ensures ∙ c.if-not-new_free.true)) (ap not (sym c.old_match.ensures ∙ c.if-not-old_match.false))

pub returns : goal.returns
returns c = at_done _ _ _ _ _ _ (c.put_routes-2.ensures ∙ rw c.put_routes.ensures) (ap not (sym c.new_free.ensures ∙ c.if-not-new_free.false)) (ap not (sym c.old_match.ensures ∙ c.if-not-old_match.false))
