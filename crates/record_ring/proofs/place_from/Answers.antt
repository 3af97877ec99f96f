use mathlib.Core.Path.{sym, ◌∙◌}
use borrow.Author.Tests.{ne_eqb}
use Rattle.record_ring.proofs.Steps.{elem_next, found_at, found_none}
use Rattle.record_ring.proofs.place_from.Goals as goal

pub returns-then-rings-i : goal.returns-then-rings-i
returns-then-rings-i c = found_at _ _ _ _ c.loop-i-test.true c.if-rings-i.true c.loop-i.invariant

pub loop-i-preserved : goal.loop-i-preserved
loop-i-preserved c = c.loop-i.invariant ∙ elem_next _ _ _ c.loop-i-test.true ∙ rw (ne_eqb _ _ (λ e. c.if-rings-i.false (sym e)))

pub returns : goal.returns
returns c = found_none _ _ _ _ c.loop-i-test.false c.loop-i.invariant
