use mathlib.Core.Path.{◌≡◌, sym, ◌∙◌}
use borrow.Author.Rules.{rules}
use lib.ListN.{get_or}
use Rattle.reason.proofs.Steps.{failed_here, failed_next, failed_end}
use Rattle.reason.proofs.first_failed.Goals as goal

pub returns-then-unwrap_or-ne0 : goal.returns-then-unwrap_or-ne0
returns-then-unwrap_or-ne0 c =
    let l = c.loop-place in
    let byte : c.unwrap_or.result ≡ get_or c.args.outcomes.now l.place 0 = search rules in
    sym (l.invariant ∙ failed_here _ _ _ l.place c.loop-place-test.true (rw byte at c.if-unwrap_or-ne0.true))

pub loop-place-preserved : goal.loop-place-preserved
loop-place-preserved c =
    let l = c.loop-place in
    let byte : c.unwrap_or.result ≡ get_or c.args.outcomes.now l.place 0 = search rules in
    l.invariant ∙ failed_next _ _ _ l.place c.loop-place-test.true (sym byte ∙ c.if-unwrap_or-ne0.false)

pub returns : goal.returns
returns c = sym (c.loop-place.invariant ∙ failed_end _ _ _ c.loop-place.place c.loop-place-test.false)
