use mathlib.Core.Path.{sym, ◌∙◌}
use Rattle.reason.proofs.Steps.{owned_here, owned_next, owned_end}
use Rattle.reason.proofs.first_owned.Goals as goal

pub returns-in-Some : goal.returns-in-Some
returns-in-Some c =
    let l = c.loop-word in
    sym (l.invariant ∙ owned_here _ _ _ l.word-index c.loop-word-test.true _ c.in-Some.ensures.0 c.in-Some.ensures.1)

pub loop-word-preserved : goal.loop-word-preserved
loop-word-preserved c =
    let l = c.loop-word in
    l.invariant ∙ owned_next _ _ _ l.word-index c.loop-word-test.true c.in_default.ensures

pub returns : goal.returns
returns c = sym (c.loop-word.invariant ∙ owned_end _ _ _ c.loop-word.word-index c.loop-word-test.false)
