use mathlib.Core.Path.{sym, ◌∙◌}
use native.Mathlib.Omega.{arith}
use Rattle.transfer.specs.Routes.{with_route}
use Rattle.transfer.proofs.Steps.{publish_next, publish_none}
use Rattle.transfer.proofs.put_routes.Goals as goal

pub loop-i-preserved : goal.loop-i-preserved
unfolding with_route
loop-i-preserved c =
    c.loop-i.invariant ∙ publish_next _ _ _ _ _ c.loop-i-test.true
    ∙ rw (c.put_word.ensures, c.route_index.ensures, c.word_at.ensures)

pub returns : goal.returns
returns c = sym (c.loop-i.invariant ∙ publish_none _ _ _ _ _ (omega arith))
