use Rattle.std.proofs.Common.{rules, sym, ◌∙◌, arith}
use Rattle.course_disconnect.proofs.Steps.{stops_next, stops_cut, stops_end}
use Rattle.course_disconnect.proofs.stop_each.Goals as goal

pub returns-in-Cut : goal.returns-in-Cut
returns-in-Cut c =
    λ ctx. sym (c.loop-i.invariant.1 ctx ∙ stops_cut _ _ _ ctx _ _ _ _ (omega arith) c.send.ensures c.in-Cut.is)

pub loop-i-preserved : goal.loop-i-preserved
loop-i-preserved c = (
  search rules,
  λ ctx. c.loop-i.invariant.1 ctx ∙ stops_next _ _ _ ctx _ _ _ _ (omega arith) c.send.ensures c.in_default.not-Cut,
)

pub returns : goal.returns
returns c = λ ctx. sym (c.loop-i.invariant.1 ctx ∙ stops_end _ _ _ ctx _ _ (omega arith) (omega arith))
