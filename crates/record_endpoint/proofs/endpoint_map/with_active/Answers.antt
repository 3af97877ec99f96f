use mathlib.Core.Path.{sym, ◌∙◌}
use native.Mathlib.Omega.{arith}
use Rattle.record_endpoint.proofs.Steps.{activated_next, activated_keep, activated_done}
use Rattle.record_endpoint.proofs.endpoint_map.with_active.Goals.{then-is_owned, else-is_owned}
use Rattle.record_endpoint.proofs.endpoint_map.with_active.Goals as goal

pub loop-p-preserved : goal.loop-p-preserved
loop-p-preserved c = let a = c.loop-p.invariant.1 in elim c.if-is_owned.branch [
  | then-is_owned w ↦ rw (w.c-is, w.seen-is) (omega arith, activated_next a c.loop-p-test.true (sym c.is_owned.ensures ∙ w.if-is_owned.true))
  | else-is_owned w ↦ rw (w.c-is, w.seen-is) (omega arith, activated_keep a c.loop-p-test.true (sym c.is_owned.ensures ∙ w.if-is_owned.false))
]

pub returns : goal.returns
returns c = activated_done c.loop-p.invariant.1 (omega arith)
