use mathlib.Core.Path.{sym, ◌∙◌}
use native.Mathlib.Omega.{arith}
use borrow.Author.Rules.{rules}
use Rattle.record_endpoint.specs.EndpointMap.{with_endpoint}
use Rattle.record_endpoint.proofs.Steps.{claiming_none, claiming_put, claiming_gone, claiming_keep, claiming_done}
use Rattle.record_endpoint.proofs.pending.claimed_endpoints.Goals.{then-pending-p-ne0, else-pending-p-ne0+then-is_owned, else-pending-p-ne0+else-is_owned}
use Rattle.record_endpoint.proofs.pending.claimed_endpoints.Goals as goal

pub loop-p-init : goal.loop-p-init
loop-p-init c = claiming_none _ _ _ (record { rings = search rules; owners = search rules; active = search rules })

pub loop-p-preserved : goal.loop-p-preserved
unfolding with_endpoint
loop-p-preserved c = let a = c.loop-p.invariant in let h = c.loop-p-test.true in elim c.if-pending-p-ne0.branch [
  | then-pending-p-ne0 w ↦ rw w.c-is (claiming_put a h w.if-pending-p-ne0.true)
  | else-pending-p-ne0+then-is_owned w ↦ rw w.c-is (claiming_gone a h w.if-pending-p-ne0.false (sym w.is_owned.ensures ∙ w.if-is_owned.true))
  | else-pending-p-ne0+else-is_owned w ↦ rw w.c-is (claiming_keep a h w.if-pending-p-ne0.false (sym w.is_owned.ensures ∙ w.if-is_owned.false))
]

pub returns : goal.returns
returns c = claiming_done c.loop-p.invariant (omega arith) (omega arith)
