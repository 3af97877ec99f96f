use native.Mathlib.Omega.{arith}
use borrow.Author.Rules.{rules}
use Rattle.record_endpoint.specs.EndpointMap.{owned_rings}
use Rattle.record_endpoint.proofs.Steps.{write_none, write_next, write_keep, write_done}
use Rattle.record_endpoint.proofs.endpoint_map.owned_rings.Goals.{then-not-is_owned, else-not-is_owned}
use Rattle.record_endpoint.proofs.endpoint_map.owned_rings.Goals as goal

pub loop-p-init : goal.loop-p-init
loop-p-init c = write_none _ _ _ _ (search rules)

pub loop-p-preserved : goal.loop-p-preserved
loop-p-preserved c = elim c.if-not-is_owned.branch [
  | then-not-is_owned w ↦ rw w.rings-is (write_next _ c.loop-p.invariant c.loop-p-test.true (rw (← c.is_owned.ensures, w.if-not-is_owned.true)))
  | else-not-is_owned w ↦ rw w.rings-is (write_keep c.loop-p.invariant c.loop-p-test.true (rw (← c.is_owned.ensures, w.if-not-is_owned.false)))
]

pub returns : goal.returns
unfolding owned_rings
returns c = write_done c.loop-p.invariant (omega arith) (omega arith)
