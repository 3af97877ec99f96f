use Rattle.record_endpoint.specs.EndpointMap.{handle_of}
use Rattle.record_endpoint.proofs.entry.HandleFromBool.from.Goals as goal

pub returns-then-active : goal.returns-then-active
unfolding handle_of
returns-then-active c = rw c.if-active.true

pub returns-else-active : goal.returns-else-active
unfolding handle_of
returns-else-active c = rw c.if-active.false
