use borrow.Author.Tests.{eq-eqb, ne_eqb}
use Rattle.record_endpoint.specs.EndpointMap.{owns, is_owned}
use Rattle.record_endpoint.proofs.endpoint_map.EndpointMap.is_owned.Goals as goal

pub returns-then-self-place-eq0 : goal.returns-then-self-place-eq0
unfolding is_owned
returns-then-self-place-eq0 c = rw (eq-eqb _ _ c.if-self-place-eq0.true)

pub returns-in-Any : goal.returns-in-Any
unfolding is_owned owns
returns-in-Any c = rw (ne_eqb _ _ c.if-self-place-eq0.false, c.in-Any.is)

pub returns-in-Interface : goal.returns-in-Interface
unfolding is_owned owns
returns-in-Interface c = rw (ne_eqb _ _ c.if-self-place-eq0.false, c.in-Interface.is)
