use borrow.Author.Tests.{eq-eqb, ne_eqb}
use Rattle.record_ring.specs.Rings.{ring_ok}
use Rattle.record_ring.proofs.ring_ok.Goals as goal

pub returns-then-ring-eq0 : goal.returns-then-ring-eq0
unfolding ring_ok
returns-then-ring-eq0 c = rw (eq-eqb _ _ c.if-ring-eq0.true)

pub returns : goal.returns
unfolding ring_ok
returns c = rw (ne_eqb _ _ c.if-ring-eq0.false)
