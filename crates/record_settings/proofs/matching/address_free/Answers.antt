use mathlib.Core.Path.{sym, ◌∙◌}
use borrow.Author.Rules.{rules}
use borrow.Author.Tests.{eq-eqb, ne_eqb}
use Rattle.record_settings.proofs.Steps.{free_with, free_without}
use Rattle.record_settings.proofs.matching.address_free.Goals as goal

pub returns-then-c-place-eq0 : goal.returns-then-c-place-eq0
returns-then-c-place-eq0 c = sym (free_with _ _ _ _ (c.in-Some.ensures.value ∙ rw c.endpoint_descriptor.ensures) ∙ rw (eq-eqb _ _ c.if-c-place-eq0.true))

pub returns-else-c-place-eq0 : goal.returns-else-c-place-eq0
returns-else-c-place-eq0 c = sym (free_with _ _ _ _ (c.in-Some.ensures.value ∙ rw c.endpoint_descriptor.ensures) ∙ rw (ne_eqb _ _ c.if-c-place-eq0.false))

pub returns-in-None : goal.returns-in-None
returns-in-None c = sym (free_without _ _ _ (search rules) (c.in-None.ensures.value ∙ rw c.endpoint_descriptor.ensures))
