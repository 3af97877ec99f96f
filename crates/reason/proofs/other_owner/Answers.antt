use mathlib.Core.Path.{◌≡◌, ◌∙◌}
use borrow.Author.Rules.{rules}
use Rattle.descriptor.specs.Word.{endpoint_descriptor}
use Rattle.record_endpoint.specs.Order.{place_of}
use Rattle.reason.proofs.Steps.{free_nowhere, free_unowned, free_own, not_free, owner_at}
use Rattle.reason.proofs.other_owner.Goals as goal
use Rattle.reason.proofs.other_owner.Goals.{then-c-place-eq0-via-then-c-place-eq0, then-c-place-eq0-via-else-c-place-eq0+then-c-place}

pub returns-in_err-place : goal.returns-in_err-place
returns-in_err-place c =
    rw c.from_residual.ensures (free_nowhere _ _ _ (search rules) (c.in_err-place.ensures.value ∙ rw c.endpoint_descriptor.ensures))

pub returns-then-c-place-eq0 : goal.returns-then-c-place-eq0
returns-then-c-place-eq0 c =
    let place : c.in_ok-place.place ≡ place_of (endpoint_descriptor c.args.word).address = c.in_ok-place.ensures.value ∙ rw c.endpoint_descriptor.ensures in
    elim c.then-c-place-eq0.branch [
      | then-c-place-eq0-via-then-c-place-eq0 w ↦ free_unowned _ _ _ _ place w.if-c-place-eq0.true
      | then-c-place-eq0-via-else-c-place-eq0+then-c-place w ↦ free_own _ _ _ _ place w.if-c-place-eq0.false w.if-c-place.true
    ]

pub returns : goal.returns
returns c =
    let place : c.in_ok-place.place ≡ place_of (endpoint_descriptor c.args.word).address = c.in_ok-place.ensures.value ∙ rw c.endpoint_descriptor.ensures in
    (not_free _ _ _ _ place c.if-c-place-eq0.false c.if-c-place.false, owner_at _ c.args.interface _ _ place)
