use mathlib.Core.Path.{ap, ◌∙◌}
use mathlib.Core.Logic.{inl, inr}
use Rattle.record_endpoint.specs.EndpointMap.{with_active}
use Rattle.device.specs.Device.{with_endpoints}
use Rattle.device.proofs.Ends.{handed, settled}
use Rattle.device.proofs.update.at_end.Goals.{then-e, else-e}
use Rattle.device.proofs.update.at_end.Goals as goal

pub returns : goal.returns
unfolding with_endpoints
returns c =
    let a = c.args in
    let j = c.if-e in
    let e = c.endpoints_of-count.ensures in
    λ hs h. rw (c.mark.ensures, e.eps, e.owners, e.count)
    (ap (handed a.e) (settled a.e.moved a.d.now j.d a.moved (with_active a.who a.e.active a.c) j.left a.held hs h (elim j.branch [
      | then-e w ↦ inl (w.if-e.true, w.d-is, w.left-is)
      | else-e w ↦ inr (w.if-e.false, w.d-is, w.left-is ∙ w.with_active-left.ensures)
    ])))
