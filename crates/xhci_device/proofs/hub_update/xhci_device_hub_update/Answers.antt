use Rattle.device_image.specs.Image.{is_set}
use Rattle.xhci_device.proofs.Steps.{hub_keeps, cross}
use Rattle.xhci_device.proofs.hub_update.xhci_device_hub_update.Goals as goal

pub returns : goal.returns
unfolding is_set
returns c =
    rw (← c.decode-d.ensures)
    (cross c.decode-d.result _ _ _ _ _ c.decode-d.ensures (hub_keeps c.decode-d.result _ _ _ c.args.outcomes.now c.args.ports _ c.args.ns)
    c.hub_update-called.result _ _ _ _ _ c.hub_update-called.ensures c.finish.ensures.0 c.finish.ensures.1 c.finish.ensures.2)
