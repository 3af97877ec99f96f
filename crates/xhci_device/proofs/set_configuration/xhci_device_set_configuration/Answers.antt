use Rattle.xhci_device.proofs.Steps.{set_keeps, cross}
use Rattle.xhci_device.proofs.set_configuration.xhci_device_set_configuration.Goals as goal

pub returns : goal.returns
returns c =
    rw (← c.decode-d.ensures)
    (cross c.decode-d.result _ _ _ _ _ c.decode-d.ensures (set_keeps c.decode-d.result _ _ _ c.args.outcomes.now c.args.value)
    c.set_configuration-called.result _ _ _ _ _ c.set_configuration-called.ensures c.finish.ensures.0 c.finish.ensures.1 c.finish.ensures.2)
