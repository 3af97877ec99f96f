use Rattle.xhci_device.proofs.Steps.{disconnect_keeps, cross}
use Rattle.xhci_device.proofs.disconnect.xhci_device_disconnect.Goals as goal

pub returns : goal.returns
returns c =
    rw (← c.decode-d.ensures)
    (cross c.decode-d.result _ _ _ _ _ c.decode-d.ensures (disconnect_keeps c.decode-d.result _ _ _ c.args.outcomes.now)
    c.disconnect-called.result _ _ _ _ _ c.disconnect-called.ensures c.finish.ensures.0 c.finish.ensures.1 c.finish.ensures.2)
