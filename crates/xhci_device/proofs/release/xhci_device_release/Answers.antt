use Rattle.xhci_device.proofs.Steps.{release_keeps, cross}
use Rattle.xhci_device.proofs.release.xhci_device_release.Goals as goal

pub returns : goal.returns
returns c =
    rw (← c.decode-d.ensures)
    (cross c.decode-d.result _ _ _ _ _ c.decode-d.ensures (release_keeps c.decode-d.result _ _ _ c.args.outcomes.now c.args.interface)
    c.release-called.result _ _ _ _ _ c.release-called.ensures c.finish.ensures.0 c.finish.ensures.1 c.finish.ensures.2)
