use Rattle.xhci_device.proofs.Steps.{claim_keeps, cross}
use Rattle.xhci_device.proofs.claim.xhci_device_claim.Goals as goal

pub returns : goal.returns
returns c =
    rw (← c.decode-d.ensures)
    (cross c.decode-d.result _ _ _ _ _ c.decode-d.ensures (claim_keeps c.decode-d.result _ _ _ c.args.outcomes.now c.args.interface c.args.alternate)
    c.claim-called.result _ _ _ _ _ c.claim-called.ensures c.finish.ensures.0 c.finish.ensures.1 c.finish.ensures.2)
