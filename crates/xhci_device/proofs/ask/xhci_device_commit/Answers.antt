use Rattle.device.specs.Ask.{asking}
use Rattle.xhci_device.proofs.Steps.{commit_keeps, cross}
use Rattle.xhci_device.proofs.ask.xhci_device_commit.Goals as goal

pub returns : goal.returns
returns c =
    rw (← c.decode-d.ensures)
    (cross c.decode-d.result _ _ _ _ _ c.decode-d.ensures (commit_keeps c.decode-d.result _ _ _ c.args.outcomes.now
    (asking c.args.interface c.args.alternate c.args.drops c.args.adds c.args.rings.now))
    c.commit-called.result _ _ _ _ _ c.commit-called.ensures c.finish.ensures.0 c.finish.ensures.1 c.finish.ensures.2)
