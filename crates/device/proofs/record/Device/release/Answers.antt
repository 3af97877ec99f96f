use Rattle.device.proofs.record.Device.release.Goals as goal

pub returns : goal.returns
returns c = c.run_release-e.ensures
