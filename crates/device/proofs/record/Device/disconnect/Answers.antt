use Rattle.device.proofs.record.Device.disconnect.Goals as goal

pub returns : goal.returns
returns c = c.run_disconnect-e.ensures
