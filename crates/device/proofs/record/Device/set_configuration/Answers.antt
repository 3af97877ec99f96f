use Rattle.device.proofs.record.Device.set_configuration.Goals as goal

pub returns : goal.returns
returns c = c.run_set-e.ensures
