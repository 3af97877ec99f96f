use Rattle.device.proofs.record.Device.hub_update.Goals as goal

pub returns : goal.returns
returns c = c.run_hub_update-e.ensures
