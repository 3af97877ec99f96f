use Rattle.device.specs.Ask.{commit}
use Rattle.device.proofs.AskLaws.{ready}
use Rattle.device.proofs.record.Device.commit.Goals as goal

pub run_claim-e-requires : goal.run_claim-e-requires
run_claim-e-requires c = ready c.args.self _ _ _ c.args.asked.interface c.args.asked.alternate _ _ c.commit_check-checked.ensures

pub returns : goal.returns
unfolding commit
returns c = rw (← c.commit_check-checked.ensures.check) c.run_claim-e.ensures
