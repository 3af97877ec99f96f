use Rattle.device.specs.Ask.{ask_check}
use Rattle.device.specs.Claim.{claim}
use Rattle.device.proofs.AskLaws.{ready}
use Rattle.device.proofs.record.Device.claim.Goals as goal

pub run_claim-e-requires : goal.run_claim-e-requires
run_claim-e-requires c = ready c.args.self _ _ _ c.args.interface c.args.alternate _ _ c.claim_check-checked.ensures

pub returns : goal.returns
unfolding claim ask_check
returns c = rw (← c.claim_check-checked.ensures.check) c.run_claim-e.ensures
