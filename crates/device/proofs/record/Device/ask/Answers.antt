use mathlib.Core.Path.{sym, ap, ◌∙◌}
use Rattle.answer.specs.Check.{check_of}
use Rattle.device.proofs.AskLaws.{ready, ready_to_show, shown, not_shown}
use Rattle.device.proofs.record.Device.ask.Goals as goal

pub show_claim-requires-clause-d_value : goal.show_claim-requires-clause-d_value
show_claim-requires-clause-d_value c =
    ready_to_show c.args.self _ _ _ _ _ (ready c.args.self _ _ _ _ _ _ _ c.claim_check.ensures _ c.in-Ok.is).0

pub returns-in-Ok : goal.returns-in-Ok
returns-in-Ok c =
    shown c.args.self c.args.l.ctx c.args.l.routes c.args.l.log c.args.interface c.args.alternate c.show_claim.result
    (ready c.args.self _ _ _ _ _ _ _ c.claim_check.ensures _ c.in-Ok.is).0 c.show_claim.ensures

pub returns-in-Err : goal.returns-in-Err
unfolding check_of
returns-in-Err c =
    not_shown c.args.self c.args.l.ctx c.args.l.routes c.args.l.log c.args.interface c.args.alternate c.no_preview.result _
    (sym c.claim_check.ensures.check ∙ ap check_of c.in-Err.is) c.no_preview.ensures
