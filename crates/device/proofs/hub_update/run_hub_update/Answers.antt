use native.Mathlib.Omega.{arith}
use Rattle.device.specs.Calls.{hub_update}
use Rattle.device.proofs.Laws.{call_passed}
use Rattle.device.proofs.Exits.{refused_left, passed_left, hub_left_lem}
use Rattle.device.proofs.hub_update.run_hub_update.Goals as goal

pub returns-in-Err : goal.returns-in-Err
unfolding hub_update
returns-in-Err c =
    rw c.refused.ensures (refused_left _ _ c.hub_check.ensures _ c.in-Err.is c.args.d.now _ c.args.ctx.now c.args.routes.now c.args.log.now)

pub hub_context-requires : goal.hub_context-requires
hub_context-requires c = (call_passed _ _ _ _ _ _ c.hub_check.ensures c.in_default.is).spaced

pub send-s-requires : goal.send-s-requires
send-s-requires c = let p = call_passed _ _ _ _ _ _ c.hub_check.ensures c.in_default.is in omega (arith, p.room)

pub returns : goal.returns
unfolding hub_update
returns c =
    passed_left _ _ c.hub_check.ensures c.in_default.is _ _ _ (hub_left_lem c.args.d.now
    c.args.outcomes.now c.args.ctx.now c.args.routes.now c.args.log.now c.args.ports
    c.args.multi c.args.ns _ _ _ _ c.answer_of-answer.result c.mark.new.d
    c.think_value-think.ensures c.hub_context.ensures c.send-s.ensures c.answer_of-answer.ensures
    c.mark.ensures)
