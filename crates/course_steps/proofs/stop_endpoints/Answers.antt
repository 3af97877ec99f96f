use Rattle.std.specs.Prelude.{length}
use Rattle.std.proofs.Common.{◌≤◌, rules, refl, ap, ◌∙◌, arith}
use Rattle.std.proofs.Math.ListN.{length-take}
use Rattle.std.proofs.Math.Seq.{take-take}
use Rattle.command.specs.Command.{stop_command}
use Rattle.command.specs.Sweep.{or_code, undo_stops}
use Rattle.command.proofs.Laws.{played_ends, played_then}
use Rattle.course_steps.specs.Arrays.{dcis_in}
use Rattle.course_steps.proofs.Loops.{stop_failed, stop_ended}
use Rattle.course_steps.proofs.stop_endpoints.Goals as goal

pub returns-in-Failed : goal.returns-in-Failed
unfolding undo_stops dcis_in
returns-in-Failed c =
    λ ctx.
    let s = c.send_each-stops.ensures.as_sent stop_command ctx (λ d e h p. search rules) in
    let back = c.resume_stopped_endpoints-back.ensures ctx in
    let few : c.send_each-stops.result.active ≤ c.args.q.count = omega (arith, length-take c.args.q.count c.args.q.dcis, ap length c.dcis.ensures) in
    rw (← c.dcis.ensures, stop_failed _ ctx _ _ _ _ _ s _ c.in-Failed.is, c.dcis.ensures, take-take _ _ c.args.q.dcis few, played_then, played_ends)
    (record { sent = c.or_code.ensures ∙ ap (or_code _) back.sent; active = back.active; count = back.count; log = back.log })

pub returns-in_default : goal.returns-in_default
unfolding dcis_in
returns-in_default c =
    λ ctx.
    rw (← c.dcis.ensures, stop_ended _ ctx _ _ _ _ _ (c.send_each-stops.ensures.as_sent stop_command ctx (λ d e h p. search rules)) c.in_default.not-Failed)
    (record { sent = refl; active = refl; count = refl; log = refl })
