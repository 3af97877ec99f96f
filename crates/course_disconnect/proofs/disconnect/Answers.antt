use mathlib.Core.Path.{refl, ap}
use mathlib.Core.List.{[]}
use native.Mathlib.Omega.{arith}
use lib.ListN.{length}
use Rattle.std.proofs.Math.ListN.{length-take}
use Rattle.std.specs.Prelude.{Ok}
use Rattle.command.specs.Course.{on_sent, then}
use Rattle.command.specs.Sweep.{stop_each}
use Rattle.command.proofs.Phases.{Begins, continued, went_on}
use Rattle.course_steps.proofs.Laws.{ended}
use Rattle.course_steps.specs.Arrays.{dcis_in}
use Rattle.course_disconnect.specs.Disconnect.{disconnect_course}
use Rattle.course_disconnect.proofs.Steps.{stopped, stops_count}
use Rattle.course_disconnect.proofs.disconnect.Goals as goal

pub disable-requires : goal.disable-requires
disable-requires c =
    let few = stops_count _ _ _ _ 1 (Ok _) (rw c.in-Ok.is at (c.stop_each.ensures [])) in
    omega (arith, few, ap length c.dcis.ensures, length-take c.args.q.count c.args.q.dcis, c.args.q.fits, c.requires, c.stop_each.auto.log, c.send.auto.log)

pub returns-in-Cut : goal.returns-in-Cut
unfolding disconnect_course stop_each then on_sent Begins continued
returns-in-Cut c =
    λ ctx. went_on _ _ _ _ _ refl c.send.ensures c.in-Cut.is (ended _ c.settings_kept.ensures)

pub returns-in-Ok : goal.returns-in-Ok
unfolding dcis_in
returns-in-Ok c =
    λ ctx. rw (← c.dcis.ensures) (stopped _ _ _ ctx _ _ _ _ _ c.send.ensures c.in_default.not-Cut (rw c.in-Ok.is at (c.stop_each.ensures ctx))
    (c.disable.ensures ctx))

pub returns-in-Err : goal.returns-in-Err
unfolding dcis_in
returns-in-Err c =
    λ ctx. rw (← c.dcis.ensures) (stopped _ _ _ ctx _ _ _ _ _ c.send.ensures c.in_default.not-Cut (rw c.in-Err.is at (c.stop_each.ensures ctx))
    (ended _ c.settings_kept-in-Err.ensures))
