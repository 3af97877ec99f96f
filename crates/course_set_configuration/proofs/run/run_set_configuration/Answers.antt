use mathlib.Core.List.{[]}
use native.Mathlib.Omega.{arith}
use Rattle.command.specs.Course.{on_sent}
use Rattle.command.proofs.Phases.{swept_on}
use Rattle.course_steps.proofs.Laws.{dcis_in_lem, stopped_count, ended}
use Rattle.course_set_configuration.specs.SetConfiguration.{set_course}
use Rattle.course_set_configuration.proofs.run.run_set_configuration.Goals as goal

pub configure-requires : goal.configure-requires
configure-requires c =
    let e = stopped_count _ _ _ _ _ _ _ (c.stop_endpoints-stop.ensures []) c.in-Done.is in
    record {
      room = c.requires.room;
      joinable = c.requires.joinable;
      count_in_bounds = omega (arith, e, c.stop_endpoints-stop.auto.log, c.requires.count_in_bounds);
    }

pub returns-in-Done : goal.returns-in-Done
unfolding set_course on_sent
returns-in-Done c =
    rw dcis_in_lem (swept_on _ _ _ _ _ (c.stop_endpoints-stop.ensures _) c.in-Done.is c.configure.ensures)

pub returns-in-Failed : goal.returns-in-Failed
unfolding set_course on_sent
returns-in-Failed c =
    rw dcis_in_lem (swept_on _ _ _ _ _ (c.stop_endpoints-stop.ensures _) c.in-Failed.is (ended _ c.settings_kept.ensures))

pub returns-in-Cut : goal.returns-in-Cut
unfolding set_course on_sent
returns-in-Cut c =
    rw dcis_in_lem (swept_on _ _ _ _ _ (c.stop_endpoints-stop.ensures _) c.in-Cut.is (ended _ c.settings_kept-in-Cut.ensures))
