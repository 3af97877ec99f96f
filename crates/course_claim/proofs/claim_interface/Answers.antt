use mathlib.Core.List.{[]}
use native.Mathlib.Omega.{arith}
use Rattle.command.specs.Course.{on_sent}
use Rattle.command.proofs.Phases.{swept_on}
use Rattle.course_steps.proofs.Laws.{dcis_in_lem, ended, stopped_count}
use Rattle.course_claim.specs.Claim.{claim_course}
use Rattle.course_claim.proofs.claim_interface.Goals as goal

pub configure-requires : goal.configure-requires
configure-requires c =
    let e = stopped_count _ _ _ _ _ _ _ (c.stop_endpoints-stop.ensures []) c.in-Done.is in
    record {
      room = c.requires.room;
      count_in_bounds = omega (arith, e, c.stop_endpoints-stop.auto.log, c.args.a.old.fits, c.requires.in_bounds);
    }

pub returns-in-Done : goal.returns-in-Done
unfolding claim_course on_sent
returns-in-Done c =
    rw dcis_in_lem (swept_on _ _ _ _ _ (c.stop_endpoints-stop.ensures _) c.in-Done.is c.configure.ensures)

pub returns-in-Failed : goal.returns-in-Failed
unfolding claim_course on_sent
returns-in-Failed c =
    rw (dcis_in_lem, c.requires.room.full)
    (swept_on _ _ _ _ _ (c.stop_endpoints-stop.ensures _) c.in-Failed.is (ended _ c.settings_kept.ensures))

pub returns-in-Cut : goal.returns-in-Cut
unfolding claim_course on_sent
returns-in-Cut c =
    rw dcis_in_lem (swept_on _ _ _ _ _ (c.stop_endpoints-stop.ensures _) c.in-Cut.is (ended _ c.settings_kept-in-Cut.ensures))
