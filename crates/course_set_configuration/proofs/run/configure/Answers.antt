use Rattle.std.proofs.Common.{rules, refl}
use Rattle.command.specs.Course.{on_sent}
use Rattle.command.proofs.Phases.{Begins, continued, went_on}
use Rattle.course_steps.specs.End.{configure_failed, resumed}
use Rattle.course_steps.proofs.Laws.{dcis_in_lem, ended}
use Rattle.course_set_configuration.specs.SetConfiguration.{set_resume, set_configure}
use Rattle.course_set_configuration.proofs.run.configure.Goals as goal

pub returns-in-Done : goal.returns-in-Done
unfolding set_configure on_sent Begins continued
returns-in-Done c =
    went_on _ _ _ _ _ refl c.send.ensures c.in-Done.is (rw (← c.prepare_drop.ensures) c.switch.ensures)

pub returns-in-Failed : goal.returns-in-Failed
unfolding set_configure set_resume on_sent Begins continued resumed
returns-in-Failed c =
    went_on _ _ _ _ _ refl c.send.ensures c.in-Failed.is
    (rw (← c.prepare_drop.ensures, dcis_in_lem) (c.resume.ensures (configure_failed c.in-Failed.code) _ _ (λ s a p. search rules)))

pub returns-in-Cut : goal.returns-in-Cut
unfolding set_configure on_sent Begins continued
returns-in-Cut c =
    went_on _ _ _ _ _ refl c.send.ensures c.in-Cut.is
    (rw (← c.prepare_drop.ensures) (ended _ c.settings_kept.ensures))
