use Rattle.std.proofs.Common.{rules, refl}
use Rattle.command.specs.Course.{on_sent}
use Rattle.command.proofs.Phases.{Begins, continued, went_on}
use Rattle.course_steps.specs.End.{configure_failed, resumed}
use Rattle.course_steps.specs.Arrays.{dcis_in, rings_in, queues_in}
use Rattle.course_steps.proofs.Laws.{dcis_in_lem, ended}
use Rattle.transfer.specs.Routes.{queues}
use Rattle.course_release.specs.Release.{release_context, release_publish, release_resume, release_configure}
use Rattle.course_release.proofs.configure.Goals as goal

pub returns-in-Done : goal.returns-in-Done
unfolding release_configure release_publish on_sent Begins continued release_context queues_in dcis_in rings_in queues
returns-in-Done c =
    went_on _ _ _ _ _ refl c.send.ensures c.in-Done.is
    (rw (← c.prepare_configure.ensures) (c.publish.ensures c.args.outcomes.now c.prepare_configure.new.ctx c.send.new.log))

pub returns-in-Failed : goal.returns-in-Failed
unfolding release_configure release_resume on_sent Begins continued release_context resumed queues_in dcis_in rings_in queues
returns-in-Failed c =
    went_on _ _ _ _ _ refl c.send.ensures c.in-Failed.is
    (rw (← c.prepare_configure.ensures, dcis_in_lem) (c.resume.ensures (configure_failed _) _ _ (λ s a p. search rules)))

pub returns-in-Cut : goal.returns-in-Cut
unfolding release_configure on_sent Begins continued release_context queues_in dcis_in rings_in queues
returns-in-Cut c =
    went_on _ _ _ _ _ refl c.send.ensures c.in-Cut.is (rw (← c.prepare_configure.ensures) (ended _ c.settings_kept.ensures))
