use Rattle.std.proofs.Common.{refl}
use Rattle.command.specs.Course.{on_sent}
use Rattle.command.proofs.Phases.{Begins, continued, went_on}
use Rattle.course_steps.proofs.Laws.{ended}
use Rattle.course_set_configuration.specs.SetConfiguration.{set_switch}
use Rattle.course_set_configuration.proofs.run.switch.Goals as goal

pub returns-in-Done : goal.returns-in-Done
unfolding set_switch on_sent Begins continued
returns-in-Done c = went_on _ _ _ _ _ refl c.send.ensures c.in-Done.is (c.publish.ensures _)

pub returns-in-Failed : goal.returns-in-Failed
unfolding set_switch on_sent Begins continued
returns-in-Failed c = went_on _ _ _ _ _ refl c.send.ensures c.in-Failed.is (c.restore.ensures _)

pub returns-in-Cut : goal.returns-in-Cut
unfolding set_switch on_sent Begins continued
returns-in-Cut c = went_on _ _ _ _ _ refl c.send.ensures c.in-Cut.is (ended _ c.settings_kept.ensures)
