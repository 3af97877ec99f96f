use Rattle.std.proofs.Common.{rules, refl, ◌∙◌}
use Rattle.command.specs.Course.{on_sent}
use Rattle.command.proofs.Phases.{Begins, continued, went_on}
use Rattle.descriptor_list.specs.Companions.{joined}
use Rattle.course_steps.proofs.Laws.{dcis_in_lem, ended}
use Rattle.course_set_configuration.specs.SetConfiguration.{settings_of, set_restore}
use Rattle.course_set_configuration.proofs.Exits.{restored_answer, resumed_restored}
use Rattle.course_set_configuration.proofs.run.restore.Goals as goal

pub returns-in-Done : goal.returns-in-Done
unfolding set_restore on_sent Begins continued
returns-in-Done c =
    λ routes. went_on _ _ _ _ _ refl c.send.ensures c.in-Done.is
    (rw (← c.prepare_restore.ensures)
    ((rw (← dcis_in_lem) at (c.resume.ensures (restored_answer c.args.code) c.prepare_restore.new.ctx routes (λ s a p. search rules)))
    ∙ resumed_restored _ _ _ _ (settings_of c.args.a (joined c.args.list.now)) _ _ _ refl))

pub returns-in-Failed : goal.returns-in-Failed
unfolding set_restore on_sent Begins continued
returns-in-Failed c =
    λ routes. went_on _ _ _ _ _ refl c.send.ensures c.in-Failed.is
    (rw (← c.prepare_restore.ensures) (ended _ c.settings_kept.ensures))

pub returns-in-Cut : goal.returns-in-Cut
unfolding set_restore on_sent Begins continued
returns-in-Cut c =
    λ routes. went_on _ _ _ _ _ refl c.send.ensures c.in-Cut.is
    (rw (← c.prepare_restore.ensures) (ended _ c.settings_kept-in-Cut.ensures))
