use mathlib.Core.Path.{refl}
use Rattle.command.specs.Course.{on_sent}
use Rattle.command.proofs.Phases.{Begins, continued, went_on}
use Rattle.course_steps.proofs.Laws.{ended}
use Rattle.course_claim.specs.Claim.{claim_publish, claim_switch}
use Rattle.course_claim.proofs.switch.Goals as goal

pub returns-in-Done : goal.returns-in-Done
unfolding claim_switch claim_publish on_sent Begins continued
returns-in-Done c =
    went_on _ _ _ _ _ refl c.send.ensures c.in-Done.is
    (c.publish.ensures c.args.outcomes.now c.args.ctx.now c.send.new.log)

pub returns-in-Failed : goal.returns-in-Failed
unfolding claim_switch on_sent Begins continued
returns-in-Failed c =
    went_on _ _ _ _ _ refl c.send.ensures c.in-Failed.is (c.rollback_interface_configuration.ensures _)

pub returns-in-Cut : goal.returns-in-Cut
unfolding claim_switch on_sent Begins continued
returns-in-Cut c =
    went_on _ _ _ _ _ refl c.send.ensures c.in-Cut.is (ended _ c.settings_marked.ensures)
