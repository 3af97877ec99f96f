use mathlib.Core.Path.{refl, ◌∙◌}
use Rattle.command.specs.Course.{on_sent}
use Rattle.command.specs.Sweep.{or_code}
use Rattle.command.proofs.Phases.{Begins, continued, went_on}
use Rattle.course_steps.specs.End.{answer_of, is_unanswered}
use Rattle.course_steps.proofs.Laws.{ended, ended_marked}
use Rattle.course_claim.specs.Claim.{claim_context, claim_resume, claim_configure}
use Rattle.course_claim.proofs.configure.Goals as goal

pub returns-in-Done : goal.returns-in-Done
unfolding claim_configure claim_context on_sent Begins continued
returns-in-Done c =
    went_on _ _ _ _ _ refl c.send.ensures c.in-Done.is (rw (← c.prepare_configure.ensures) c.switch.ensures)

pub returns-in-Failed : goal.returns-in-Failed
unfolding claim_configure claim_context claim_resume on_sent Begins continued
returns-in-Failed c =
    went_on _ _ _ _ _ refl c.send.ensures c.in-Failed.is
    (rw (← c.prepare_configure.ensures)
    (ended_marked _ _ _ _ (λ s. answer_of (or_code _ s)) is_unanswered (c.resume_stopped_endpoints-back.ensures _)
    (c.settings_marked.ensures ∙ rw (c.is_unanswered-doubted.ensures, c.answer_of-answer.ensures, c.or_code.ensures))))

pub returns-in-Cut : goal.returns-in-Cut
unfolding claim_configure claim_context on_sent Begins continued
returns-in-Cut c =
    went_on _ _ _ _ _ refl c.send.ensures c.in-Cut.is
    (rw (← c.prepare_configure.ensures) (ended _ c.settings_marked-in-Cut.ensures))
