use mathlib.Core.Path.{refl}
use Rattle.command.specs.Course.{on_sent}
use Rattle.command.proofs.Phases.{Begins, continued, went_on}
use Rattle.course_steps.proofs.Laws.{ended}
use Rattle.course_claim.specs.Claim.{claim_switch_back, claim_undone}
use Rattle.course_claim.proofs.switch_back.Goals as goal

pub returns-in_default : goal.returns-in_default
unfolding claim_undone
returns-in_default c =
    λ old new ctx routes. rw (c.in_default.is, c.requires.0) (ended _ c.settings_kept.ensures)

pub returns-in-Done : goal.returns-in-Done
unfolding claim_undone claim_switch_back on_sent Begins continued
returns-in-Done c =
    λ old new ctx routes. rw c.in-Some.is (went_on _ _ _ _ _ refl c.send.ensures c.in-Done.is
    (rw c.requires.0 (ended _ c.settings_kept-in-Done.ensures)))

pub returns-in-Failed : goal.returns-in-Failed
unfolding claim_undone claim_switch_back on_sent Begins continued
returns-in-Failed c =
    λ old new ctx routes. rw c.in-Some.is
    (went_on _ _ _ _ _ refl c.send.ensures c.in-Failed.is (ended _ c.settings_marked.ensures))

pub returns-in-Cut : goal.returns-in-Cut
unfolding claim_undone claim_switch_back on_sent Begins continued
returns-in-Cut c =
    λ old new ctx routes. rw c.in-Some.is
    (went_on _ _ _ _ _ refl c.send.ensures c.in-Cut.is (ended _ c.settings_marked-in-Cut.ensures))
