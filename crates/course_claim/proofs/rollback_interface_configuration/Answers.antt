use mathlib.Core.Path.{◌≡◌, refl, ◌∙◌}
use Rattle.command.specs.Course.{on_sent}
use Rattle.command.proofs.Phases.{Begins, continued, went_on}
use Rattle.course_steps.proofs.Laws.{ended}
use Rattle.course_claim.specs.Claim.{claim_of, undo_context, claim_undo}
use Rattle.course_claim.proofs.rollback_interface_configuration.Goals as goal

pub returns-in-Done : goal.returns-in-Done
unfolding claim_undo undo_context on_sent Begins continued
returns-in-Done c =
    let prepared : c.prepare_configure.new.ctx ≡ undo_context (claim_of c.args.a c.args.old_words.now c.args.new_words.now) c.args.ctx.now = c.prepare_configure.ensures ∙ simp c.unwrap_or-alternate.ensures in
    λ routes. went_on _ _ _ _ _ refl c.send.ensures c.in-Done.is
    (rw (← prepared) (c.switch_back.ensures _ _ _ _))

pub returns-in-Failed : goal.returns-in-Failed
unfolding claim_undo undo_context on_sent Begins continued
returns-in-Failed c =
    let prepared : c.prepare_configure.new.ctx ≡ undo_context (claim_of c.args.a c.args.old_words.now c.args.new_words.now) c.args.ctx.now = c.prepare_configure.ensures ∙ simp c.unwrap_or-alternate.ensures in
    λ routes. went_on _ _ _ _ _ refl c.send.ensures c.in-Failed.is
    (rw (← prepared) (ended _ c.settings_marked.ensures))

pub returns-in-Cut : goal.returns-in-Cut
unfolding claim_undo undo_context on_sent Begins continued
returns-in-Cut c =
    let prepared : c.prepare_configure.new.ctx ≡ undo_context (claim_of c.args.a c.args.old_words.now c.args.new_words.now) c.args.ctx.now = c.prepare_configure.ensures ∙ simp c.unwrap_or-alternate.ensures in
    λ routes. went_on _ _ _ _ _ refl c.send.ensures c.in-Cut.is
    (rw (← prepared) (ended _ c.settings_marked-in-Cut.ensures))
