-- A claim's new rings are in doubt exactly where it is lost and its log has a Configure.
use Prim.Native.Nat.{ℕ, ◌+◌}
use mathlib.Core.Path.{◌≡◌, refl, ◌∙◌}
use mathlib.Core.Bool.{Bool, true, false, cond, ◌&&◌}
use mathlib.Core.List.{List}
use lib.ListN.{length}
use Rattle.std.specs.Prelude.{Result, Ok, Err, is_some}
use Rattle.answer.specs.declared.Answer.TheVariants as answer
use Rattle.answer.specs.Answer.{number, is_lost}
use Rattle.command.specs.declared.Sent.{Sent}
use Rattle.command.specs.declared.Sent.TheVariants as sent
use Rattle.command.specs.Course.{Course, ends, on_sent, words, result}
use Rattle.command.specs.Sweep.{or_code, Sweep, stop_endpoints, resume_stopped_endpoints}
use Rattle.command.proofs.Cuts.{on_sent_lem, each_outcome}
use Rattle.command.proofs.EachEnd.{EachEnd, end_of, end_then}
use Rattle.command.proofs.Laws.{result_then}
use Rattle.command.proofs.Operations.{ByteOperands, operation, EachCommand}
use Rattle.command.proofs.Sweeps.{stop_each_lem}
use Rattle.record_endpoint.specs.EndpointMap.{queue_dcis}
use Rattle.transfer.specs.declared.RouteError.{RouteError}
use Rattle.transfer.specs.Routes.{replaced}
use Rattle.course_steps.specs.End.{End, settings_kept, published, answer_of, is_unanswered}
use Rattle.theorem_controller.specs.Controller.{CONFIGURE, sent_word}
use Rattle.theorem_controller.proofs.Sent.{sent_in, sent_logged, sent_after}
use Rattle.course_claim.specs.Claim.{Claim, claim_context, undo_context, claim_publish, claim_switch_back, claim_undone, claim_undo, claim_switch, claim_resume, claim_configure, claim_course}

-- From the Configure on, a lost end has the mark, and no other.
abbrev Right : End → Type 0
Right e = e.doubted ≡ is_lost e.answer

module _ (a : Claim) (routes : List ℕ) where
  routed : (ctx : List ℕ) (r : Result Unit RouteError) → Right (published r answer.InterfaceBroken true a.args.slot.0 a.old a.pending ctx routes)
  unfolding published number
  routed ctx (Ok _) = refl
  routed ctx (Err _) = refl

  undone : (code : ℕ) (ctx : List ℕ) → EachEnd Right (claim_undone a code ctx routes)
  unfolding claim_undone claim_switch_back EachEnd number
  undone code ctx = go (is_some a.args.held_alternate)
    where
      go : (b : Bool) → EachEnd Right (cond b (claim_switch_back a code ctx routes) (ends (settings_kept (answer.Failed code) (length a.old) ctx routes)))
      go true = each_outcome (EachEnd Right) _ _ _ refl (λ later. refl) refl
      go false = refl

  switched : (ctx : List ℕ) → EachEnd Right (claim_switch a ctx routes)
  unfolding claim_switch claim_publish claim_undo EachEnd number
  switched ctx =
      each_outcome (EachEnd Right) _ _ _ (routed ctx (replaced routes a.args.slot.0 a.old a.pending))
      (λ code. each_outcome (EachEnd Right) _ _ _ (undone code (undo_context a ctx)) (λ later. refl) refl) refl

  resumed : (code : ℕ) (ctx : List ℕ) → EachEnd Right (claim_resume a code ctx routes)
  unfolding claim_resume EachEnd is_unanswered answer_of or_code number
  resumed code ctx = end_then Right (resume_stopped_endpoints ctx (queue_dcis a.old)) _ (λ r. go r.sent)
    where
      go : (s : Sent) → is_unanswered s ≡ is_lost (answer_of (or_code code s))
      go sent.Done = refl
      go (sent.Failed later) = refl
      go sent.Cut = refl

  configured : (ctx : List ℕ) → EachEnd Right (claim_configure a ctx routes)
  unfolding claim_configure EachEnd number
  configured ctx = each_outcome (EachEnd Right) _ _ _ (switched (claim_context a ctx)) (λ code. resumed code (claim_context a ctx)) refl

  -- the whole claim
  pub claim_doubted : (o ctx : List ℕ) (n : ℕ) → EachCommand ByteOperands (claim_course a ctx routes) →
      (result o n (claim_course a ctx routes)).doubted
      ≡ (is_lost (result o n (claim_course a ctx routes)).answer && sent_word CONFIGURE (words o n (claim_course a ctx routes)))
  unfolding claim_course claim_configure sent_in result number operation
  claim_doubted o ctx n bytes =
      let c : Course Sweep = stop_endpoints ctx (queue_dcis a.old) in
      let m : ℕ = n + length (words o n c) in
      rw (
        sent_logged CONFIGURE o n (claim_course a ctx routes) bytes,
        sent_after CONFIGURE o n c
            (λ r.
            on_sent r.sent (claim_configure a ctx routes) (λ code. ends (settings_kept (answer.Failed code) (length a.old) ctx routes))
            (ends (settings_kept answer.Cut r.active ctx routes)))
            (stop_each_lem _ ctx _ (λ k. (refl, refl))),
        result_then,
      )
      (on_sent_lem (λ (x : Course End). (result o m x).doubted ≡ (is_lost (result o m x).answer && sent_in CONFIGURE o m x)) (result o n c).sent _ _ _
      (λ e. go m)
      (λ code e. refl)
      (λ e. refl))
    where
      and_yes : (b : Bool) → b ≡ (b && true)
      and_yes true = refl
      and_yes false = refl

      go : (m : ℕ) →
          (result o m (claim_configure a ctx routes)).doubted
          ≡ (is_lost (result o m (claim_configure a ctx routes)).answer && sent_in CONFIGURE o m (claim_configure a ctx routes))
      go m = end_of Right o m (claim_configure a ctx routes) (configured ctx) ∙ and_yes _
