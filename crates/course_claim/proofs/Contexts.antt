-- The contexts that the controller reads along a claim.
use Rattle.std.specs.Prelude.{unwrap_or}
use Prim.Native.Nat.{ℕ, ◌+◌, ◌^◌, ◌<◌}
use mathlib.Core.Path.{◌≡◌, refl}
use mathlib.Core.List.{List}
use native.Mathlib.Omega.{arith}
use lib.ListN.{length}
use Rattle.answer.specs.declared.Answer.TheVariants as answer
use Rattle.command.specs.declared.Command.TheVariants as command
use Rattle.command.specs.declared.Sent.TheVariants as sent
use Rattle.command.specs.Command.{outcome_at}
use Rattle.command.specs.Course.{ends, on_sent}
use Rattle.command.proofs.Done.{AllDone}
use Rattle.command.proofs.Reached.{Comes, comes_then, comes_sends, comes_stopped, CutHere, cut_here}
use Rattle.context.specs.Place.{Spaced}
use Rattle.context.specs.Promises.{Endpoints, EndpointDcis, ConfigureReads}
use Rattle.context.proofs.Laws.{written_length}
use Rattle.context.proofs.Promises.{configure_promise}
use Rattle.record_endpoint.specs.EndpointMap.{queue_dcis}
use Rattle.transfer.specs.Routes.{ring_for}
use Rattle.course_steps.specs.End.{settings_kept, settings_doubted}
use Rattle.course_steps.proofs.Laws.{length_dcis}
use Rattle.course_claim.specs.Claim.{Claim, claim_context, undo_context, claim_undo, claim_switch, claim_configure, claim_course}

-- What it works on fits the fields of a context.
pub record ClaimFits (a : Claim) : Type 0 where
  pub interface : a.args.interface < 2 ^ 8
  pub alternate : a.args.alternate < 2 ^ 8
  pub old_alternate : unwrap_or a.args.held_alternate 0 < 2 ^ 8
  pub old_words : Endpoints a.old_words
  pub new_words : Endpoints a.new_words
  pub old : (d : ℕ) → ring_for d a.old 0 < 2 ^ 64
  pub pending : (d : ℕ) → ring_for d a.pending 0 < 2 ^ 64
  pub dcis : EndpointDcis a.dcis

module _ (a : Claim) (f : ClaimFits a) (ctx : List ℕ) (sp : Spaced a.args.spacing (length ctx)) where
  -- its Configure
  pub claim_configure_reads :
      ConfigureReads a.args.spacing a.args.speed a.args.interface a.args.alternate a.old_words a.new_words a.pending a.dcis ctx
      (claim_context a ctx)
  unfolding claim_context
  claim_configure_reads =
      configure_promise a.args.spacing a.args.speed a.args.interface a.args.alternate a.old_words a.new_words a.pending a.dcis ctx sp
      f.interface f.alternate f.old_words f.new_words f.pending f.dcis

  -- the one that undoes it
  pub claim_undo_reads :
      ConfigureReads a.args.spacing a.args.speed a.args.interface (unwrap_or a.args.held_alternate 0) a.new_words a.old_words a.old a.dcis
      ctx (undo_context a ctx)
  unfolding undo_context
  claim_undo_reads =
      configure_promise a.args.spacing a.args.speed a.args.interface (unwrap_or a.args.held_alternate 0) a.new_words a.old_words a.old
      a.dcis ctx sp f.interface f.old_alternate f.new_words f.old_words f.old f.dcis

pub claim_context_length : (a : Claim) (ctx : List ℕ) → length (claim_context a ctx) ≡ length ctx
unfolding claim_context
claim_context_length a ctx = written_length _ _ ctx

-- Where it is cut at either.
module _ (a : Claim) (ctx routes o : List ℕ) where
  claim_stopped : AllDone o 0 (length a.old) → Comes o 0 (claim_course a ctx routes) (length a.old) (claim_configure a ctx routes)
  unfolding claim_course
  claim_stopped h =
      let l : 0 + length (queue_dcis a.old) ≡ length a.old = omega (arith, length_dcis a.old) in
      rw l at
      (comes_stopped o 0 ctx (queue_dcis a.old) (claim_configure a ctx routes)
      (λ r code. ends (settings_kept (answer.Failed code) (length a.old) ctx routes))
      (λ r. ends (settings_kept answer.Cut r.active ctx routes))
      (λ i m k. h i m (omega (arith, length_dcis a.old))))

  pub claim_at_configure : AllDone o 0 (length a.old) → outcome_at o (length a.old) ≡ sent.Cut →
      CutHere o (claim_course a ctx routes) (length a.old) command.Configure (settings_doubted answer.Cut (claim_context a ctx) routes)
  unfolding claim_configure on_sent
  claim_at_configure h e = cut_here o _ (length a.old) _ _ _ _ (claim_stopped h) e refl

  pub claim_at_undo : (code : ℕ) → AllDone o 0 (length a.old + 1) → outcome_at o (length a.old + 1) ≡ sent.Failed code →
      outcome_at o (length a.old + 2) ≡ sent.Cut →
      CutHere o (claim_course a ctx routes) (length a.old + 2) command.Configure
      (settings_doubted answer.Cut (undo_context a (claim_context a ctx)) routes)
  unfolding claim_configure claim_switch claim_undo on_sent
  claim_at_undo code h f e =
      let n = length a.old in
      let two : n + 1 + 1 ≡ n + 2 = omega arith in
      cut_here o _ (n + 2) _ _ _ _
      (rw two at
      (comes_then o (claim_stopped (λ i m k. h i m (omega arith)))
      (comes_then o (comes_sends o n _ _ _ sent.Done (h n (omega arith) (omega arith)))
      (comes_sends o (n + 1) _ _ _ (sent.Failed code) f))))
      e refl
