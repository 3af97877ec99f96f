-- The rings that a claim's commands may leave in the controller.
use Prim.Native.Nat.{ℕ, ◌%◌, ◌<◌, ◌≤◌}
use mathlib.Core.Path.{◌≡◌, refl, ap, ◌∙◌}
use mathlib.Core.Logic.{◌⊎◌, inl, inr, ⊎_elim}
use mathlib.Core.Bool.{Bool, true, false, cond}
use mathlib.Core.List.{List}
use lib.ListN.{length}
use Rattle.std.specs.Prelude.{Result, Ok, Err, is_some}
use Rattle.laws.proofs.Tests.{not_both}
use Rattle.answer.specs.declared.Answer.{Answer}
use Rattle.answer.specs.declared.Answer.TheVariants as answer
use Rattle.answer.specs.Answer.{number, is_lost}
use Rattle.command.specs.declared.Command.TheVariants as command
use Rattle.command.specs.declared.Sent.{Sent}
use Rattle.command.specs.declared.Sent.TheVariants as sent
use Rattle.command.specs.Course.{ends}
use Rattle.command.specs.Sweep.{or_code}
use Rattle.command.proofs.Cuts.{on_sent_lem}
use Rattle.command.proofs.Operations.{operation}
use Rattle.context_block.specs.Blocks.{some_dci}
use Rattle.context.specs.Place.{Spaced, spacing_of}
use Rattle.context.proofs.Laws.{written_length}
use Rattle.record_endpoint.specs.EndpointMap.{queue_dcis}
use Rattle.transfer.specs.declared.RouteError.{RouteError}
use Rattle.transfer.specs.Routes.{replaced, ring_for}
use Rattle.course_steps.specs.End.{End, settings_kept, is_unanswered, answer_of, published}
use Rattle.theorem_controller.proofs.Followed.{Follows}
use Rattle.course_claim.specs.Claim.{Claim, undo_alternate, claim_context, undo_context, claim_publish, claim_switch_back, claim_undone, claim_undo, claim_switch, claim_resume, claim_configure, claim_course}
use Rattle.course_claim.proofs.Contexts.{ClaimFits, claim_configure_reads, claim_undo_reads, claim_context_length}
use Rattle.theorem_doubt.specs.Doubt.{configured_rings, rings_after}
use Rattle.theorem_doubt.proofs.Configured.{rings_configured}
use Rattle.theorem_doubt.proofs.Watch.{sees_stop, sees_resume, sees_other, sees_configure}

undo_context_length : (a : Claim) (ctx : List ℕ) → length (undo_context a ctx) ≡ length ctx
unfolding undo_context
undo_context_length a ctx = written_length _ _ ctx

-- Old words, new words: the claim undone over the claim made.
settles : (old new : Bool) (x y r : ℕ) → cond old y (cond new 0 (cond new x (cond old 0 r))) ≡ cond old y (cond new 0 r)
settles true new x y r = refl
settles false true x y r = refl
settles false false x y r = refl

-- What an endpoint has, by the answer: as it was, as the claim makes it, or as the claim undone; where it is lost and no ring is in
-- doubt, as it was.
pub record Says (was made back : ℕ) (x : Answer) (now : ℕ) (doubted : Bool) : Type 0 where
  pub accepted : x ≡ answer.Accepted → now ≡ made
  pub failed : (code : ℕ) → x ≡ answer.Failed code → (now ≡ was) ⊎ (now ≡ back)
  pub undoubted : is_lost x ≡ true → doubted ≡ false → now ≡ was
  pub any : (now ≡ was) ⊎ ((now ≡ made) ⊎ (now ≡ back))

module _ {was made back now : ℕ} {doubted : Bool} where
  says_accepted : now ≡ made → Says was made back answer.Accepted now doubted
  unfolding number
  says_accepted e =
      record {
        accepted = λ x. e;
        failed = λ code x. absurd cc;
        undoubted = λ l n. not_both false l refl;
        any = inr (inl e);
      }

  says_failed : {code : ℕ} → (now ≡ was) ⊎ (now ≡ back) → Says was made back (answer.Failed code) now doubted
  unfolding number
  says_failed e =
      record {
        accepted = λ x. absurd cc;
        failed = λ code x. e;
        undoubted = λ l n. not_both false l refl;
        any = ⊎_elim (λ a. inl a) (λ a. inr (inr a)) e;
      }

  says_broken :
      (now ≡ was) ⊎ ((now ≡ made) ⊎ (now ≡ back)) → (doubted ≡ false → now ≡ was) →
      Says was made back answer.InterfaceBroken now doubted
  says_broken e u = record { accepted = λ x. absurd cc; failed = λ code x. absurd cc; undoubted = λ l n. u n; any = e }

  says_cut :
      (now ≡ was) ⊎ ((now ≡ made) ⊎ (now ≡ back)) → (doubted ≡ false → now ≡ was) → Says was made back answer.Cut now doubted
  says_cut e u = record { accepted = λ x. absurd cc; failed = λ code x. absurd cc; undoubted = λ l n. u n; any = e }

-- An end that is marked.
marked_only : {P : Type 0} → true ≡ false → P
marked_only e = not_both true refl e

module _ (a : Claim) (fits : ClaimFits a) (routes : List ℕ) (d : ℕ) (two : 2 ≤ d) (h : d < 32) (rings : ℕ → ℕ) (took : Bool)
    (even_old : ring_for d a.old 0 % 16 ≡ 0) (even_new : ring_for d a.pending 0 % 16 ≡ 0) where
  abbrev made : ℕ
  made = cond (some_dci d a.new_words) (ring_for d a.pending 0) (cond (some_dci d a.old_words) 0 (rings d))

  abbrev back : ℕ
  back = cond (some_dci d a.old_words) (ring_for d a.old 0) (cond (some_dci d a.new_words) 0 (rings d))

  unfoldable pub Told : End → (ℕ → ℕ) → Type 0
  Told e now = Says (rings d) made back e.answer (now d) e.doubted

  module _ (ctx : List ℕ) (sp : Spaced a.args.spacing (length ctx)) (own : spacing_of (length ctx) ≡ a.args.spacing) where
    abbrev next : List ℕ
    next = claim_context a ctx

    abbrev undo : List ℕ
    undo = undo_context a (claim_context a ctx)

    abbrev after : ℕ → ℕ
    after = configured_rings next rings

    claim_made : after d ≡ made
    claim_made =
        rings_configured a.args.spacing _ _ _ _ _ _ _ ctx next (claim_configure_reads a fits ctx sp)
        (ap spacing_of (claim_context_length a ctx) ∙ own) d two h even_new (fits.pending d) rings

    undo_made : configured_rings undo after d ≡ back
    undo_made =
        let still : Spaced a.args.spacing (length next) = rw (claim_context_length a ctx) sp in
        rings_configured a.args.spacing _ _ _ _ _ _ _ next undo (claim_undo_reads a fits next still)
        (ap spacing_of (undo_context_length a next ∙ claim_context_length a ctx) ∙ own) d two h even_old (fits.old d) after
        ∙ rw claim_made (settles (some_dci d a.old_words) (some_dci d a.new_words) _ _ (rings d))

    undone : (code : ℕ) (at : List ℕ) (now : ℕ → ℕ) → now d ≡ back → Follows (rings_after took) Told now (claim_undone a code at routes)
    unfolding claim_undone claim_switch_back Follows Told operation
    undone code at now e = go (is_some a.args.held_alternate)
      where
        go :
            (held : Bool) →
            Follows (rings_after took) Told now
            (cond held (claim_switch_back a code at routes) (ends (settings_kept (answer.Failed code) (length a.old) at routes)))
        go true =
            sees_other took Told now (command.SetInterface a.args.interface (undo_alternate a)) refl at _ _ _ (says_failed (inr e))
            (λ later. says_broken (inr (inr e)) marked_only)
            (says_cut (inr (inr e)) marked_only)
        go false = says_failed (inr e)

    switched : Follows (rings_after took) Told after (claim_switch a next routes)
    unfolding claim_switch claim_publish published claim_undo Follows Told operation
    switched =
        sees_other took Told after (command.SetInterface a.args.interface a.args.alternate) refl next _ _ _
        (moved (replaced routes a.args.slot.0 a.old a.pending))
        (λ code.
        sees_configure took Told after undo _ _ _ (undone code undo (configured_rings undo after) undo_made)
        (λ later. says_broken (inr (inl claim_made)) marked_only)
        (λ x. says_cut (either x) marked_only))
        (says_cut (inr (inl claim_made)) marked_only)
      where
        either :
            (x : Bool) →
            (cond x (configured_rings undo after) after d ≡ rings d)
            ⊎ ((cond x (configured_rings undo after) after d ≡ made) ⊎ (cond x (configured_rings undo after) after d ≡ back))
        either true = inr (inr undo_made)
        either false = inr (inl claim_made)

        moved :
            (r : Result Unit RouteError) →
            let e = published r answer.InterfaceBroken true a.args.slot.0 a.old a.pending next routes in
            Says (rings d) made back e.answer (after d) e.doubted
        moved (Ok _) = says_accepted claim_made
        moved (Err _) = says_broken (inr (inl claim_made)) marked_only

    pub claim_sees : Follows (rings_after took) Told rings (claim_course a ctx routes)
    unfolding claim_course claim_configure claim_resume answer_of or_code is_unanswered Follows Told
    claim_sees =
        let dcis : List ℕ = queue_dcis a.old in
        sees_stop took Told rings ctx dcis _
        (λ r.
        on_sent_lem (Follows (rings_after took) Told rings) r.sent _ _ _
        (λ e.
        sees_configure took Told rings next _ _ _ switched
        (λ code. sees_resume took Told rings next dcis _ (λ r. resumed code r.sent))
        (λ x. says_cut (either x) marked_only))
        (λ code e. says_failed (inl refl))
        (λ e. says_cut (inl refl) (λ z. refl)))
      where
        either :
            (x : Bool) → (cond x after rings d ≡ rings d) ⊎ ((cond x after rings d ≡ made) ⊎ (cond x after rings d ≡ back))
        either true = inr (inl claim_made)
        either false = inl refl

        resumed : (code : ℕ) (x : Sent) → Says (rings d) made back (answer_of (or_code code x)) (rings d) (is_unanswered x)
        resumed code sent.Done = says_failed (inl refl)
        resumed code (sent.Failed later) = says_failed (inl refl)
        resumed code sent.Cut = says_cut (inl refl) (λ z. refl)
