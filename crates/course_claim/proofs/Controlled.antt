-- The controller along a claim: which commands it sends, and which endpoints it leaves enabled.
use Prim.Native.Nat.{ℕ, ◌<◌, ◌≤◌}
use mathlib.Core.Path.{◌≡◌, refl}
use mathlib.Core.Bool.{Bool, true, false, not, cond, ◌&&◌, ◌||◌}
use mathlib.Core.List.{List}
use lib.ListN.{length, get_or}
use Rattle.std.specs.Prelude.{Result, Ok, Err, is_some}
use Rattle.answer.specs.declared.Answer.TheVariants as answer
use Rattle.command.specs.declared.Command.{Command}
use Rattle.command.specs.declared.Command.TheVariants as command
use Rattle.command.specs.declared.Sent.{Sent}
use Rattle.command.specs.declared.Sent.TheVariants as sent
use Rattle.command.specs.Command.{stop_command, resume_command}
use Rattle.command.specs.Course.{ends, result}
use Rattle.command.specs.Sweep.{stop_endpoints, resume_stopped_endpoints, or_code}
use Rattle.command.proofs.Cuts.{on_sent_lem, each_outcome}
use Rattle.command.proofs.Operations.{ByteOperands, operation, EachCommand, each_then}
use Rattle.command.proofs.Sweeps.{stop_each_lem, resume_each}
use Rattle.context_block.specs.Blocks.{some_dci}
use Rattle.context.specs.Place.{Spaced}
use Rattle.record_endpoint.specs.EndpointMap.{queue_dcis}
use Rattle.transfer.specs.declared.RouteError.{RouteError}
use Rattle.transfer.specs.Routes.{replaced}
use Rattle.course_steps.specs.End.{published, End, settings_kept, answer_of}
use Rattle.theorem_controller.specs.Controller.{configured, enabled_after}
use Rattle.theorem_controller.proofs.Followed.{followed, Follows, follows_result}
use Rattle.theorem_controller.proofs.Laws.{configured_writes, configured_undone, follows_stop, follows_resume, follows_configure, follows_other, Told, told_accepted, told_failed, told_broken, told_cut}
use Rattle.course_claim.specs.Claim.{Claim, undo_alternate, claim_context, undo_context, claim_publish, claim_switch_back, claim_undone, claim_undo, claim_switch, claim_resume, claim_configure, claim_course}

module _ (P : Command → Type 0) (a : Claim) where
  -- What holds of every command that it can send.
  pub record OfEach : Type 0 where
    pub configure : P command.Configure
    pub switch : P (command.SetInterface a.args.interface a.args.alternate)
    pub back : P (command.SetInterface a.args.interface (undo_alternate a))
    pub stop : (k : ℕ) → P (stop_command (get_or (queue_dcis a.old) k 0))
    pub resume : (k : ℕ) → P (resume_command (get_or (queue_dcis a.old) k 0))

  undone_sends : OfEach → (code : ℕ) (ctx routes : List ℕ) → EachCommand P (claim_undone a code ctx routes)
  unfolding claim_undone claim_switch_back EachCommand
  undone_sends p code ctx routes = go (is_some a.args.held_alternate)
    where
      go : (held : Bool) →
          EachCommand P
          (cond held (claim_switch_back a code ctx routes) (ends (settings_kept (answer.Failed code) (length a.old) ctx routes)))
      go true = (p.back, each_outcome (EachCommand P) _ _ _ tt (λ later. tt) tt)
      go false = tt

  switch_sends : OfEach → (ctx routes : List ℕ) → EachCommand P (claim_switch a ctx routes)
  unfolding claim_switch claim_publish claim_undo EachCommand
  switch_sends p ctx routes = (p.switch, each_outcome (EachCommand P) _ _ _ tt undo tt)
    where
      undo : (code : ℕ) → EachCommand P (claim_undo a code ctx routes)
      undo code = (p.configure, each_outcome (EachCommand P) _ _ _ (undone_sends p code (undo_context a ctx) routes) (λ later. tt) tt)

  resume_sends : OfEach → (code : ℕ) (ctx routes : List ℕ) → EachCommand P (claim_resume a code ctx routes)
  unfolding claim_resume EachCommand
  resume_sends p code ctx routes =
      each_then P (resume_stopped_endpoints ctx (queue_dcis a.old)) _ (resume_each P ctx _ p.resume) (λ r. tt)

  -- it sends no other commands
  pub claim_sends : OfEach → (ctx routes : List ℕ) → EachCommand P (claim_course a ctx routes)
  unfolding claim_course claim_configure EachCommand
  claim_sends p ctx routes =
      each_then P (stop_endpoints ctx (queue_dcis a.old)) _ (stop_each_lem P ctx _ (λ k. (p.stop k, p.resume k)))
      (λ r. each_outcome (EachCommand P) _ _ _ configure (λ code. tt) tt r.sent)
    where
      next : List ℕ
      next = claim_context a ctx

      configure : EachCommand P (claim_configure a ctx routes)
      configure =
          (p.configure, each_outcome (EachCommand P) _ _ _ (switch_sends p next routes) (λ code. resume_sends p code next routes) tt)

-- the operands of its commands are bytes
pub claim_operands : (a : Claim) (ctx routes : List ℕ) → a.args.interface < 256 → a.args.alternate < 256 → undo_alternate a < 256 →
    ((k : ℕ) → get_or (queue_dcis a.old) k 0 < 256) → EachCommand ByteOperands (claim_course a ctx routes)
unfolding ByteOperands
claim_operands a ctx routes i n o d =
    claim_sends ByteOperands a (record { configure = tt; switch = (i, n); back = (i, o); stop = d; resume = d }) ctx routes

module _ (a : Claim) (routes : List ℕ) (d : ℕ) (two : 2 ≤ d) (h : d < 32) (enabled : ℕ → Bool) where
  -- Endpoint d among the old and the new ones, as an accepted claim makes it.
  abbrev old : Bool
  old = some_dci d a.old_words

  abbrev new : Bool
  new = some_dci d a.new_words

  abbrev made : Bool
  made = (enabled d && not old) || new

  -- The old endpoints are enabled, and the new ones that are not old are not.
  abbrev AsHeld : Type 0
  AsHeld = (old ≡ true → enabled d ≡ true) × (new ≡ true → old ≡ false → enabled d ≡ false)

  Says : End → (ℕ → Bool) → Type 0
  Says r now = Told (enabled d) made AsHeld r.answer (now d)

  claim_configured : (ctx : List ℕ) → Spaced a.args.spacing (length ctx) → configured (claim_context a ctx) enabled d ≡ made
  unfolding claim_context
  claim_configured ctx sp = configured_writes a.args.spacing ctx sp d two h _ _ _ _ _ _ _ enabled

  undo_configured : (ctx : List ℕ) → Spaced a.args.spacing (length ctx) → AsHeld →
      configured (undo_context a (claim_context a ctx)) (configured (claim_context a ctx) enabled) d ≡ enabled d
  unfolding claim_context undo_context
  undo_configured ctx sp u = configured_undone a.args.spacing ctx sp d two h _ _ _ _ _ _ _ _ _ enabled u.0 u.1

  undone_follows : (now : ℕ → Bool) (code : ℕ) (ctx : List ℕ) → (AsHeld → now d ≡ enabled d) →
      Follows enabled_after Says now (claim_undone a code ctx routes)
  unfolding claim_undone claim_switch_back Follows Says operation
  undone_follows now code ctx u = go (is_some a.args.held_alternate)
    where
      go : (held : Bool) →
          Follows enabled_after Says now
          (cond held (claim_switch_back a code ctx routes) (ends (settings_kept (answer.Failed code) (length a.old) ctx routes)))
      go true =
          follows_other Says now (command.SetInterface a.args.interface (undo_alternate a)) refl ctx _ _ _ (told_failed u) (λ later. told_broken) told_cut
      go false = told_failed u

  switch_follows : (ctx : List ℕ) → Spaced a.args.spacing (length ctx) →
      Follows enabled_after Says (configured (claim_context a ctx) enabled) (claim_switch a (claim_context a ctx) routes)
  unfolding claim_switch claim_publish published claim_undo Follows Says operation
  switch_follows ctx sp =
      let now : ℕ → Bool = configured (claim_context a ctx) enabled in
      let next : List ℕ = claim_context a ctx in
      let back : List ℕ = undo_context a next in
      follows_other Says now (command.SetInterface a.args.interface a.args.alternate) refl next _ _ _ (moved (replaced routes a.args.slot.0 a.old a.pending))
      (λ code.
      follows_configure Says now back _ _ _ (undone_follows (configured back now) code back (undo_configured ctx sp))
      (λ later. told_broken)
      told_cut)
      told_cut
    where
      moved : (r : Result Unit RouteError) →
          Told (enabled d) made AsHeld (published r answer.InterfaceBroken true a.args.slot.0 a.old a.pending (claim_context a ctx) routes).answer
          (configured (claim_context a ctx) enabled d)
      moved (Ok _) = told_accepted (claim_configured ctx sp)
      moved (Err _) = told_broken

  claim_follows : (ctx : List ℕ) → Spaced a.args.spacing (length ctx) → Follows enabled_after Says enabled (claim_course a ctx routes)
  unfolding claim_course claim_configure claim_resume answer_of or_code Follows Says
  claim_follows ctx sp =
      let dcis : List ℕ = queue_dcis a.old in
      let next : List ℕ = claim_context a ctx in
      follows_stop Says enabled ctx dcis _
      (λ r.
      on_sent_lem (Follows enabled_after Says enabled) r.sent _ _ _
      (λ e.
      follows_configure Says enabled next _ _ _ (switch_follows ctx sp)
      (λ code. follows_resume Says enabled next dcis _ (λ r. resumed code r.sent))
      told_cut)
      (λ code e. told_failed (λ u. refl))
      (λ e. told_cut))
    where
      resumed : (code : ℕ) (s : Sent) → Told (enabled d) made AsHeld (answer_of (or_code code s)) (enabled d)
      resumed code sent.Done = told_failed (λ u. refl)
      resumed code (sent.Failed later) = told_failed (λ u. refl)
      resumed code sent.Cut = told_cut

module _ (a : Claim) (ctx routes o : List ℕ) (n : ℕ) (sp : Spaced a.args.spacing (length ctx)) (d : ℕ) (two : 2 ≤ d) (h : d < 32)
    (enabled : ℕ → Bool) where
  claim_told :
      Told (enabled d) (made a routes d two h enabled) (AsHeld a routes d two h enabled)
      (result o n (claim_course a ctx routes)).answer
      (followed enabled_after o n (claim_course a ctx routes) enabled d)
  unfolding Says
  claim_told =
      follows_result enabled_after (Says a routes d two h enabled) o n (claim_course a ctx routes) enabled
      (claim_follows a routes d two h enabled ctx sp)

  -- an accepted claim drops the old endpoints and adds the new ones
  pub claim_accepted_enabled : (result o n (claim_course a ctx routes)).answer ≡ answer.Accepted →
      followed enabled_after o n (claim_course a ctx routes) enabled d
      ≡ ((enabled d && not (some_dci d a.old_words)) || some_dci d a.new_words)
  claim_accepted_enabled e = claim_told.accepted e

  -- a failed one leaves them, where the old ones are enabled and the new ones that are not old are not
  pub claim_failed_enabled : (code : ℕ) → (result o n (claim_course a ctx routes)).answer ≡ answer.Failed code →
      (some_dci d a.old_words ≡ true → enabled d ≡ true) →
      (some_dci d a.new_words ≡ true → some_dci d a.old_words ≡ false → enabled d ≡ false) →
      followed enabled_after o n (claim_course a ctx routes) enabled d ≡ enabled d
  claim_failed_enabled code e p q = claim_told.failed code e (p, q)
