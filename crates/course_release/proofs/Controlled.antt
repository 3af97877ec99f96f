-- The controller along a release: which commands it sends, and which endpoints it leaves enabled.
use Prim.Native.Nat.{ℕ, ◌<◌, ◌≤◌}
use mathlib.Core.Path.{◌≡◌, refl, ◌∙◌}
use mathlib.Core.Bool.{Bool, false, not, ◌&&◌}
use mathlib.Core.List.{List, []}
use lib.ListN.{length, get_or}
use Rattle.std.specs.Prelude.{Result, Ok, Err}
use Rattle.answer.specs.declared.Answer.TheVariants as answer
use Rattle.command.specs.declared.Command.{Command}
use Rattle.command.specs.declared.Command.TheVariants as command
use Rattle.command.specs.declared.Sent.{Sent}
use Rattle.command.specs.declared.Sent.TheVariants as sent
use Rattle.command.specs.Command.{stop_command, resume_command}
use Rattle.command.specs.Course.{result}
use Rattle.command.specs.Sweep.{stop_endpoints, resume_stopped_endpoints}
use Rattle.command.proofs.Cuts.{on_sent_lem, each_outcome}
use Rattle.command.proofs.Operations.{ByteOperands, EachCommand, each_then}
use Rattle.command.proofs.Sweeps.{stop_each_lem, resume_each}
use Rattle.context_block.specs.Blocks.{some_dci}
use Rattle.context.specs.Place.{Spaced}
use Rattle.record_endpoint.specs.EndpointMap.{queue_dcis}
use Rattle.transfer.specs.declared.RouteError.{RouteError}
use Rattle.transfer.specs.Routes.{replaced}
use Rattle.course_steps.specs.End.{published, End, configure_failed}
use Rattle.theorem_controller.specs.Controller.{configured, enabled_after}
use Rattle.theorem_controller.proofs.Followed.{followed, Follows, follows_result}
use Rattle.theorem_controller.proofs.Laws.{configured_writes, drops_only, follows_stop, follows_resume, follows_configure, Told, told_accepted, told_failed, told_cut, told_invalid}
use Rattle.course_release.specs.Release.{Release, release_context, release_publish, release_resume, release_configure, release_course}

module _ (P : Command → Type 0) (a : Release) where
  -- What holds of every command that it can send.
  pub record OfEach : Type 0 where
    pub configure : P command.Configure
    pub stop : (k : ℕ) → P (stop_command (get_or (queue_dcis a.old) k 0))
    pub resume : (k : ℕ) → P (resume_command (get_or (queue_dcis a.old) k 0))

  resume_sends : OfEach → (code : ℕ) (ctx routes : List ℕ) → EachCommand P (release_resume a code ctx routes)
  unfolding release_resume EachCommand
  resume_sends p code ctx routes =
      each_then P (resume_stopped_endpoints ctx (queue_dcis a.old)) _ (resume_each P ctx _ p.resume) (λ r. tt)

  -- it sends no other commands
  pub release_sends : OfEach → (ctx routes : List ℕ) → EachCommand P (release_course a ctx routes)
  unfolding release_course release_configure release_publish EachCommand
  release_sends p ctx routes =
      each_then P (stop_endpoints ctx (queue_dcis a.old)) _ (stop_each_lem P ctx _ (λ k. (p.stop k, p.resume k)))
      (λ r. each_outcome (EachCommand P) _ _ _ configure (λ code. tt) tt r.sent)
    where
      configure : EachCommand P (release_configure a ctx routes)
      configure =
          (p.configure, each_outcome (EachCommand P) _ _ _ tt (λ code. resume_sends p code (release_context a ctx) routes) tt)

-- the operands of its commands are bytes
pub release_operands : (a : Release) (ctx routes : List ℕ) → ((k : ℕ) → get_or (queue_dcis a.old) k 0 < 256) →
    EachCommand ByteOperands (release_course a ctx routes)
unfolding ByteOperands
release_operands a ctx routes d =
    release_sends ByteOperands a (record { configure = tt; stop = d; resume = d }) ctx routes

module _ (a : Release) (ctx routes : List ℕ) (sp : Spaced a.spacing (length ctx)) (d : ℕ) (two : 2 ≤ d) (h : d < 32)
    (enabled : ℕ → Bool) where
  abbrev made : Bool
  made = enabled d && not (some_dci d a.words)

  Says : End → (ℕ → Bool) → Type 0
  Says r now = Told (enabled d) made (Unit {0}) r.answer (now d)

  release_configured : configured (release_context a ctx) enabled d ≡ made
  unfolding release_context some_dci
  release_configured =
      configured_writes a.spacing ctx sp d two h _ _ _ _ _ _ _ enabled ∙ drops_only (enabled d) (some_dci d a.words)

  release_follows : Follows enabled_after Says enabled (release_course a ctx routes)
  unfolding release_course release_configure release_publish published release_resume configure_failed Follows Says
  release_follows =
      let dcis : List ℕ = queue_dcis a.old in
      let next : List ℕ = release_context a ctx in
      follows_stop Says enabled ctx dcis _
      (λ r.
      on_sent_lem (Follows enabled_after Says enabled) r.sent _ _ _
      (λ e.
      follows_configure Says enabled next _ _ _ (moved (replaced routes a.slot a.old []))
      (λ code. follows_resume Says enabled next dcis _ (λ r. resumed code r.sent))
      told_cut)
      (λ code e. told_failed (λ u. refl))
      (λ e. told_cut))
    where
      moved : (r : Result Unit RouteError) →
          Told (enabled d) made (Unit {0}) (published r answer.InvalidEndpoint false a.slot a.old [] (release_context a ctx) routes).answer
          (configured (release_context a ctx) enabled d)
      moved (Ok _) = told_accepted release_configured
      moved (Err _) = told_invalid

      resumed : (code : ℕ) (s : Sent) → Told (enabled d) made (Unit {0}) (configure_failed code s) (enabled d)
      resumed code sent.Done = told_failed (λ u. refl)
      resumed code (sent.Failed later) = told_failed (λ u. refl)
      resumed code sent.Cut = told_cut

module _ (a : Release) (ctx routes o : List ℕ) (n : ℕ) (sp : Spaced a.spacing (length ctx)) (d : ℕ) (two : 2 ≤ d) (h : d < 32)
    (enabled : ℕ → Bool) where
  release_told :
      Told (enabled d) (enabled d && not (some_dci d a.words)) (Unit {0}) (result o n (release_course a ctx routes)).answer
      (followed enabled_after o n (release_course a ctx routes) enabled d)
  unfolding Says
  release_told =
      follows_result enabled_after (Says a ctx routes sp d two h enabled) o n (release_course a ctx routes) enabled
      (release_follows a ctx routes sp d two h enabled)

  -- an accepted release drops the endpoints of its setting
  pub release_accepted_enabled : (result o n (release_course a ctx routes)).answer ≡ answer.Accepted →
      followed enabled_after o n (release_course a ctx routes) enabled d ≡ (enabled d && not (some_dci d a.words))
  release_accepted_enabled e = release_told.accepted e

  -- a failed one leaves them
  pub release_failed_enabled : (code : ℕ) → (result o n (release_course a ctx routes)).answer ≡ answer.Failed code →
      followed enabled_after o n (release_course a ctx routes) enabled d ≡ enabled d
  release_failed_enabled code e = release_told.failed code e tt
