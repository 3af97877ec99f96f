-- The controller along a set configuration: which endpoints it leaves enabled.
use Prim.Native.Nat.{ℕ, ◌<◌, ◌≤◌}
use mathlib.Core.Path.{◌≡◌, refl, ◌∙◌}
use mathlib.Core.Bool.{Bool, true, false, not, ◌&&◌}
use mathlib.Core.List.{List}
use lib.ListN.{length}
use Rattle.std.specs.Prelude.{Result, Ok, Err}
use Rattle.laws.proofs.Tests.{not_both}
use Rattle.answer.specs.declared.Answer.TheVariants as answer
use Rattle.command.specs.declared.Command.TheVariants as command
use Rattle.command.specs.declared.Sent.{Sent}
use Rattle.command.specs.declared.Sent.TheVariants as sent
use Rattle.command.specs.Course.{result}
use Rattle.command.proofs.Cuts.{on_sent_lem}
use Rattle.command.proofs.Operations.{operation}
use Rattle.context_block.specs.Blocks.{some_dci}
use Rattle.context.specs.Place.{Spaced}
use Rattle.record_endpoint.specs.EndpointMap.{queue_dcis}
use Rattle.transfer.specs.declared.RouteError.{RouteError}
use Rattle.course_steps.specs.End.{End, configure_failed}
use Rattle.theorem_controller.specs.Controller.{configured, enabled_after}
use Rattle.theorem_controller.proofs.Followed.{followed, Follows, follows_result}
use Rattle.theorem_controller.proofs.Laws.{configured_writes, configured_undone, drops_only, follows_stop, follows_resume, follows_configure, follows_other, Told, told_accepted, told_failed, told_broken, told_cut, told_invalid}
use Rattle.course_set_configuration.specs.SetConfiguration.{Settings, drop_context, restore_context, value_context, set_evaluate, set_published, set_publish, set_restored, set_restore, set_switch, set_resume, set_configure, set_course}

module _ (a : Settings) (ctx routes : List ℕ) (sp : Spaced a.spacing (length ctx)) (d : ℕ) (two : 2 ≤ d) (h : d < 32)
    (enabled : ℕ → Bool) where
  abbrev made : Bool
  made = enabled d && not (some_dci d a.words)

  -- The endpoints of the held settings are enabled.
  abbrev AsHeld : Type 0
  AsHeld = some_dci d a.words ≡ true → enabled d ≡ true

  Says : End → (ℕ → Bool) → Type 0
  Says r now = Told (enabled d) made AsHeld r.answer (now d)

  abbrev dropped : List ℕ
  dropped = drop_context a ctx

  abbrev restored : List ℕ
  restored = restore_context a dropped

  set_dropped : configured dropped enabled d ≡ made
  unfolding drop_context some_dci
  set_dropped =
      configured_writes a.spacing ctx sp d two h _ _ _ _ _ _ _ enabled ∙ drops_only (enabled d) (some_dci d a.words)

  set_restored_lem : AsHeld → configured restored (configured dropped enabled) d ≡ enabled d
  unfolding drop_context restore_context some_dci
  set_restored_lem u =
      configured_undone a.spacing ctx sp d two h _ _ _ _ _ _ _ _ _ enabled u (λ e. not_both false e refl)

  published_follows : (r : Result Unit RouteError) → Follows enabled_after Says (configured dropped enabled) (set_published r a dropped routes)
  unfolding set_published set_evaluate Follows Says operation
  published_follows (Ok _) =
      follows_other Says (configured dropped enabled) command.Evaluate refl (value_context a dropped) _ _ _ (told_accepted set_dropped)
      (λ code. told_broken)
      told_cut
  published_follows (Err _) = told_invalid

  restore_follows : (code : ℕ) → Follows enabled_after Says (configured dropped enabled) (set_restore a code dropped routes)
  unfolding set_restore set_restored Follows Says
  restore_follows code =
      let back : ℕ → Bool = configured restored (configured dropped enabled) in
      follows_configure Says (configured dropped enabled) restored _ _ _
      (follows_resume Says back restored (queue_dcis a.old) _
      (λ r. on_sent_lem (Follows enabled_after Says back) r.sent _ _ _ (λ e. told_failed set_restored_lem) (λ later e. told_broken) (λ e. told_cut)))
      (λ later. told_broken)
      told_cut

  set_follows : Follows enabled_after Says enabled (set_course a ctx routes)
  unfolding set_course set_configure set_switch set_publish set_resume configure_failed Follows Says operation
  set_follows =
      let dcis : List ℕ = queue_dcis a.old in
      follows_stop Says enabled ctx dcis _
      (λ r.
      on_sent_lem (Follows enabled_after Says enabled) r.sent _ _ _
      (λ e.
      follows_configure Says enabled dropped _ _ _
      (follows_other Says (configured dropped enabled) (command.SetConfiguration a.value) refl dropped _ _ _ (published_follows _) restore_follows told_cut)
      (λ code. follows_resume Says enabled dropped dcis _ (λ r. resumed code r.sent))
      told_cut)
      (λ code e. told_broken)
      (λ e. told_cut))
    where
      resumed : (code : ℕ) (s : Sent) → Told (enabled d) made AsHeld (configure_failed code s) (enabled d)
      resumed code sent.Done = told_failed (λ u. refl)
      resumed code (sent.Failed later) = told_failed (λ u. refl)
      resumed code sent.Cut = told_cut

module _ (a : Settings) (ctx routes o : List ℕ) (n : ℕ) (sp : Spaced a.spacing (length ctx)) (d : ℕ) (two : 2 ≤ d) (h : d < 32)
    (enabled : ℕ → Bool) where
  set_told :
      Told (enabled d) (enabled d && not (some_dci d a.words)) (some_dci d a.words ≡ true → enabled d ≡ true)
      (result o n (set_course a ctx routes)).answer
      (followed enabled_after o n (set_course a ctx routes) enabled d)
  unfolding Says
  set_told =
      follows_result enabled_after (Says a ctx routes sp d two h enabled) o n (set_course a ctx routes) enabled
      (set_follows a ctx routes sp d two h enabled)

  -- an accepted set configuration drops the endpoints of the held settings
  pub set_accepted_enabled : (result o n (set_course a ctx routes)).answer ≡ answer.Accepted →
      followed enabled_after o n (set_course a ctx routes) enabled d ≡ (enabled d && not (some_dci d a.words))
  set_accepted_enabled e = set_told.accepted e

  -- a failed one leaves them, where they are enabled
  pub set_failed_enabled : (code : ℕ) → (result o n (set_course a ctx routes)).answer ≡ answer.Failed code →
      (some_dci d a.words ≡ true → enabled d ≡ true) → followed enabled_after o n (set_course a ctx routes) enabled d ≡ enabled d
  set_failed_enabled code e u = set_told.failed code e u
