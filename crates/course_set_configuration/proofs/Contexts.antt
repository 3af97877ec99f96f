-- The contexts that the controller reads along a set configuration.
use Prim.Native.Nat.{ℕ, ◌+◌, ◌^◌, ◌<◌}
use mathlib.Core.Path.{◌≡◌, refl}
use mathlib.Core.List.{List, []}
use native.Mathlib.Omega.{arith}
use lib.Dec.{lit<}
use lib.ListN.{length}
use Rattle.std.specs.Prelude.{Ok}
use Rattle.answer.specs.declared.Answer.TheVariants as answer
use Rattle.command.specs.declared.Command.TheVariants as command
use Rattle.command.specs.declared.Sent.TheVariants as sent
use Rattle.command.specs.Command.{outcome_at}
use Rattle.command.specs.Course.{ends, on_sent}
use Rattle.command.proofs.Done.{AllDone}
use Rattle.command.proofs.Reached.{Comes, comes_then, comes_sends, comes_stopped, CutHere, cut_here}
use Rattle.context.specs.Place.{Spaced}
use Rattle.context.specs.Promises.{Endpoints, EndpointDcis, ConfigureReads, ConfigurationReads}
use Rattle.context.proofs.Laws.{written_length}
use Rattle.context.proofs.Promises.{configure_promise, configuration_promise}
use Rattle.record_endpoint.specs.EndpointMap.{queue_dcis}
use Rattle.transfer.specs.Routes.{ring_for, replaced, with_replaced}
use Rattle.course_steps.specs.End.{settings_kept, settings_moved}
use Rattle.course_steps.proofs.Empty.{no_endpoints_lem, no_ring}
use Rattle.course_steps.proofs.Laws.{length_dcis}
use Rattle.course_set_configuration.specs.SetConfiguration.{Settings, drop_context, restore_context, value_context, set_evaluate, set_published, set_publish, set_restore, set_switch, set_configure, set_course}

module _ (a : Settings) (ctx : List ℕ) (sp : Spaced a.spacing (length ctx)) where
  -- Its Configure drops the words of every held setting,
  pub set_configure_reads : Endpoints a.words → EndpointDcis (queue_dcis a.old) →
      ConfigureReads a.spacing a.speed 0 0 a.words [] [] (queue_dcis a.old) ctx (drop_context a ctx)
  unfolding drop_context
  set_configure_reads w e =
      configure_promise a.spacing a.speed 0 0 a.words [] [] (queue_dcis a.old) ctx sp (lit< tt) (lit< tt) w no_endpoints_lem no_ring e

  -- another adds them again,
  pub set_restore_reads : Endpoints a.words → ((d : ℕ) → ring_for d a.old 0 < 2 ^ 64) →
      EndpointDcis (queue_dcis a.old) →
      ConfigureReads a.spacing a.speed 0 0 [] a.words a.old (queue_dcis a.old) ctx (restore_context a ctx)
  unfolding restore_context
  set_restore_reads w r e =
      configure_promise a.spacing a.speed 0 0 [] a.words a.old (queue_dcis a.old) ctx sp (lit< tt) (lit< tt) no_endpoints_lem w r e

  -- and the last Evaluate has the value.
  pub set_evaluate_reads : a.value < 2 ^ 8 → ConfigurationReads a.spacing a.value ctx (value_context a ctx)
  unfolding value_context
  set_evaluate_reads v = configuration_promise a.spacing a.value ctx sp v

pub drop_context_length : (a : Settings) (ctx : List ℕ) → length (drop_context a ctx) ≡ length ctx
unfolding drop_context
drop_context_length a ctx = written_length _ _ ctx

-- The commands that its course comes to, where command m is its first.
module _ (a : Settings) (ctx routes o : List ℕ) (m : ℕ) where
  pub set_stopped : AllDone o m (length a.old) → Comes o m (set_course a ctx routes) (m + length a.old) (set_configure a ctx routes)
  unfolding set_course
  set_stopped h =
      let l : length (queue_dcis a.old) ≡ length a.old = length_dcis a.old in
      rw l at
      (comes_stopped o m ctx (queue_dcis a.old) (set_configure a ctx routes)
      (λ r code. ends (settings_kept answer.InterfaceBroken r.active ctx routes))
      (λ r. ends (settings_kept answer.Cut r.active ctx routes))
      (λ i k j. h i k (omega (arith, l))))

  set_switched : AllDone o m (length a.old + 1) →
      Comes o m (set_course a ctx routes) (m + length a.old + 1) (set_switch a (drop_context a ctx) routes)
  unfolding set_configure on_sent
  set_switched h =
      let n = m + length a.old in
      comes_then o (set_stopped (λ i k j. h i k (omega arith))) (comes_sends o n _ _ _ sent.Done (h n (omega arith) (omega arith)))

  pub set_to_restore : (code : ℕ) → AllDone o m (length a.old + 1) → outcome_at o (m + length a.old + 1) ≡ sent.Failed code →
      Comes o m (set_course a ctx routes) (m + length a.old + 2) (set_restore a code (drop_context a ctx) routes)
  unfolding set_switch on_sent
  set_to_restore code h f =
      let n = m + length a.old in
      let two : n + 1 + 1 ≡ n + 2 = omega arith in
      rw two at (comes_then o (set_switched h) (comes_sends o (n + 1) _ _ _ (sent.Failed code) f))

  pub set_to_evaluate : AllDone o m (length a.old + 2) → replaced routes a.slot a.old [] ≡ Ok tt →
      Comes o m (set_course a ctx routes) (m + length a.old + 2)
      (set_evaluate a (drop_context a ctx) (with_replaced routes a.slot a.old []))
  unfolding set_switch set_publish set_published on_sent
  set_to_evaluate h r =
      let n = m + length a.old in
      let two : n + 1 + 1 ≡ n + 2 = omega arith in
      rw (two, r) at
      (comes_then o (set_switched (λ i k j. h i k (omega arith))) (comes_sends o (n + 1) _ _ _ sent.Done (h (n + 1) (omega arith) (omega arith))))

-- Where it is cut.
module _ (a : Settings) (ctx routes o : List ℕ) where
  pub set_at_configure : AllDone o 0 (length a.old) → outcome_at o (length a.old) ≡ sent.Cut →
      CutHere o (set_course a ctx routes) (length a.old) command.Configure (settings_kept answer.Cut 0 (drop_context a ctx) routes)
  unfolding set_configure on_sent
  set_at_configure h e =
      let z : 0 + length a.old ≡ length a.old = omega arith in
      cut_here o _ (length a.old) _ _ _ _ (rw z at (set_stopped a ctx routes o 0 h)) e refl

  pub set_at_restore : (code : ℕ) → AllDone o 0 (length a.old + 1) → outcome_at o (length a.old + 1) ≡ sent.Failed code →
      outcome_at o (length a.old + 2) ≡ sent.Cut →
      CutHere o (set_course a ctx routes) (length a.old + 2) command.Configure
      (settings_kept answer.Cut 0 (restore_context a (drop_context a ctx)) routes)
  unfolding set_restore on_sent
  set_at_restore code h f e =
      let z : 0 + length a.old ≡ length a.old = omega arith in
      cut_here o _ (length a.old + 2) _ _ _ _ (rw z at (set_to_restore a ctx routes o 0 code h (rw z f))) e refl

  pub set_at_evaluate : AllDone o 0 (length a.old + 2) → replaced routes a.slot a.old [] ≡ Ok tt →
      outcome_at o (length a.old + 2) ≡ sent.Cut →
      CutHere o (set_course a ctx routes) (length a.old + 2) command.Evaluate
      (settings_moved answer.Cut (value_context a (drop_context a ctx)) (with_replaced routes a.slot a.old []))
  unfolding set_evaluate on_sent
  set_at_evaluate h r e =
      let z : 0 + length a.old ≡ length a.old = omega arith in
      cut_here o _ (length a.old + 2) _ _ _ _ (rw z at (set_to_evaluate a ctx routes o 0 h r)) e refl
