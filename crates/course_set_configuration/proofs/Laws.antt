-- The course of a set configuration: how many words it logs, where a cut leaves it, how it ends.
use Prim.Native.Nat.{ℕ, suc, ◌+◌, ◌*◌, ◌<◌, ◌≤◌}
use mathlib.Core.Path.{◌≡◌, refl, sym, ap, ◌∙◌}
use mathlib.Core.Bool.{Bool, true, false, ◌||◌}
use mathlib.Core.List.{List, []}
use mathlib.Core.Logic.{◌⊎◌, inl, inr}
use native.Mathlib.Omega.{arith}
use lib.ListN.{length, get_or, length-append}
use Rattle.std.specs.Prelude.{Result, Ok, Err}
use Rattle.laws.proofs.Tests.{not_both}
use Rattle.answer.specs.declared.Answer.{Answer}
use Rattle.answer.specs.declared.Answer.TheVariants as answer
use Rattle.answer.specs.Answer.{number}
use Rattle.command.specs.declared.Command.{Command}
use Rattle.command.specs.declared.Command.TheVariants as command
use Rattle.command.specs.declared.Sent.{Sent}
use Rattle.command.specs.declared.Sent.TheVariants as sent
use Rattle.command.specs.Command.{outcome_at, stop_command, resume_command}
use Rattle.command.specs.Course.{Course, ends, on_sent, words, result, EndsWith, CutsTo, CutEnds}
use Rattle.command.specs.Sweep.{stop_endpoints, resume_stopped_endpoints}
use Rattle.command.proofs.Cuts.{on_sent_lem, each_outcome}
use Rattle.command.proofs.Done.{result_sends, AllDone, stop_all_done}
use Rattle.command.proofs.Laws.{words_then, result_then}
use Rattle.command.proofs.Operations.{ByteOperands, operation, EachCommand, each_then}
use Rattle.command.proofs.Sweeps.{words_length_resume, words_length_stop, stop_done, stop_cuts, resume_cuts, sweep_cut_ends, stop_each_lem, resume_each}
use Rattle.record_endpoint.specs.EndpointMap.{queue_dcis}
use Rattle.transfer.specs.declared.RouteError.{RouteError}
use Rattle.transfer.specs.Routes.{replaced, with_replaced}
use Rattle.course_steps.specs.End.{End, settings_kept, settings_moved, configure_failed}
use Rattle.course_steps.proofs.Laws.{length_dcis}
use Rattle.theorem_controller.specs.Controller.{is_done, SET-CONFIGURATION, done_word}
use Rattle.theorem_controller.proofs.Done.{is_done_command, done_in, done_logged, done_none, done_after}
use Rattle.course_set_configuration.specs.SetConfiguration.{Settings, drop_context, restore_context, value_context, set_evaluate, set_published, set_publish, set_restored, set_restore, set_switch, set_resume, set_configure, set_course}

-- How many words it logs.

-- a command, and what comes by its outcome
sent_words : {A : Type 0} (o : List ℕ) (n k : ℕ) (s : Sent) (done : Course A) (failed : ℕ → Course A) (cut : Course A) →
    length (words o n done) ≤ k → ((code : ℕ) → length (words o n (failed code)) ≤ k) → length (words o n cut) ≤ k →
    suc (length (words o n (on_sent s done failed cut))) ≤ k + 1
sent_words o n k s done failed cut d f c =
    let h = on_sent_lem (λ x. length (words o n x) ≤ k) s done failed cut (λ e. d) (λ code e. f code) (λ e. c) in omega (arith, h)

-- an end
none_sent : (k : ℕ) → 0 ≤ k
none_sent k = omega arith

-- a course and an end
last_words : {k x m : ℕ} → k ≤ m → x ≡ 0 → k + x ≤ m
last_words h e = omega arith

module _ (a : Settings) (routes o : List ℕ) where
  resumed_words : (ctx : List ℕ) (n : ℕ) → length (words o n (resume_stopped_endpoints ctx (queue_dcis a.old))) ≤ length a.old
  resumed_words ctx n = omega (arith, words_length_resume o ctx (queue_dcis a.old) n, length_dcis a.old)

  resume_words : (ctx : List ℕ) (n code : ℕ) → length (words o n (set_resume a code ctx routes)) ≤ length a.old + 1 + 1
  unfolding set_resume words
  resume_words ctx n code = rw (words_then, length-append) (omega (arith, resumed_words ctx n))

  restored_words : (ctx : List ℕ) (n code : ℕ) → length (words o n (set_restored a code ctx routes)) ≤ length a.old
  unfolding set_restored words
  restored_words ctx n code =
      let back = resume_stopped_endpoints ctx (queue_dcis a.old) in
      rw (words_then, length-append)
      (last_words (resumed_words ctx n)
      (on_sent_lem (λ (c : Course End). length (words o (n + length (words o n back)) c) ≡ 0) (result o n back).sent _ _ _
      (λ e. refl) (λ later e. refl) (λ e. refl)))

  restore_words : (ctx : List ℕ) (n code : ℕ) → length (words o n (set_restore a code ctx routes)) ≤ length a.old + 1
  unfolding set_restore words
  restore_words ctx n code =
      sent_words o (n + 1) (length a.old) (outcome_at o n) _ _ _ (restored_words (restore_context a ctx) (n + 1) code)
      (λ later. none_sent _)
      (none_sent _)

  publish_words : (ctx : List ℕ) (n : ℕ) → length (words o n (set_publish a ctx routes)) ≤ length a.old + 1
  unfolding set_publish set_published set_evaluate words
  publish_words ctx n = go (replaced routes a.slot a.old [])
    where
      go : (r : Result Unit RouteError) → length (words o n (set_published r a ctx routes)) ≤ length a.old + 1
      go (Ok _) =
          sent_words o (n + 1) (length a.old) (outcome_at o n) _ _ _ (none_sent _) (λ code. none_sent _) (none_sent _)
      go (Err _) = none_sent _

  switch_words : (ctx : List ℕ) (n : ℕ) → length (words o n (set_switch a ctx routes)) ≤ length a.old + 1 + 1
  unfolding set_switch words
  switch_words ctx n =
      sent_words o (n + 1) (length a.old + 1) (outcome_at o n) _ _ _ (publish_words ctx (n + 1))
      (λ code. restore_words ctx (n + 1) code)
      (none_sent _)

  configure_words : (ctx : List ℕ) (n : ℕ) → length (words o n (set_configure a ctx routes)) ≤ length a.old + 1 + 1 + 1
  unfolding set_configure words
  configure_words ctx n =
      sent_words o (n + 1) (length a.old + 1 + 1) (outcome_at o n) _ _ _ (switch_words (drop_context a ctx) (n + 1))
      (λ code. resume_words (drop_context a ctx) (n + 1) code)
      (none_sent _)

  -- it logs at most two words for each endpoint and three more: 63 for 30 endpoints, 3 for none
  pub set_words : (ctx : List ℕ) (n : ℕ) → length (words o n (set_course a ctx routes)) ≤ 2 * length a.old + 3
  unfolding set_course words
  set_words ctx n =
      let dcis = queue_dcis a.old in
      let r = result o n (stop_endpoints ctx dcis) in
      let k = length (words o n (stop_endpoints ctx dcis)) in
      let few : k + 0 ≤ 2 * length a.old + 3 = omega (arith, words_length_stop o ctx dcis n, length_dcis a.old) in
      let all : r.sent ≡ sent.Done → k + length (words o (n + k) (set_configure a ctx routes)) ≤ 2 * length a.old + 3 =
      λ e. omega (arith, stop_done o ctx dcis n e, length_dcis a.old, configure_words ctx (n + k)) in
      rw (words_then, length-append)
      (on_sent_lem (λ (c : Course End). k + length (words o (n + k) c) ≤ 2 * length a.old + 3) r.sent _ _ _ all (λ code e. few)
      (λ e. few))

-- Where a cut leaves it.

module _ (a : Settings) where
  evaluate_cuts : (ctx routes : List ℕ) → CutEnds (λ e. e.ctx) (set_evaluate a ctx routes)
  unfolding set_evaluate CutsTo EndsWith on_sent
  evaluate_cuts ctx routes =
      (refl, each_outcome (CutEnds (λ e. e.ctx)) _ _ _ tt (λ code. tt) tt)

  published_cuts : (r : Result Unit RouteError) (ctx routes : List ℕ) → CutEnds (λ e. e.ctx) (set_published r a ctx routes)
  unfolding set_published CutsTo
  published_cuts (Ok _) ctx routes = evaluate_cuts ctx (with_replaced routes a.slot a.old [])
  published_cuts (Err _) ctx routes = tt

  resume_ends : (code : ℕ) (ctx routes : List ℕ) → CutEnds (λ e. e.ctx) (set_resume a code ctx routes)
  unfolding set_resume CutsTo EndsWith
  resume_ends code ctx routes =
      sweep_cut_ends (λ e. e.ctx) ctx (resume_stopped_endpoints ctx (queue_dcis a.old)) _ (resume_cuts ctx (queue_dcis a.old)) (λ r e. refl)
      (λ r. tt)

  restored_ends : (code : ℕ) (ctx routes : List ℕ) → CutEnds (λ e. e.ctx) (set_restored a code ctx routes)
  unfolding set_restored CutsTo EndsWith on_sent
  restored_ends code ctx routes =
      sweep_cut_ends (λ e. e.ctx) ctx (resume_stopped_endpoints ctx (queue_dcis a.old)) _ (resume_cuts ctx (queue_dcis a.old))
      (λ r e. rw e refl)
      (λ r. each_outcome (CutEnds (λ e. e.ctx)) _ _ _ tt (λ later. tt) tt r.sent)

  restore_ends : (code : ℕ) (ctx routes : List ℕ) → CutEnds (λ e. e.ctx) (set_restore a code ctx routes)
  unfolding set_restore CutsTo EndsWith on_sent
  restore_ends code ctx routes =
      (refl, each_outcome (CutEnds (λ e. e.ctx)) _ _ _ (restored_ends code (restore_context a ctx) routes) (λ later. tt) tt)

  switch_ends : (ctx routes : List ℕ) → CutEnds (λ e. e.ctx) (set_switch a ctx routes)
  unfolding set_switch set_publish CutsTo EndsWith on_sent
  switch_ends ctx routes =
      (refl, each_outcome (CutEnds (λ e. e.ctx)) _ _ _ (published_cuts _ ctx routes) (λ code. restore_ends code ctx routes) tt)

  configure_ends : (ctx routes : List ℕ) → CutEnds (λ e. e.ctx) (set_configure a ctx routes)
  unfolding set_configure CutsTo EndsWith on_sent
  configure_ends ctx routes =
      let next : List ℕ = drop_context a ctx in
      (refl, each_outcome (CutEnds (λ e. e.ctx)) _ _ _ (switch_ends next routes) (λ code. resume_ends code next routes) tt)

  -- where a command is cut, it ends with that command's context
  pub set_cuts : (ctx routes : List ℕ) → CutEnds (λ e. e.ctx) (set_course a ctx routes)
  unfolding set_course CutsTo EndsWith on_sent
  set_cuts ctx routes =
      sweep_cut_ends (λ e. e.ctx) ctx (stop_endpoints ctx (queue_dcis a.old)) _ (stop_cuts ctx (queue_dcis a.old)) (λ r e. rw e refl)
      (λ r. each_outcome (CutEnds (λ e. e.ctx)) _ _ _ (configure_ends ctx routes) (λ code. tt) tt r.sent)

-- Which commands it sends.

module _ (P : Command → Type 0) (a : Settings) (back : (k : ℕ) → P (resume_command (get_or (queue_dcis a.old) k 0))) where
  resume_sends : (code : ℕ) (ctx routes : List ℕ) → EachCommand P (set_resume a code ctx routes)
  unfolding set_resume EachCommand
  resume_sends code ctx routes = each_then P (resume_stopped_endpoints ctx (queue_dcis a.old)) _ (resume_each P ctx _ back) (λ r. tt)

  restored_sends : (code : ℕ) (ctx routes : List ℕ) → EachCommand P (set_restored a code ctx routes)
  unfolding set_restored EachCommand
  restored_sends code ctx routes =
      each_then P (resume_stopped_endpoints ctx (queue_dcis a.old)) _ (resume_each P ctx _ back)
      (λ r. each_outcome (EachCommand P) _ _ _ tt (λ later. tt) tt r.sent)

  restore_sends : P command.Configure → (code : ℕ) (ctx routes : List ℕ) → EachCommand P (set_restore a code ctx routes)
  unfolding set_restore EachCommand
  restore_sends c code ctx routes =
      (c, each_outcome (EachCommand P) _ _ _ (restored_sends code (restore_context a ctx) routes) (λ later. tt) tt)

module _ (P : Command → Type 0) (a : Settings) where
  evaluate_sends : P command.Evaluate → (ctx routes : List ℕ) → EachCommand P (set_evaluate a ctx routes)
  unfolding set_evaluate EachCommand
  evaluate_sends p ctx routes = (p, each_outcome (EachCommand P) _ _ _ tt (λ code. tt) tt)

  published_sends : P command.Evaluate → (r : Result Unit RouteError) (ctx routes : List ℕ) → EachCommand P (set_published r a ctx routes)
  unfolding set_published EachCommand
  published_sends p (Ok _) ctx routes = evaluate_sends p ctx (with_replaced routes a.slot a.old [])
  published_sends p (Err _) ctx routes = tt

  -- What holds of every command that it can send.
  pub record OfEach : Type 0 where
    pub configure : P command.Configure
    pub switch : P (command.SetConfiguration a.value)
    pub evaluate : P command.Evaluate
    pub stop : (k : ℕ) → P (stop_command (get_or (queue_dcis a.old) k 0))
    pub resume : (k : ℕ) → P (resume_command (get_or (queue_dcis a.old) k 0))

  -- it sends no other commands
  pub set_sends : OfEach → (ctx routes : List ℕ) → EachCommand P (set_course a ctx routes)
  unfolding set_course set_configure set_switch set_publish EachCommand
  set_sends p ctx routes =
      each_then P (stop_endpoints ctx (queue_dcis a.old)) _ (stop_each_lem P ctx _ (λ k. (p.stop k, p.resume k)))
      (λ r. each_outcome (EachCommand P) _ _ _ configured (λ code. tt) tt r.sent)
    where
      next : List ℕ
      next = drop_context a ctx

      switched : EachCommand P (set_switch a next routes)
      switched = (
        p.switch,
        each_outcome (EachCommand P) _ _ _ (published_sends p.evaluate _ next routes)
            (λ code. restore_sends P a p.resume p.configure code next routes) tt,
      )

      configured : EachCommand P (set_configure a ctx routes)
      configured =
          (p.configure, each_outcome (EachCommand P) _ _ _ switched (λ code. resume_sends P a p.resume code next routes) tt)

-- How it ends.

-- The ends that there are, where `switched` says whether its SetConfiguration is done.
pub data SetEnd (a : Settings) (routes : List ℕ) : Bool → End → Type 0 where
  failed : (code active : ℕ) (ctx : List ℕ) → SetEnd a routes false (settings_kept (answer.Failed code) active ctx routes)
  broken : (active : ℕ) (ctx : List ℕ) → SetEnd a routes false (settings_kept answer.InterfaceBroken active ctx routes)
  cut : (active : ℕ) (ctx : List ℕ) → SetEnd a routes false (settings_kept answer.Cut active ctx routes)
  invalid : (ctx : List ℕ) → (replaced routes a.slot a.old [] ≡ Ok tt → ⊥) →
      SetEnd a routes true (settings_kept answer.InvalidEndpoint 0 ctx routes)
  accepted : (ctx : List ℕ) → replaced routes a.slot a.old [] ≡ Ok tt →
      SetEnd a routes true (settings_moved answer.Accepted ctx (with_replaced routes a.slot a.old []))
  broken_late : (ctx : List ℕ) → replaced routes a.slot a.old [] ≡ Ok tt →
      SetEnd a routes true (settings_moved answer.InterfaceBroken ctx (with_replaced routes a.slot a.old []))
  cut_late : (ctx : List ℕ) → replaced routes a.slot a.old [] ≡ Ok tt →
      SetEnd a routes true (settings_moved answer.Cut ctx (with_replaced routes a.slot a.old []))

module _ (a : Settings) (routes o : List ℕ) where
  configure_failed_end : (code active : ℕ) (ctx : List ℕ) (s : Sent) →
      SetEnd a routes false (settings_kept (configure_failed code s) active ctx routes)
  unfolding configure_failed
  configure_failed_end code active ctx sent.Done = failed code active ctx
  configure_failed_end code active ctx (sent.Failed later) = failed code active ctx
  configure_failed_end code active ctx sent.Cut = cut active ctx

  resume_end : (ctx : List ℕ) (n code : ℕ) → SetEnd a routes false (result o n (set_resume a code ctx routes))
  unfolding set_resume result
  resume_end ctx n code = rw result_then (configure_failed_end code _ ctx _)

  restored_end : (ctx : List ℕ) (n code : ℕ) → SetEnd a routes false (result o n (set_restored a code ctx routes))
  unfolding set_restored result
  restored_end ctx n code =
      let back = resume_stopped_endpoints ctx (queue_dcis a.old) in
      rw result_then
      (on_sent_lem (λ (c : Course End). SetEnd a routes false (result o (n + length (words o n back)) c)) (result o n back).sent _ _ _
      (λ e. failed code _ ctx) (λ later e. broken _ ctx) (λ e. cut _ ctx))

  restore_end : (ctx : List ℕ) (n code : ℕ) → SetEnd a routes false (result o n (set_restore a code ctx routes))
  unfolding set_restore result
  restore_end ctx n code =
      on_sent_lem (λ (c : Course End). SetEnd a routes false (result o (n + 1) c)) (outcome_at o n) _ _ _
      (λ e. restored_end (restore_context a ctx) (n + 1) code) (λ later e. broken 0 _) (λ e. cut 0 _)

  published_end : (ctx : List ℕ) (n : ℕ) (r : Result Unit RouteError) → replaced routes a.slot a.old [] ≡ r →
      SetEnd a routes true (result o n (set_published r a ctx routes))
  unfolding set_published set_evaluate result
  published_end ctx n (Ok _) e =
      on_sent_lem (λ (c : Course End). SetEnd a routes true (result o (n + 1) c)) (outcome_at o n) _ _ _ (λ s. accepted _ e)
      (λ code s. broken_late _ e) (λ s. cut_late _ e)
  published_end ctx n (Err _) e = invalid ctx (λ d. cc)

  switch_end : (ctx : List ℕ) (n : ℕ) →
      SetEnd a routes (done_in SET-CONFIGURATION o n (set_switch a ctx routes)) (result o n (set_switch a ctx routes))
  unfolding set_switch set_publish done_in is_done_command result is_done operation on_sent
  switch_end ctx n = go (outcome_at o n)
    where
      rest : Sent → Course End
      rest s = on_sent s (set_publish a ctx routes) (λ code. set_restore a code ctx routes) (ends (settings_kept answer.Cut 0 ctx routes))

      go : (s : Sent) → SetEnd a routes (is_done s || done_in SET-CONFIGURATION o (n + 1) (rest s)) (result o (n + 1) (rest s))
      go sent.Done = published_end ctx (n + 1) _ refl
      go (sent.Failed code) =
          rw (done_none SET-CONFIGURATION o (n + 1) (set_restore a code ctx routes) (restore_sends _ a (λ k. refl) refl code ctx routes))
          (restore_end ctx (n + 1) code)
      go sent.Cut = cut 0 ctx

  configure_end : (ctx : List ℕ) (n : ℕ) →
      SetEnd a routes (done_in SET-CONFIGURATION o n (set_configure a ctx routes)) (result o n (set_configure a ctx routes))
  unfolding set_configure done_in is_done_command result operation on_sent
  configure_end ctx n = go (outcome_at o n)
    where
      next : List ℕ
      next = drop_context a ctx

      rest : Sent → Course End
      rest s = on_sent s (set_switch a next routes) (λ code. set_resume a code next routes) (ends (settings_kept answer.Cut 0 next routes))

      go : (s : Sent) → SetEnd a routes (done_in SET-CONFIGURATION o (n + 1) (rest s)) (result o (n + 1) (rest s))
      go sent.Done = switch_end next (n + 1)
      go (sent.Failed code) =
          rw (done_none SET-CONFIGURATION o (n + 1) (set_resume a code next routes) (resume_sends _ a (λ k. refl) code next routes))
          (resume_end next (n + 1) code)
      go sent.Cut = cut 0 next

  -- it ends in one of these ways
  pub set_ends : (ctx : List ℕ) (n : ℕ) →
      SetEnd a routes (done_in SET-CONFIGURATION o n (set_course a ctx routes)) (result o n (set_course a ctx routes))
  unfolding set_course done_in result operation
  set_ends ctx n =
      let stop = stop_endpoints ctx (queue_dcis a.old) in
      let m = n + length (words o n stop) in
      rw (done_after SET-CONFIGURATION o n stop _ (stop_each_lem _ ctx _ (λ k. (refl, refl))), result_then)
      (on_sent_lem (λ (c : Course End). SetEnd a routes (done_in SET-CONFIGURATION o m c) (result o m c)) (result o n stop).sent _ _ _
      (λ e. configure_end ctx m) (λ code e. broken _ ctx) (λ e. cut _ ctx))

-- Of an end: the old routes are out exactly if SetConfiguration is done and the routes allow it.
pub record Routed (a : Settings) (routes : List ℕ) (switched : Bool) (e : End) : Type 0 where
  pub out : switched ≡ true → replaced routes a.slot a.old [] ≡ Ok tt → e.moved ≡ true
  pub gone : e.moved ≡ true →
      (switched ≡ true)
      × (replaced routes a.slot a.old [] ≡ Ok tt)
      × (e.routes ≡ with_replaced routes a.slot a.old [])
  pub kept : e.moved ≡ false → e.routes ≡ routes

-- The answers that there are.
abbrev pub OneAnswer : Answer → Type 0
OneAnswer x =
    (x ≡ answer.Accepted)
    ⊎ ((code : ℕ) × (x ≡ answer.Failed code))
    ⊎ (x ≡ answer.InterfaceBroken)
    ⊎ (x ≡ answer.Cut)
    ⊎ (x ≡ answer.InvalidEndpoint)

-- Of an end: its answer is one of these, and what some of them say.
pub record Answered (a : Settings) (routes : List ℕ) (e : End) : Type 0 where
  pub only : OneAnswer e.answer
  pub accepted : e.answer ≡ answer.Accepted → e.moved ≡ true
  pub failed : (code : ℕ) → e.answer ≡ answer.Failed code → e.moved ≡ false
  pub invalid : e.answer ≡ answer.InvalidEndpoint →
      (e.moved ≡ false) × (replaced routes a.slot a.old [] ≡ Ok tt → ⊥)

-- answers are told apart by their numbers
other : {P : Type 0} (x y : Answer) → number x < number y → x ≡ y → P
other x y h e = absurd (omega (arith, ap number e))

false_true : {P : Type 0} → false ≡ true → P
false_true e = not_both true refl (sym e)

module _ (a : Settings) (routes : List ℕ) where
  stay : {s : Bool} {e : End} → e.moved ≡ false → e.routes ≡ routes →
      (s ≡ true → replaced routes a.slot a.old [] ≡ Ok tt → ⊥) → Routed a routes s e
  stay m r n =
      record { out = λ s d. absurd (n s d); gone = λ t. false_true (sym m ∙ t); kept = λ f. r }

  move : {e : End} → e.moved ≡ true → e.routes ≡ with_replaced routes a.slot a.old [] →
      replaced routes a.slot a.old [] ≡ Ok tt → Routed a routes true e
  move m r d = record { out = λ s e. m; gone = λ t. (refl, d, r); kept = λ f. false_true (sym f ∙ m) }

  routed : (s : Bool) (e : End) → SetEnd a routes s e → Routed a routes s e
  routed false _ (failed code active ctx) = stay refl refl (λ s d. false_true s)
  routed false _ (broken active ctx) = stay refl refl (λ s d. false_true s)
  routed false _ (cut active ctx) = stay refl refl (λ s d. false_true s)
  routed true _ (invalid ctx n) = stay refl refl (λ s d. n d)
  routed true _ (accepted ctx d) = move refl refl d
  routed true _ (broken_late ctx d) = move refl refl d
  routed true _ (cut_late ctx d) = move refl refl d

  stay_answer : (e : End) → e.moved ≡ false → number answer.Accepted < number e.answer →
      number e.answer < number answer.InvalidEndpoint → OneAnswer e.answer → Answered a routes e
  stay_answer e m low high w =
      record { only = w; accepted = λ p. other _ _ low (sym p); failed = λ code p. m; invalid = λ p. other _ _ high p }

  move_answer : (e : End) → e.moved ≡ true → ((code : ℕ) → e.answer ≡ answer.Failed code → ⊥) →
      number e.answer < number answer.InvalidEndpoint → OneAnswer e.answer → Answered a routes e
  move_answer e m n high w =
      record { only = w; accepted = λ p. m; failed = λ code p. absurd (n code p); invalid = λ p. other _ _ high p }

  answered : (s : Bool) (e : End) → SetEnd a routes s e → Answered a routes e
  unfolding number
  answered false _ (failed code active ctx) = stay_answer _ refl (omega arith) (omega arith) (inr (inl (code, refl)))
  answered false _ (broken active ctx) = stay_answer _ refl (omega arith) (omega arith) (inr (inr (inl refl)))
  answered false _ (cut active ctx) = stay_answer _ refl (omega arith) (omega arith) (inr (inr (inr (inl refl))))
  answered true _ (invalid ctx n) =
      record {
        only = inr (inr (inr (inr refl)));
        accepted = λ p. other _ _ (omega arith) (sym p);
        failed = λ code p. refl;
        invalid = λ p. (refl, n);
      }
  answered true _ (accepted ctx d) = move_answer _ refl (λ code. other _ _ (omega arith)) (omega arith) (inl refl)
  answered true _ (broken_late ctx d) =
      move_answer _ refl (λ code p. other _ _ (omega arith) (sym p)) (omega arith) (inr (inr (inl refl)))
  answered true _ (cut_late ctx d) =
      move_answer _ refl (λ code p. other _ _ (omega arith) (sym p)) (omega arith) (inr (inr (inr (inl refl))))

module _ (a : Settings) (routes o ctx : List ℕ) (n : ℕ) where
  -- what it makes of the routes
  pub set_moved : Routed a routes (done_in SET-CONFIGURATION o n (set_course a ctx routes)) (result o n (set_course a ctx routes))
  set_moved = routed a routes _ _ (set_ends a routes o ctx n)

  -- what it answers
  pub set_answers : Answered a routes (result o n (set_course a ctx routes))
  set_answers = answered a routes _ _ (set_ends a routes o ctx n)

-- the operands of its commands are bytes
pub set_operands : (a : Settings) (ctx routes : List ℕ) → a.value < 256 → ((k : ℕ) → get_or (queue_dcis a.old) k 0 < 256) →
    EachCommand ByteOperands (set_course a ctx routes)
unfolding ByteOperands
set_operands a ctx routes v d =
    set_sends ByteOperands a (record { configure = tt; switch = v; evaluate = tt; stop = d; resume = d }) ctx routes

-- the log tells whether its SetConfiguration is done
pub set_switched : (a : Settings) (routes o ctx : List ℕ) (n : ℕ) → a.value < 256 →
    ((k : ℕ) → get_or (queue_dcis a.old) k 0 < 256) →
    done_word SET-CONFIGURATION o n (words o n (set_course a ctx routes)) ≡ done_in SET-CONFIGURATION o n (set_course a ctx routes)
set_switched a routes o ctx n v d = done_logged SET-CONFIGURATION o n (set_course a ctx routes) (set_operands a ctx routes v d)

-- where the old routes are there, they are out exactly if the log has a done SetConfiguration
pub set_out : (a : Settings) (routes o ctx : List ℕ) (n : ℕ) → a.value < 256 →
    ((k : ℕ) → get_or (queue_dcis a.old) k 0 < 256) → replaced routes a.slot a.old [] ≡ Ok tt →
    done_word SET-CONFIGURATION o n (words o n (set_course a ctx routes)) ≡ (result o n (set_course a ctx routes)).moved
set_out a routes o ctx n v d r =
    let m = set_moved a routes o ctx n in
    set_switched a routes o ctx n v d ∙ both _ _ (λ e. m.out e r) (λ e. (m.gone e).0)
  where
    both : (x y : Bool) → (x ≡ true → y ≡ true) → (y ≡ true → x ≡ true) → x ≡ y
    both true y f g = sym (f refl)
    both false true f g = g refl
    both false false f g = refl

done_end : {A : Type 0} (o : List ℕ) (n : ℕ) (x : A) → result o n (ends x) ≡ x
unfolding result
done_end o n x = refl

module _ (a : Settings) (routes o : List ℕ) where
  configure_accepted : (ctx : List ℕ) (n : ℕ) → AllDone o n 3 → replaced routes a.slot a.old [] ≡ Ok tt →
      result o n (set_configure a ctx routes)
      ≡ settings_moved answer.Accepted (value_context a (drop_context a ctx)) (with_replaced routes a.slot a.old [])
  unfolding set_configure set_switch set_publish set_published set_evaluate on_sent
  configure_accepted ctx n h d =
      result_sends o n _ _ _ sent.Done (h n (omega arith) (omega arith))
      ∙ result_sends o (n + 1) _ _ _ sent.Done (h (n + 1) (omega arith) (omega arith))
      ∙ ap (λ r. result o (n + 1 + 1) (set_published r a (drop_context a ctx) routes)) d
      ∙ result_sends o (n + 1 + 1) _ _ _ sent.Done (h (n + 1 + 1) (omega arith) (omega arith))
      ∙ done_end o (n + 1 + 1 + 1) _

  -- with every outcome done and the old routes there, it is accepted and they are out
  pub set_accepted : (ctx : List ℕ) (n : ℕ) → AllDone o n (length a.old + 3) →
      replaced routes a.slot a.old [] ≡ Ok tt →
      result o n (set_course a ctx routes)
      ≡ settings_moved answer.Accepted (value_context a (drop_context a ctx)) (with_replaced routes a.slot a.old [])
  unfolding set_course on_sent
  set_accepted ctx n h d =
      let dcis = queue_dcis a.old in
      let l : length dcis ≡ length a.old = length_dcis a.old in
      let e = stop_all_done o ctx dcis n (λ i m k. h i m (omega arith)) in
      let k : length (words o n (stop_endpoints ctx dcis)) ≡ length a.old = stop_done o ctx dcis n e ∙ l in
      rw (result_then, e, k) (configure_accepted ctx (n + length a.old) (λ i m j. h i (omega arith) (omega arith)) d)
