-- The course of a release: how many words it logs, where a cut leaves it, and what its answer says.
use Prim.Native.Nat.{ℕ, suc, ◌+◌, ◌*◌, ◌<◌, ◌≤◌}
use mathlib.Core.Path.{◌≡◌, refl}
use mathlib.Core.Bool.{true, false}
use mathlib.Core.List.{List, []}
use mathlib.Core.Logic.{◌⊎◌, inl, inr}
use native.Mathlib.Omega.{arith}
use lib.ListN.{length, length-append}
use Rattle.std.specs.Prelude.{Result, Ok, Err}
use Rattle.answer.specs.declared.Answer.{Answer}
use Rattle.answer.specs.declared.Answer.TheVariants as answer
use Rattle.answer.specs.Answer.{number}
use Rattle.command.specs.declared.Sent.{Sent}
use Rattle.command.specs.declared.Sent.TheVariants as sent
use Rattle.command.specs.Command.{outcome_at}
use Rattle.command.specs.Course.{Course, ends, on_sent, words, result, EndsWith, CutsTo, CutEnds}
use Rattle.command.specs.Sweep.{stop_endpoints, resume_stopped_endpoints}
use Rattle.command.proofs.Cuts.{on_sent_lem, each_outcome}
use Rattle.command.proofs.Laws.{words_then, result_then}
use Rattle.command.proofs.Sweeps.{words_length_resume, words_length_stop, stop_done, stop_cuts, resume_cuts, sweep_cut_ends}
use Rattle.record_endpoint.specs.EndpointMap.{queue_dcis}
use Rattle.transfer.specs.declared.RouteError.{RouteError}
use Rattle.transfer.specs.Routes.{replaced, with_replaced}
use Rattle.course_steps.specs.End.{published, End, settings_kept, configure_failed}
use Rattle.course_steps.proofs.Laws.{length_dcis}
use Rattle.course_release.specs.Release.{Release, release_context, release_publish, release_resume, release_configure, release_course}

module _ (a : Release) (routes o : List ℕ) where
  resume_words : (ctx : List ℕ) (n code : ℕ) → length (words o n (release_resume a code ctx routes)) ≤ length a.old
  unfolding release_resume words
  resume_words ctx n code =
      rw (words_then, length-append)
      (omega (arith, words_length_resume o ctx (queue_dcis a.old) n, length_dcis a.old))

  configure_words : (ctx : List ℕ) (n : ℕ) → length (words o n (release_configure a ctx routes)) ≤ suc (length a.old)
  unfolding release_configure release_publish words
  configure_words ctx n =
      let next = release_context a ctx in
      on_sent_lem (λ c. suc (length (words o (n + 1) c)) ≤ suc (length a.old)) (outcome_at o n) (release_publish a next routes)
      (λ code. release_resume a code next routes)
      (ends (settings_kept answer.Cut 0 next routes))
      (λ e. omega arith)
      (λ code e. omega (arith, resume_words next (n + 1) code))
      (λ e. omega arith)

  -- it logs at most 63 words
  pub release_words : (ctx : List ℕ) (n : ℕ) → length a.old ≤ 30 → length (words o n (release_course a ctx routes)) ≤ 63
  unfolding release_course words
  release_words ctx n few =
      let dcis = queue_dcis a.old in
      let stopped = length (words o n (stop_endpoints ctx dcis)) in
      let r = result o n (stop_endpoints ctx dcis) in
      let m : stopped ≤ 2 * length dcis = words_length_stop o ctx dcis n in
      let l : length dcis ≡ length a.old = length_dcis a.old in
      rw (words_then, length-append)
      (on_sent_lem (λ c. stopped + length (words o (n + stopped) c) ≤ 63) r.sent (release_configure a ctx routes)
      (λ code. ends (settings_kept (answer.Failed code) (length a.old) ctx routes))
      (ends (settings_kept answer.Cut r.active ctx routes))
      (λ e. omega (arith, stop_done o ctx dcis n e, configure_words ctx (n + stopped)))
      (λ code e. omega arith)
      (λ e. omega arith))

resume_ends : (a : Release) (code : ℕ) (ctx routes : List ℕ) → CutEnds (λ e. e.ctx) (release_resume a code ctx routes)
unfolding release_resume CutsTo EndsWith
resume_ends a code ctx routes =
    sweep_cut_ends (λ e. e.ctx) ctx (resume_stopped_endpoints ctx (queue_dcis a.old)) _ (resume_cuts ctx (queue_dcis a.old)) (λ r e. refl) (λ r. tt)

configure_ends : (a : Release) (ctx routes : List ℕ) → CutEnds (λ e. e.ctx) (release_configure a ctx routes)
unfolding release_configure release_publish CutsTo EndsWith on_sent
configure_ends a ctx routes =
    (refl, each_outcome (CutEnds (λ e. e.ctx)) _ _ _ tt (λ code. resume_ends a code (release_context a ctx) routes) tt)

-- where a command is cut, it ends with that command's context
pub release_cuts : (a : Release) (ctx routes : List ℕ) → CutEnds (λ e. e.ctx) (release_course a ctx routes)
unfolding release_course CutsTo EndsWith on_sent
release_cuts a ctx routes =
    sweep_cut_ends (λ e. e.ctx) ctx (stop_endpoints ctx (queue_dcis a.old)) _ (stop_cuts ctx (queue_dcis a.old)) (λ r e. rw e refl)
    (λ r. each_outcome (CutEnds (λ e. e.ctx)) _ _ _ (configure_ends a ctx routes) (λ code. tt) tt r.sent)

-- Accepted: the old routes were all there, and are out.
pub record Gone (a : Release) (routes : List ℕ) (e : End) : Type 0 where
  pub accepted : e.answer ≡ answer.Accepted
  pub moved : e.moved ≡ true
  pub there : replaced routes a.slot a.old [] ≡ Ok tt
  pub left : e.routes ≡ with_replaced routes a.slot a.old []

-- Answered 13 or more: the routes are as they were.
pub record Stayed (routes : List ℕ) (e : End) : Type 0 where
  pub refused : 13 ≤ number e.answer
  pub kept : e.moved ≡ false
  pub left : e.routes ≡ routes

-- an answer with a number is no acceptance
pub not_accepted : (x : Answer) → 0 < number x → x ≡ answer.Accepted → ⊥
unfolding number
not_accepted x h e = let z : 0 < 0 = rw e at h in omega arith

-- One of the two.
abbrev pub Says : Release → List ℕ → End → Type 0
Says a routes e = Gone a routes e ⊎ Stayed routes e

stayed : (a : Release) (x : Answer) (n : ℕ) (ctx routes : List ℕ) → 13 ≤ number x → Says a routes (settings_kept x n ctx routes)
stayed a x n ctx routes h = inr (record { refused = h; kept = refl; left = refl })

published_says : (a : Release) (ctx routes : List ℕ) (r : Result Unit RouteError) → replaced routes a.slot a.old [] ≡ r →
    Says a routes (published r answer.InvalidEndpoint false a.slot a.old [] ctx routes)
unfolding published number
published_says a ctx routes (Ok _) e = inl (record { accepted = refl; moved = refl; there = e; left = refl })
published_says a ctx routes (Err _) e = stayed a answer.InvalidEndpoint 0 ctx routes (omega arith)

failed_number : (code : ℕ) (s : Sent) → 13 ≤ number (configure_failed code s)
unfolding configure_failed number
failed_number code sent.Done = omega arith
failed_number code (sent.Failed later) = omega arith
failed_number code sent.Cut = omega arith

module _ (a : Release) (routes o : List ℕ) where
  configure_says : (ctx : List ℕ) (n : ℕ) → Says a routes (result o n (release_configure a ctx routes))
  unfolding release_configure release_publish release_resume result number
  configure_says ctx n =
      let next = release_context a ctx in
      on_sent_lem (λ c. Says a routes (result o (n + 1) c)) (outcome_at o n) _ _ _
      (λ e. published_says a next routes _ refl)
      (λ code e. rw result_then (stayed a _ _ next routes (failed_number code _)))
      (λ e. stayed a answer.Cut 0 next routes (omega arith))

  -- what the answer says of the routes
  pub release_says : (ctx : List ℕ) (n : ℕ) → Says a routes (result o n (release_course a ctx routes))
  unfolding release_course result number
  release_says ctx n =
      let dcis = queue_dcis a.old in
      let m = n + length (words o n (stop_endpoints ctx dcis)) in
      rw result_then
      (on_sent_lem (λ c. Says a routes (result o m c)) (result o n (stop_endpoints ctx dcis)).sent _ _ _
      (λ e. configure_says ctx m)
      (λ code e. stayed a (answer.Failed code) _ ctx routes (omega arith))
      (λ e. stayed a answer.Cut _ ctx routes (omega arith)))

-- The answers that there are; 18 only where an old route is not its ring.
abbrev pub OneAnswer : Release → List ℕ → Answer → Type 0
OneAnswer a routes x =
    (x ≡ answer.Accepted)
    ⊎ ((code : ℕ) × (x ≡ answer.Failed code))
    ⊎ (x ≡ answer.Cut)
    ⊎ ((x ≡ answer.InvalidEndpoint) × (replaced routes a.slot a.old [] ≡ Ok tt → ⊥))

published_answers : (a : Release) (ctx routes : List ℕ) (r : Result Unit RouteError) → replaced routes a.slot a.old [] ≡ r →
    OneAnswer a routes (published r answer.InvalidEndpoint false a.slot a.old [] ctx routes).answer
unfolding published
published_answers a ctx routes (Ok _) e = inl refl
published_answers a ctx routes (Err _) e =
    inr (inr (inr (refl, λ d. cc)))

failed_answers : (a : Release) (routes : List ℕ) (code : ℕ) (s : Sent) → OneAnswer a routes (configure_failed code s)
unfolding configure_failed
failed_answers a routes code sent.Done = inr (inl (code, refl))
failed_answers a routes code (sent.Failed later) = inr (inl (code, refl))
failed_answers a routes code sent.Cut = inr (inr (inl refl))

module _ (a : Release) (routes o : List ℕ) where
  configure_answers : (ctx : List ℕ) (n : ℕ) → OneAnswer a routes (result o n (release_configure a ctx routes)).answer
  unfolding release_configure release_publish release_resume result
  configure_answers ctx n =
      let next = release_context a ctx in
      on_sent_lem (λ (c : Course End). OneAnswer a routes (result o (n + 1) c).answer) (outcome_at o n) _ _ _
      (λ e. published_answers a next routes _ refl)
      (λ code e. rw result_then (failed_answers a routes code _))
      (λ e. inr (inr (inl refl)))

  -- what it answers
  pub release_answers : (ctx : List ℕ) (n : ℕ) → OneAnswer a routes (result o n (release_course a ctx routes)).answer
  unfolding release_course result
  release_answers ctx n =
      let dcis = queue_dcis a.old in
      let m = n + length (words o n (stop_endpoints ctx dcis)) in
      rw result_then
      (on_sent_lem (λ (c : Course End). OneAnswer a routes (result o m c).answer) (result o n (stop_endpoints ctx dcis)).sent _ _ _
      (λ e. configure_answers ctx m)
      (λ code e. inr (inl (code, refl)))
      (λ e. inr (inr (inl refl))))
