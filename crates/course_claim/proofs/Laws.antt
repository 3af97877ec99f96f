-- The course of a claim: how it ends, how many words it logs, and where a cut leaves it.
use Prim.Native.Nat.{ℕ, suc, ◌+◌, ◌*◌, ◌<◌, ◌≤◌, max}
use mathlib.Core.Path.{◌≡◌, refl, sym, ◌∙◌}
use mathlib.Core.Bool.{Bool, true, false, cond, true≢false}
use mathlib.Core.List.{List, ◌++◌}
use mathlib.Core.Logic.{◌⊎◌, inl, inr, ◌↔◌}
use native.Mathlib.Nat.{add-zero}
use native.Mathlib.Omega.{arith}
use lib.ListN.{length, get_or, length-append}
use lib.Seq.{get_or-append_seam}
use Rattle.std.specs.Prelude.{Result, Ok, Err, is_some}
use Rattle.answer.specs.declared.Answer.{Answer}
use Rattle.answer.specs.declared.Answer.TheVariants as answer
use Rattle.command.specs.declared.Command.{Command}
use Rattle.command.specs.declared.Command.TheVariants as command
use Rattle.command.specs.declared.Sent.{Sent}
use Rattle.command.specs.declared.Sent.TheVariants as sent
use Rattle.command.specs.Command.{command_word, outcome_at}
use Rattle.command.specs.Course.{Course, ends, sends, on_sent, then, words, result, EndsWith, CutsTo, CutEnds}
use Rattle.command.specs.Sweep.{Sweep, stop_endpoints, resume_stopped_endpoints, or_code}
use Rattle.command.proofs.Cuts.{cut_past, on_sent_lem, each_outcome, cuts_then, cut_last}
use Rattle.command.proofs.Done.{result_sends, AllDone, stop_all_done}
use Rattle.command.proofs.Laws.{words_then, result_then}
use Rattle.command.proofs.Sweeps.{words_length_resume, words_length_stop, active_stop, active_resume, stop_done, CutSweep, stop_cuts, resume_cuts, stop_uncut, resume_uncut, sweep_uncut}
use Rattle.record_endpoint.specs.EndpointMap.{queue_dcis}
use Rattle.transfer.specs.declared.RouteError.{RouteError}
use Rattle.transfer.specs.Routes.{replaced, with_replaced}
use Rattle.course_steps.specs.End.{published, End, settings_kept, settings_moved, settings_marked, settings_doubted, is_unanswered, answer_of}
use Rattle.course_steps.proofs.Laws.{length_dcis}
use Rattle.course_claim.specs.Claim.{Claim, claim_context, undo_context, claim_publish, claim_switch_back, claim_undone, claim_undo, claim_switch, claim_resume, claim_configure, claim_course}

-- The answers of a claim that is not accepted.
abbrev pub Refused : Answer → Type 0
Refused x = ((code : ℕ) × (x ≡ answer.Failed code)) ⊎ (x ≡ answer.InterfaceBroken) ⊎ (x ≡ answer.Cut)

-- How a claim can end.
pub data ClaimEnd (a : Claim) (ctx routes : List ℕ) : End → Type 0 where
  accepted : replaced routes a.args.slot.0 a.old a.pending ≡ Ok tt →
      ClaimEnd a ctx routes (settings_moved answer.Accepted (claim_context a ctx) (with_replaced routes a.args.slot.0 a.old a.pending))
  -- after a failed stop all old endpoints are active
  stop_failed : {code : ℕ} → ClaimEnd a ctx routes (settings_kept (answer.Failed code) (length a.old) ctx routes)
  -- after a failed Configure those that were resumed
  configure_failed : {code active : ℕ} → active ≤ length a.old →
      ClaimEnd a ctx routes (settings_kept (answer.Failed code) active (claim_context a ctx) routes)
  -- after a failed SetInterface, the Configure undone: all
  undone : {code : ℕ} → ClaimEnd a ctx routes (settings_kept (answer.Failed code) (length a.old) (undo_context a (claim_context a ctx)) routes)
  -- the same, not undone
  broken : ClaimEnd a ctx routes (settings_doubted answer.InterfaceBroken (undo_context a (claim_context a ctx)) routes)
  -- routes that do not allow it
  unrouted : (replaced routes a.args.slot.0 a.old a.pending ≡ Ok tt → ⊥) →
      ClaimEnd a ctx routes (settings_doubted answer.InterfaceBroken (claim_context a ctx) routes)
  cut : {active : ℕ} {doubted : Bool} {at : List ℕ} → active ≤ length a.old →
      ClaimEnd a ctx routes (settings_marked answer.Cut active doubted at routes)

-- Routes and settings are moved exactly if the claim is accepted.
pub record Moved (a : Claim) (routes : List ℕ) (e : End) : Type 0 where
  pub by_answer : (e.moved ≡ true) ↔ (e.answer ≡ answer.Accepted)
  pub allowed : e.moved ≡ true → replaced routes a.args.slot.0 a.old a.pending ≡ Ok tt
  pub routed : e.moved ≡ true → e.routes ≡ with_replaced routes a.args.slot.0 a.old a.pending
  pub kept : e.moved ≡ false → e.routes ≡ routes

record Claimed (a : Claim) (routes : List ℕ) (e : End) : Type 0 where
  pub answers : (e.answer ≡ answer.Accepted) ⊎ Refused e.answer
  pub moved : Moved a routes e
  pub few_active : e.active ≤ length a.old

refused_accepted : {P : Type 0} (x : Answer) → Refused x → x ≡ answer.Accepted → P
refused_accepted x (inl f) e = absurd (cc f.1)
refused_accepted x (inr (inl b)) e = absurd cc
refused_accepted x (inr (inr c)) e = absurd cc

module _ (a : Claim) (ctx routes : List ℕ) where
  stayed : {x : Answer} {active : ℕ} {doubted : Bool} {at : List ℕ} → Refused x → active ≤ length a.old →
      Claimed a routes (settings_marked x active doubted at routes)
  stayed {x} r h =
      record {
        answers = inr r;
        moved =
            record {
              by_answer = (λ e. absurd (true≢false (sym e)), refused_accepted x r);
              allowed = λ e. absurd (true≢false (sym e));
              routed = λ e. absurd (true≢false (sym e));
              kept = λ e. refl;
            };
        few_active = h;
      }

  claimed : (e : End) → ClaimEnd a ctx routes e → Claimed a routes e
  claimed _ (accepted d) =
      record {
        answers = inl refl;
        moved =
            record {
              by_answer = (λ e. refl, λ e. refl);
              allowed = λ e. d;
              routed = λ e. refl;
              kept = λ e. absurd (true≢false e);
            };
        few_active = omega arith;
      }
  claimed _ (stop_failed {code}) = stayed (inl (code, refl)) (omega arith)
  claimed _ (configure_failed {code} h) = stayed (inl (code, refl)) h
  claimed _ (undone {code}) = stayed (inl (code, refl)) (omega arith)
  claimed _ broken = stayed (inr (inl refl)) (omega arith)
  claimed _ (unrouted n) = stayed (inr (inl refl)) (omega arith)
  claimed _ (cut h) = stayed (inr (inr refl)) h

-- A phase of it: it logs at most m words, and is cut only where the outcomes are used up.
record Phase (a : Claim) (ctx routes o : List ℕ) (m n : ℕ) (c : Course End) : Type 0 where
  pub end : ClaimEnd a ctx routes (result o n c)
  pub few : length (words o n c) ≤ m
  pub used : (result o n c).answer ≡ answer.Cut → length o < n + length (words o n c)

module _ (a : Claim) (ctx routes o : List ℕ) where
  phase_ends : {m n : ℕ} {e : End} → ClaimEnd a ctx routes e → (e.answer ≡ answer.Cut → length o < n) →
      Phase a ctx routes o m n (ends e)
  unfolding result words
  phase_ends {m} {n} f u = record { end = f; few = omega arith; used = λ c. rw add-zero (u c) }

  -- a command whose cut ends it
  phase_sends : {m n : ℕ} {c : Command} {at : List ℕ} {done : Course End} {failed : ℕ → Course End} →
      Phase a ctx routes o m (n + 1) done → ((code : ℕ) → Phase a ctx routes o m (n + 1) (failed code)) →
      Phase a ctx routes o (suc m) n (sends c at (λ s. on_sent s done failed (ends (settings_doubted answer.Cut at routes))))
  unfolding result words
  phase_sends {m} {n} {c} {at} {done} {failed} d f =
      let p =
      on_sent_lem (Phase a ctx routes o m (n + 1)) (outcome_at o n) done failed (ends (settings_doubted answer.Cut at routes)) (λ e. d)
      (λ code e. f code)
      (λ e. phase_ends (cut (omega arith)) (λ f. omega (arith, cut_past o n e))) in
      record { end = p.end; few = omega (arith, p.few); used = λ e. omega (arith, p.used e) }

  -- a sweep, and then a phase
  phase_then : (m t n : ℕ) (c : Course Sweep) (f : Sweep → Course End) →
      Phase a ctx routes o m (n + length (words o n c)) (f (result o n c)) → length (words o n c) + m ≤ t →
      Phase a ctx routes o t n (then c f)
  phase_then m t n c f p h =
      record {
        end = rw result_then p.end;
        few = rw (words_then, length-append) (omega (arith, p.few));
        used = rw (words_then, result_then, length-append) (λ e. omega (arith, p.used e));
      }

  more : {m t n : ℕ} {c : Course End} → Phase a ctx routes o m n c → m ≤ t → Phase a ctx routes o t n c
  more p h = record { end = p.end; few = omega (arith, p.few); used = p.used }

  publish_phase : (n : ℕ) → Phase a ctx routes o 0 n (claim_publish a (claim_context a ctx) routes)
  unfolding claim_publish published
  publish_phase n = go (replaced routes a.args.slot.0 a.old a.pending) refl
    where
      go : (r : Result Unit RouteError) → replaced routes a.args.slot.0 a.old a.pending ≡ r →
          Phase a ctx routes o 0 n (ends (published r answer.InterfaceBroken true a.args.slot.0 a.old a.pending (claim_context a ctx) routes))
      go (Ok _) e = phase_ends (accepted e) (λ e. absurd cc)
      go (Err _) e = phase_ends (unrouted (λ d. cc)) (λ e. absurd cc)

  undone_phase : (n code : ℕ) → Phase a ctx routes o 1 n (claim_undone a code (undo_context a (claim_context a ctx)) routes)
  unfolding claim_undone claim_switch_back
  undone_phase n code = go (is_some a.args.held_alternate)
    where
      go : (held : Bool) →
          Phase a ctx routes o 1 n
          (cond held (claim_switch_back a code (undo_context a (claim_context a ctx)) routes)
          (ends (settings_kept (answer.Failed code) (length a.old) (undo_context a (claim_context a ctx)) routes)))
      go true = phase_sends (phase_ends undone (λ e. absurd cc)) (λ later. phase_ends broken (λ e. absurd cc))
      go false = phase_ends undone (λ e. absurd cc)

  switch_phase : (n : ℕ) → Phase a ctx routes o 3 n (claim_switch a (claim_context a ctx) routes)
  unfolding claim_switch claim_undo
  switch_phase n =
      phase_sends (more (publish_phase (n + 1)) (omega arith))
      (λ code. phase_sends (undone_phase (n + 1 + 1) code) (λ later. phase_ends broken (λ e. absurd cc)))

  resume_phase : (n code : ℕ) → Phase a ctx routes o (length a.old) n (claim_resume a code (claim_context a ctx) routes)
  unfolding claim_resume answer_of or_code is_unanswered
  resume_phase n code =
      let c : Course Sweep = resume_stopped_endpoints (claim_context a ctx) (queue_dcis a.old) in
      let l : length (queue_dcis a.old) ≡ length a.old = length_dcis a.old in
      phase_then 0 (length a.old) n c _
      (phase_ends
      (go (result o n c).sent (omega (arith, active_resume o (claim_context a ctx) (queue_dcis a.old) n)))
      (λ e. sweep_uncut (claim_context a ctx) o n c (resume_uncut (claim_context a ctx) (queue_dcis a.old)) (only (result o n c).sent e)))
      (omega (arith, words_length_resume o (claim_context a ctx) (queue_dcis a.old) n))
    where
      go : {active : ℕ} (s : Sent) → active ≤ length a.old →
          ClaimEnd a ctx routes (settings_marked (answer_of (or_code code s)) active (is_unanswered s) (claim_context a ctx) routes)
      go sent.Done h = configure_failed h
      go (sent.Failed later) h = configure_failed h
      go sent.Cut h = cut h

      only : (s : Sent) → answer_of (or_code code s) ≡ answer.Cut → s ≡ sent.Cut
      only sent.Done e = absurd cc
      only (sent.Failed later) e = absurd cc
      only sent.Cut e = refl

  configure_phase : (n : ℕ) → Phase a ctx routes o (max (length a.old) 3 + 1) n (claim_configure a ctx routes)
  unfolding claim_configure
  configure_phase n =
      more
      (phase_sends {m = max (length a.old) 3} (more (switch_phase (n + 1)) (omega arith))
      (λ code. more (resume_phase (n + 1) code) (omega arith)))
      (omega arith)

  claim_phase : (n : ℕ) → Phase a ctx routes o (length a.old + max (length a.old) 3 + 1) n (claim_course a ctx routes)
  unfolding claim_course
  claim_phase n =
      let dcis : List ℕ = queue_dcis a.old in
      let r : Sweep = result o n (stop_endpoints ctx dcis) in
      let k : ℕ = length (words o n (stop_endpoints ctx dcis)) in
      let l : length dcis ≡ length a.old = length_dcis a.old in
      let h : k ≤ 2 * length dcis = words_length_stop o ctx dcis n in
      let p =
      on_sent_lem (λ (c : Course End). (m : ℕ) × Phase a ctx routes o m (n + k) c × (k + m ≤ length a.old + max (length a.old) 3 + 1)) r.sent _ _ _
      (λ e. (max (length a.old) 3 + 1, configure_phase (n + k), omega (arith, stop_done o ctx dcis n e)))
      (λ code e. (0, phase_ends stop_failed (λ (e : answer.Failed code ≡ answer.Cut). absurd cc), omega arith))
      (λ e. (
        0,
        phase_ends (cut {active = r.active} (omega (arith, active_stop o ctx dcis n)))
            (λ f. sweep_uncut ctx o n (stop_endpoints ctx dcis) (stop_uncut ctx dcis) e),
        omega arith,
      )) in
      phase_then p.0 (length a.old + max (length a.old) 3 + 1) n (stop_endpoints ctx dcis) _ p.1 p.2

  -- how a claim ends
  pub claim_ends : (n : ℕ) → ClaimEnd a ctx routes (result o n (claim_course a ctx routes))
  claim_ends n = (claim_phase n).end

  -- it logs at most 63 words
  pub claim_words : (n : ℕ) → length a.old ≤ 30 → length (words o n (claim_course a ctx routes)) ≤ 63
  claim_words n h = omega (arith, (claim_phase n).few)

  -- it is cut only where the outcomes are used up
  pub claim_used : (n : ℕ) → (result o n (claim_course a ctx routes)).answer ≡ answer.Cut →
      length o < n + length (words o n (claim_course a ctx routes))
  claim_used n = (claim_phase n).used

  -- it is accepted, fails, breaks or is cut
  pub claim_answers : (n : ℕ) →
      ((result o n (claim_course a ctx routes)).answer ≡ answer.Accepted) ⊎ Refused (result o n (claim_course a ctx routes)).answer
  claim_answers n = (claimed a ctx routes _ (claim_ends n)).answers

  -- it moves routes exactly if it is accepted
  pub claim_moved : (n : ℕ) → Moved a routes (result o n (claim_course a ctx routes))
  claim_moved n = (claimed a ctx routes _ (claim_ends n)).moved

  -- it reports no more active endpoints than there are old ones
  pub claim_active : (n : ℕ) → (result o n (claim_course a ctx routes)).active ≤ length a.old
  claim_active n = (claimed a ctx routes _ (claim_ends n)).few_active

  -- after a failed stop all of them
  pub stop_failed_end : (n code : ℕ) → (result o n (stop_endpoints ctx (queue_dcis a.old))).sent ≡ sent.Failed code →
      result o n (claim_course a ctx routes) ≡ settings_kept (answer.Failed code) (length a.old) ctx routes
  unfolding claim_course on_sent result
  stop_failed_end n code e = rw (result_then, e)

  -- where the stops and the Configure are done, it goes on with the SetInterface
  claim_configured : (n : ℕ) → (result o n (stop_endpoints ctx (queue_dcis a.old))).sent ≡ sent.Done →
      outcome_at o (n + length a.old) ≡ sent.Done →
      result o n (claim_course a ctx routes) ≡ result o (n + length a.old + 1) (claim_switch a (claim_context a ctx) routes)
  unfolding claim_course claim_configure on_sent
  claim_configured n e d =
      let l : length (words o n (stop_endpoints ctx (queue_dcis a.old))) ≡ length a.old =
      stop_done o ctx (queue_dcis a.old) n e ∙ length_dcis a.old in
      rw (result_then, e, l) (result_sends o (n + length a.old) _ _ _ sent.Done d)

  undo_end : (n code later : ℕ) (at : List ℕ) → (result o n (claim_undo a code at routes)).answer ≡ answer.Failed later →
      result o n (claim_undo a code at routes) ≡ settings_kept (answer.Failed code) (length a.old) (undo_context a at) routes
  unfolding claim_undo claim_undone claim_switch_back result
  undo_end n code later at =
      on_sent_lem (P (n + 1)) (outcome_at o n) _ _ _ (λ e. go (is_some a.args.held_alternate)) (λ c e f. absurd cc) (λ e f. absurd cc)
    where
      P : ℕ → Course End → Type 0
      P k c = (result o k c).answer ≡ answer.Failed later →
          result o k c ≡ settings_kept (answer.Failed code) (length a.old) (undo_context a at) routes

      go : (held : Bool) → P (n + 1) (cond held (claim_switch_back a code (undo_context a at) routes) (ends (settings_kept (answer.Failed code) (length a.old) (undo_context a at) routes)))
      go true = on_sent_lem (P (n + 1 + 1)) (outcome_at o (n + 1)) _ _ _ (λ e f. refl) (λ c e f. absurd cc) (λ e f. absurd cc)
      go false = λ e. refl

  -- and after a failed SetInterface, if that is undone
  pub undone_end : (n code later : ℕ) → (result o n (stop_endpoints ctx (queue_dcis a.old))).sent ≡ sent.Done →
      outcome_at o (n + length a.old) ≡ sent.Done → outcome_at o (n + length a.old + 1) ≡ sent.Failed code →
      (result o n (claim_course a ctx routes)).answer ≡ answer.Failed later →
      result o n (claim_course a ctx routes) ≡
      settings_kept (answer.Failed code) (length a.old) (undo_context a (claim_context a ctx)) routes
  unfolding claim_switch on_sent
  undone_end n code later e d f h =
      let m : ℕ = n + length a.old + 1 in
      let p = claim_configured n e d ∙ result_sends o m _ _ _ (sent.Failed code) f in
      p ∙ undo_end (m + 1) code later (claim_context a ctx) (rw p at h)

  publish_done : (n : ℕ) (at : List ℕ) → replaced routes a.args.slot.0 a.old a.pending ≡ Ok tt →
      result o n (claim_publish a at routes) ≡
      settings_moved answer.Accepted at (with_replaced routes a.args.slot.0 a.old a.pending)
  unfolding claim_publish published result
  publish_done n at r = rw r

  -- with every outcome done and routes that allow it, it is accepted
  pub claim_accepted : (n : ℕ) → AllDone o n (length a.old + 2) →
      replaced routes a.args.slot.0 a.old a.pending ≡ Ok tt →
      result o n (claim_course a ctx routes) ≡
      settings_moved answer.Accepted (claim_context a ctx) (with_replaced routes a.args.slot.0 a.old a.pending)
  unfolding claim_switch stop_endpoints on_sent
  claim_accepted n h r =
      let m : ℕ = length a.old in
      let l : length (queue_dcis a.old) ≡ m = length_dcis a.old in
      let s = stop_all_done o ctx (queue_dcis a.old) n (λ i b t. h i b (omega arith)) in
      let p = claim_configured n s (h (n + m) (omega arith) (omega arith)) in
      let q = result_sends o (n + m + 1) _ _ _ sent.Done (h (n + m + 1) (omega arith) (omega arith)) in
      p ∙ q ∙ publish_done (n + m + 1 + 1) (claim_context a ctx) r

  -- it breaks only after a Configure was sent
  pub claim_broken : (n : ℕ) → (result o n (claim_course a ctx routes)).answer ≡ answer.InterfaceBroken →
      (i : ℕ) × (i < length (words o n (claim_course a ctx routes))) ×
      (get_or (words o n (claim_course a ctx routes)) i 0 ≡ command_word command.Configure)
  unfolding claim_course claim_configure words result
  claim_broken n =
      let dcis : List ℕ = queue_dcis a.old in
      let ws : List ℕ = words o n (stop_endpoints ctx dcis) in
      rw (words_then, result_then)
      (on_sent_lem
      (λ (c : Course End). (result o (n + length ws) c).answer ≡ answer.InterfaceBroken →
      (i : ℕ) × (i < length (ws ++ words o (n + length ws) c)) ×
      (get_or (ws ++ words o (n + length ws) c) i 0 ≡ command_word command.Configure))
      (result o n (stop_endpoints ctx dcis)).sent _ _ _
      (λ e b. (length ws, simp length-append (omega arith), get_or-append_seam ws _ _ 0))
      (λ code e b. absurd cc)
      (λ e b. absurd cc))

-- A cut leaves a claim with the context of the command that was cut; the answer is Cut.
module _ (a : Claim) (routes : List ℕ) (P : List ℕ → End → Type 0)
    (p : (at : List ℕ) (active : ℕ) (doubted : Bool) → P at (settings_marked answer.Cut active doubted at routes)) where
  cuts_sends : (c : Command) (at : List ℕ) (done : Course End) (failed : ℕ → Course End) → CutsTo P done →
      ((code : ℕ) → CutsTo P (failed code)) →
      CutsTo P (sends c at (λ s. on_sent s done failed (ends (settings_doubted answer.Cut at routes))))
  unfolding CutsTo EndsWith on_sent
  cuts_sends c at done failed d f =
      (p at 0 true, each_outcome (CutsTo P) done failed _ d f tt)

  cuts_ends : (e : End) → CutsTo P (ends e)
  unfolding CutsTo
  cuts_ends e = tt

  undone_cuts : (code : ℕ) (ctx : List ℕ) → CutsTo P (claim_undone a code ctx routes)
  unfolding claim_undone claim_switch_back
  undone_cuts code ctx = go (is_some a.args.held_alternate)
    where
      go : (held : Bool) → CutsTo P (cond held (claim_switch_back a code ctx routes) (ends (settings_kept (answer.Failed code) (length a.old) ctx routes)))
      go true = cuts_sends _ ctx _ _ (cuts_ends _) (λ later. cuts_ends _)
      go false = cuts_ends _

  switch_cuts : (ctx : List ℕ) → CutsTo P (claim_switch a ctx routes)
  unfolding claim_switch claim_publish claim_undo
  switch_cuts ctx =
      cuts_sends _ ctx _ _ (cuts_ends _)
      (λ code. cuts_sends _ (undo_context a ctx) _ _ (undone_cuts code (undo_context a ctx)) (λ later. cuts_ends _))

  sweep_cuts : (ctx : List ℕ) (c : Course Sweep) (f : Sweep → Course End) → CutsTo (CutSweep ctx) c →
      ((r : Sweep) → r.sent ≡ sent.Cut → EndsWith (P ctx) (f r)) → ((r : Sweep) → CutsTo P (f r)) → CutsTo P (then c f)
  sweep_cuts ctx c f t h g = cuts_then (CutSweep ctx) P c f t (λ at r q. rw q.0 at (h r q.1)) g

  claim_cuts_to : (ctx : List ℕ) → CutsTo P (claim_course a ctx routes)
  unfolding claim_course claim_configure claim_resume EndsWith answer_of or_code is_unanswered on_sent
  claim_cuts_to ctx =
      let next : List ℕ = claim_context a ctx in
      sweep_cuts ctx _ _ (stop_cuts ctx (queue_dcis a.old)) (λ r e. rw e (p ctx r.active false))
      (λ r.
      on_sent_lem (CutsTo P) r.sent _ _ _
      (λ e.
      cuts_sends _ next _ _ (switch_cuts next)
      (λ code. sweep_cuts next _ _ (resume_cuts next (queue_dcis a.old)) (λ r e. rw e (p next r.active true)) (λ r. cuts_ends _)))
      (λ code e. cuts_ends _)
      (λ e. cuts_ends _))

module _ (a : Claim) (ctx routes : List ℕ) where
  -- a cut leaves a claim with the context of the command that was cut
  pub claim_cuts : CutEnds (λ (e : End). e.ctx) (claim_course a ctx routes)
  claim_cuts = claim_cuts_to a routes (λ at e. e.ctx ≡ at) (λ at active doubted. refl) ctx

  -- where it wants an outcome more than there are, it is cut
  pub claim_cut : (o : List ℕ) (n : ℕ) → n ≤ length o → length o < n + length (words o n (claim_course a ctx routes)) →
      (result o n (claim_course a ctx routes)).answer ≡ answer.Cut
  claim_cut o n =
      cut_last (λ at e. e.answer ≡ answer.Cut) o n (claim_course a ctx routes)
      (claim_cuts_to a routes (λ at e. e.answer ≡ answer.Cut) (λ at active doubted. refl) ctx)
