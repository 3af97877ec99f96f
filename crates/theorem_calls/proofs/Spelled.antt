-- The whole log of an accepted call.
use Rattle.std.proofs.Common.{Ok, Err}
use Prim.Native.Nat.{ℕ, ◌+◌, ◌≤◌, ◌<◌}
use mathlib.Core.Path.{◌≡◌, refl, sym, ◌∙◌, ap}
use mathlib.Core.Bool.{Bool, true, false, not, cond, ◌&&◌}
use mathlib.Core.List.{List, [], ◌∷◌, ◌++◌}
use mathlib.Core.Logic.{inl, inr}
use native.Mathlib.Omega.{arith}
use lib.Dec.{eqb}
use lib.ListN.{length, take, get_or}
use Rattle.laws.proofs.Cases.{Decided, decided}
use Rattle.laws.proofs.Tests.{not_both}
use Rattle.answer.specs.declared.Answer.{Answer}
use Rattle.answer.specs.declared.Answer.TheVariants as answer
use Rattle.answer.specs.Answer.{number, is_accepted, is_cut}
use Rattle.answer.specs.Check.{Check, Pass}
use Rattle.command.specs.Command.{log_word, command_word}
use Rattle.command.specs.Course.{Course, ends, words, result, played}
use Rattle.command.specs.Sweep.{stop_each}
use Rattle.command.proofs.Done.{outcome_done}
use Rattle.command.proofs.Laws.{words_then, result_then}
use Rattle.command.proofs.Laws as command-laws
use Rattle.command.proofs.Sweeps.{stop_words, stop_each_words}
use Rattle.record_endpoint.specs.declared.endpoint_map.EndpointMap.{EndpointMap}
use Rattle.record_endpoint.specs.declared.endpoint_map.Owner.TheVariants.{Any, Interface}
use Rattle.record_endpoint.specs.EndpointMap.{owns, is_owned, owned_rings, queues_of, queue_dcis}
use Rattle.record_endpoint.proofs.Laws.{owned_zero}
use Rattle.transfer.specs.Routes.{with_route}
use Rattle.context.specs.Place.{spacing_of}
use Rattle.course_steps.specs.End.{End, settings_kept}
use Rattle.course_claim.specs.Claim.{claim_course}
use Rattle.course_release.specs.Release.{release_course}
use Rattle.course_set_configuration.specs.SetConfiguration.{set_course}
use Rattle.course_set_configuration.proofs.Laws.{set_answers, set_moved}
use Rattle.course_disconnect.specs.Disconnect.{disable, disconnect_course}
use Rattle.course_init.specs.Reading.{control_ring, Brought}
use Rattle.device.specs.declared.record.Device.{Device}
use Rattle.device.specs.Device.{endpoint_map_in, no_device}
use Rattle.device.specs.Left.{Left, refused, ended}
use Rattle.device.specs.Calls.{on_check, hub_context, hub_course, hub_left, hub_update}
use Rattle.device.specs.Check.{record_check, disconnect_check, hub_check}
use Rattle.device.specs.Ask.{ask_check, current_check, commit}
use Rattle.device.specs.Claim.{claim_check, drawn, claim_in, claim}
use Rattle.device.specs.Disconnect.{disconnect}
use Rattle.device.specs.Release.{release_check, release_in, release}
use Rattle.device.specs.SetConfiguration.{settings_in, set_configuration}
use Rattle.device.proofs.Laws.{passed}
use Rattle.device.proofs.Disconnected.{up_passed}
use Rattle.device_bring_up.specs.BringUp.{queue_check, bring_up_check, bring_up_course, brought_left, bring_up}
use Rattle.device_bring_up.proofs.Checks as brought-checks
use Rattle.theorem_slot.specs.Call.{Buffers, Asked, brings_up, claims, commits, releases, configures, updates_hub, disconnects, Call, left}
use Rattle.theorem_slot.proofs.Few.{few_words}
use Rattle.theorem_slot.proofs.Step.{MildCheck, refused_mild, accepted_not, mild_claim, mild_commit, commit_passed, mild_release, mild_set, mild_hub, mild_disconnect, mild_bring_up}
use Rattle.theorem_slot.proofs.Words.{taken_words}
use Rattle.theorem_calls.specs.Accepted.{dcis_from, stops, accepted_words, AcceptedLog, LogBegins}
use Rattle.theorem_calls.specs.Commands.{AllDone}
use Rattle.theorem_calls.proofs.Called.{claim_strict, release_strict, set_strict, hub_strict, bring_up_strict}
use Rattle.theorem_calls.proofs.Courses.{Strict}
use Rattle.theorem_calls.proofs.Stays.{accepted_number}
use Rattle.theorem_calls.proofs.Walked.{done_end, done_words, walked, begins, Front, front_all, front_word, claim_words, release_words, set_words, set_front, disconnect_words, stops_spelled, dcis_by_place, bring_up_walks, bring_up_front}

-- The endpoints of the record, or an interface's, as `is_owned` says.
module _ (c : EndpointMap) where
  all_zero : (p : ℕ) → p < 30 → eqb (get_or c.rings p 0) 0 ≡ not (is_owned Any c p)
  unfolding is_owned owns
  all_zero p h = go (eqb (get_or c.rings p 0) 0)
    where
      go : (b : Bool) → b ≡ not (not b && true)
      go true = refl
      go false = refl

  pub all_dcis : queue_dcis (queues_of c.rings) ≡ dcis_from Any c 30 0
  all_dcis = dcis_by_place Any c c.rings all_zero

  pub own_dcis : (i : ℕ) → queue_dcis (queues_of (owned_rings (Interface i) c)) ≡ dcis_from (Interface i) c 30 0
  own_dcis i = dcis_by_place (Interface i) c (owned_rings (Interface i) c) (owned_zero (Interface i) c)

  all_stops : stop_words (queue_dcis (queues_of c.rings)) ≡ stops (dcis_from Any c 30 0)
  all_stops = stops_spelled _ ∙ ap stops all_dcis

  own_stops : (i : ℕ) → stop_words (queue_dcis (queues_of (owned_rings (Interface i) c))) ≡ stops (dcis_from (Interface i) c 30 0)
  own_stops i = stops_spelled _ ∙ ap stops (own_dcis i)

accepted_uncut : (x : Answer) → x ≡ answer.Accepted → is_cut x ≡ false
unfolding number
accepted_uncut x e = rw e refl

-- An unplugging that is not cut.
module _ (slot : ℕ) (dcis ctx routes o : List ℕ) where
  abbrev decides : Bool → Course End
  decides cut = cond cut (ends (settings_kept answer.Cut 0 ctx routes)) (disable slot ctx routes)

  pub unplugging_words :
      is_cut (result o 0 (disconnect_course slot dcis ctx routes)).answer ≡ false →
      words o 0 (disconnect_course slot dcis ctx routes) ≡ stop_words (1 ∷ dcis) ++ (0xC0000000 ∷ [])
  unfolding disconnect_course disable words result command_word number
  unplugging_words e = words_then o 0 (stop_each ctx (1 ∷ dcis)) decides ∙ go (decided (result o 0 (stop_each ctx (1 ∷ dcis)))) (rw result_then at e)
    where
      stops : Course Bool
      stops = stop_each ctx (1 ∷ dcis)

      n : ℕ
      n = 0 + length (words o 0 stops)

      go :
          Decided (result o 0 stops) → is_cut (result o n (decides (result o 0 stops))).answer ≡ false →
          words o 0 stops ++ words o n (decides (result o 0 stops)) ≡ stop_words (1 ∷ dcis) ++ (0xC0000000 ∷ [])
      go (inl t) a = not_both true refl (rw t at a)
      go (inr t) a = rw (t, stop_each_words o ctx (1 ∷ dcis) 0 t) refl

-- What a call's log is, with these words where it is accepted.
record Logs (o log ws : List ℕ) (a : Answer) (count : ℕ) (left : List ℕ) : Type 0 where
  pub accepted : a ≡ answer.Accepted → take count left ≡ ws
  pub begun : (i : ℕ) → i < count → AllDone o i → get_or left i 0 ≡ get_or ws i 0

-- A call that checks, and then leaves what a course leaves.
log_spelled :
    {A : Type 0} (answer_in : A → Answer) (c : Course A) (o log ws : List ℕ) → (played o 0 c log).count ≤ length log →
    (answer_in (result o 0 c) ≡ answer.Accepted → words o 0 c ≡ ws) → Front (done_words c) ws →
    Logs o log ws (answer_in (result o 0 c)) (played o 0 c log).count (played o 0 c log).log
unfolding played
log_spelled answer_in c o log ws few f front =
    record {
      accepted = λ e. taken_words o c log (omega arith) ∙ f e;
      begun = λ i h done.
          let z : 0 + i ≡ i = omega arith in
          let b = begins o 0 c i (omega arith) (λ k l. let y : 0 + k ≡ k = omega arith in let t = done k l in rw y (outcome_done o k t.0 t.1)) in
          (rw z at (command-laws.log_word o 0 c log i (omega arith) (omega arith))) ∙ b.1 ∙ front_word (done_words c) ws front i b.0;
    }

-- One of a strict course.
strictly :
    {A : Type 0} (answer_in : A → Answer) (o : List ℕ) (c : Course A) (ws : List ℕ) → Strict (λ a. is_accepted (answer_in a) ≡ false) c →
    (is_accepted (answer_in (done_end c)) ≡ true → done_words c ≡ ws) → answer_in (result o 0 c) ≡ answer.Accepted → words o 0 c ≡ ws
strictly answer_in o c ws t f e =
    let w = walked (λ a. is_accepted (answer_in a) ≡ false) o 0 c t (λ n. accepted_not n e) in
    w.logged ∙ f (accepted_number _ (ap answer_in (sym w.end) ∙ e))

Spelled : Asked → Buffers → Device → Left → Type 0
Spelled asked b d l = Logs b.outcomes b.log (accepted_words asked d) l.answer l.count l.log

checked_spelled :
    (asked : Asked) (b : Buffers) (d e : Device) (routes : List ℕ) (k : Check) (run : Left) → MildCheck k →
    (on_check k run (λ a. refused e a b.ctx routes b.log)).count ≤ 63 → (k ≡ Pass → 64 ≤ length b.log) →
    (run.count ≤ length b.log → Spelled asked b d run) → Spelled asked b d (on_check k run (λ a. refused e a b.ctx routes b.log))
unfolding Spelled MildCheck on_check refused
checked_spelled asked b d e routes (Ok _) run m few room h = let r = room refl in h (omega (arith, few, r))
checked_spelled asked b d e routes (Err a) run m few room h =
    record { accepted = λ x. absurd (accepted_not (refused_mild a m).0 x); begun = λ i l f. absurd (omega arith) }

module _ (b : Buffers) (d : Device) (routes : List ℕ) where
  call : Asked → Call
  call a = record { asked = a; buffers = b }

  of_end : End → Answer
  of_end e = e.answer

  each : (a : Asked) → Spelled a b d (left a b d routes)
  unfolding Spelled of_end accepted_words call left claim commit release set_configuration hub_update disconnect bring_up ended hub_left brought_left bring_up_course bring_up_check played claim_in release_in settings_in done_words hub_course command_word stop_words
  each (brings_up a) =
      let spacing = spacing_of (length b.ctx) in
      let next = with_route routes a.slot 1 (control_ring a) in
      let course = bring_up_course a spacing b.ctx routes in
      checked_spelled (brings_up a) b d no_device routes (bring_up_check a (length b.ctx) routes (length b.log)) _
      (mild_bring_up a (length b.ctx) routes (length b.log)) (few_words (call (brings_up a)) d routes)
      (λ e. (brought-checks.passed a (length b.ctx) (length routes) (length b.log) (queue_check a routes) e).0.room)
      (λ f.
      log_spelled (λ (x : Brought). x.answer) course b.outcomes b.log _ f
      (strictly (λ (x : Brought). x.answer) b.outcomes course _ (bring_up_strict a spacing next b.ctx) (bring_up_walks a spacing next b.ctx))
      (bring_up_front a spacing next b.ctx))
  each (claims i a) =
      let z = claim_in d i a (drawn d i a) in
      let course = claim_course z b.ctx routes in
      checked_spelled (claims i a) b d d routes (record_check d (length b.ctx) (length routes) (length b.log) (claim_check d i a Pass)) _
      (mild_claim d _ _ _ i a) (few_words (call (claims i a)) d routes) (λ e. (passed d _ _ _ _ e).0.room)
      (λ f.
      let w = claim_words z b.ctx routes ∙ ap (λ ws. ws ++ (0x30000000 ∷ log_word 6 i a ∷ [])) (own_stops (endpoint_map_in d) i) in
      log_spelled (λ (x : End). x.answer) course b.outcomes b.log _ f
      (strictly (λ (x : End). x.answer) b.outcomes course _ (claim_strict z routes b.ctx) (λ e. w)) (front_all _ _ w))
  each (commits p) =
      let i = p.interface in
      let a = p.alternate in
      let z = claim_in d i a (drawn d i a) in
      let course = claim_course z b.ctx routes in
      checked_spelled (commits p) b d d routes (ask_check d (length b.ctx) (length routes) (length b.log) i a (current_check d p)) _
      (mild_commit d _ _ _ p) (few_words (call (commits p)) d routes) (λ e. (passed d _ _ _ _ (commit_passed d _ _ _ p e)).0.room)
      (λ f.
      let w = claim_words z b.ctx routes ∙ ap (λ ws. ws ++ (0x30000000 ∷ log_word 6 i a ∷ [])) (own_stops (endpoint_map_in d) i) in
      log_spelled (λ (x : End). x.answer) course b.outcomes b.log _ f
      (strictly (λ (x : End). x.answer) b.outcomes course _ (claim_strict z routes b.ctx) (λ e. w)) (front_all _ _ w))
  each (releases i) =
      let z = release_in d i in
      let course = release_course z b.ctx routes in
      checked_spelled (releases i) b d d routes (record_check d (length b.ctx) (length routes) (length b.log) (release_check d i)) _
      (mild_release d _ _ _ i) (few_words (call (releases i)) d routes) (λ e. (passed d _ _ _ _ e).0.room)
      (λ f.
      let w = release_words z b.ctx routes ∙ ap (λ ws. ws ++ (0x30000000 ∷ [])) (own_stops (endpoint_map_in d) i) in
      log_spelled (λ (x : End). x.answer) course b.outcomes b.log _ f
      (strictly (λ (x : End). x.answer) b.outcomes course _ (release_strict z routes b.ctx) (λ e. w)) (front_all _ _ w))
  each (configures value) =
      let z = settings_in d value in
      let course = set_course z b.ctx routes in
      let w = set_answers z routes b.outcomes b.ctx 0 in
      let r = set_moved z routes b.outcomes b.ctx 0 in
      checked_spelled (configures value) b d d routes (record_check d (length b.ctx) (length routes) (length b.log) Pass) _
      (mild_set d _ _ _) (few_words (call (configures value)) d routes) (λ e. (passed d _ _ _ _ e).0.room)
      (λ f.
      log_spelled (λ (x : End). x.answer) course b.outcomes b.log _ f
      (λ y.
      strictly (λ (x : End). x.answer) b.outcomes course _ (set_strict z b.ctx routes)
      (λ e.
      set_words z b.ctx routes (r.gone (w.accepted y)).1
      ∙ ap (λ ws. ws ++ (0x30000000 ∷ log_word 7 value 0 ∷ 0x20000000 ∷ [])) (all_stops (endpoint_map_in d)))
      y)
      (rw all_stops at (set_front z b.ctx routes)))
  each (updates_hub ports multi ns) =
      let ctx = hub_context d ports multi ns b.ctx in
      checked_spelled (updates_hub ports multi ns) b d d routes (record_check d (length b.ctx) (length routes) (length b.log) (hub_check d ns)) _
      (mild_hub d _ _ _ ns) (few_words (call (updates_hub ports multi ns)) d routes) (λ e. (passed d _ _ _ _ e).0.room)
      (λ f.
      log_spelled (λ (x : Answer). x) (hub_course ctx) b.outcomes b.log _ f
      (strictly (λ (x : Answer). x) b.outcomes (hub_course ctx) _ (hub_strict ctx) (λ e. refl)) (front_all _ _ refl))
  each disconnects =
      let dcis = queue_dcis (queues_of (endpoint_map_in d).rings) in
      let course = disconnect_course d.slot.0 dcis b.ctx routes in
      checked_spelled disconnects b d d routes (disconnect_check d (length b.ctx) (length routes) (length b.log)) _
      (mild_disconnect d _ _ _) (few_words (call disconnects) d routes) (λ e. (up_passed d _ _ _ e).room)
      (λ f.
      let w = ap (λ ws. 0x40100000 ∷ ws ++ (0xC0000000 ∷ [])) (all_stops (endpoint_map_in d)) in
      log_spelled (λ (x : End). x.answer) course b.outcomes b.log _ f (λ e. unplugging_words d.slot.0 dcis b.ctx routes b.outcomes (accepted_uncut _ e) ∙ w)
      (front_all _ _ (disconnect_words d.slot.0 dcis b.ctx routes ∙ w)))

pub accepted_log : AcceptedLog
unfolding Spelled
accepted_log c d routes e = (each c.buffers d routes c.asked).accepted e

pub log_begins : LogBegins
unfolding Spelled
log_begins c d routes i h f = (each c.buffers d routes c.asked).begun i h f
