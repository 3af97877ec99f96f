-- What a call's outcomes, log and context say of it: of every call.
use Rattle.std.proofs.Common.{Ok, Err}
use Prim.Native.Nat.{ℕ, ◌+◌, ◌≤◌, ◌<◌}
use mathlib.Core.Path.{◌≡◌, refl, sym, ◌∙◌, ap}
use mathlib.Core.Bool.{Bool, true, false, cond}
use mathlib.Core.List.{List}
use native.Mathlib.Omega.{arith}
use borrow.Author.Tests.{ltb-true, eqb-true}
use lib.Dec.{eqb, ltb}
use lib.ListN.{length, get_or}
use Rattle.laws.proofs.Tests.{not_both}
use Rattle.answer.specs.declared.Answer.{Answer}
use Rattle.answer.specs.declared.Answer.TheVariants as answer
use Rattle.answer.specs.Check.{Check, Pass}
use Rattle.answer.specs.Answer.{number, is_accepted}
use Rattle.command.specs.declared.Sent.TheVariants.{Done, Failed, Cut}
use Rattle.command.specs.Command.{outcome_at}
use Rattle.command.specs.Course.{Course, Played, words, played, context_at}
use Rattle.command.proofs.Cuts.{done_cut, failed_done}
use Rattle.command.proofs.Laws.{log_length, log_kept, log_word}
use Rattle.transfer.specs.Routes.{with_route}
use Rattle.context.specs.Place.{spacing_of}
use Rattle.record_endpoint.specs.EndpointMap.{queues_of, queue_dcis}
use Rattle.course_steps.specs.End.{End}
use Rattle.course_claim.specs.Claim.{claim_course}
use Rattle.course_release.specs.Release.{release_course}
use Rattle.course_set_configuration.specs.SetConfiguration.{set_course}
use Rattle.course_disconnect.specs.Disconnect.{disconnect_course}
use Rattle.course_init.specs.Reading.{control_ring, Brought}
use Rattle.device.specs.declared.record.Device.{Device}
use Rattle.device.specs.Device.{endpoint_map_in, no_device}
use Rattle.device.specs.Left.{Left, refused, ended}
use Rattle.device.specs.Calls.{on_check, hub_context, hub_course, hub_left, hub_update}
use Rattle.device.specs.Check.{record_check, disconnect_check, hub_check}
use Rattle.device.specs.Ask.{ask_check, current_check, commit}
use Rattle.device.specs.Claim.{claim_check, drawn, claim_in, claim}
use Rattle.device.specs.Disconnect.{disconnect}
use Rattle.device.specs.Release.{release_check, release_in, release}
use Rattle.device.specs.SetConfiguration.{settings_in, set_configuration}
use Rattle.device.proofs.Laws.{passed}
use Rattle.device.proofs.Disconnected.{up_passed}
use Rattle.device_bring_up.specs.BringUp.{queue_check, bring_up_check, bring_up_course, brought_left, bring_up}
use Rattle.device_bring_up.proofs.Checks as brought-checks
use Rattle.theorem_slot.specs.Call.{Buffers, Asked, brings_up, claims, commits, releases, configures, updates_hub, disconnects, Call, left}
use Rattle.theorem_slot.specs.Answers.{is_refused, command_context}
use Rattle.theorem_slot.proofs.Contexts.{contexts_agree}
use Rattle.theorem_slot.proofs.Few.{few_words}
use Rattle.theorem_slot.proofs.Step.{MildCheck, refused_mild, accepted_not, mild_claim, mild_commit, commit_passed, mild_release, mild_set, mild_hub, mild_disconnect, mild_bring_up}
use Rattle.theorem_calls.specs.Commands.{is_unplugging, AllDone, AcceptedDone, LogKept, LogLeft, reads_context, ContextRead, ContextLeft}
use Rattle.theorem_calls.proofs.Called.{claim_strict, release_strict, set_strict, hub_strict, bring_up_strict}
use Rattle.theorem_calls.proofs.Courses.{Strict, strict_done, Steady, steady_none, steady_last}
use Rattle.theorem_calls.proofs.Steadily.{context_in, claim_steady, release_steady, set_steady, disconnect_steady, hub_steady, brought_context, bring_up_steady}

-- A done outcome is there, and 0.
done_byte : (o : List ℕ) (k : ℕ) → outcome_at o k ≡ Done → (k < length o) × (get_or o k 0 ≡ 0)
unfolding outcome_at
done_byte o k e = go (ltb k (length o)) (eqb (get_or o k 0) 0) refl refl e
  where
    go :
        (there zero : Bool) → ltb k (length o) ≡ there → eqb (get_or o k 0) 0 ≡ zero →
        cond there (cond zero Done (Failed (get_or o k 0))) Cut ≡ Done → (k < length o) × (get_or o k 0 ≡ 0)
    go true true t z e = (ltb-true k (length o) t, eqb-true (get_or o k 0) 0 z)
    go true false t z e = failed_done e
    go false zero t z e = done_cut (sym e)

pub record Says (asked : Asked) (b : Buffers) (d : Device) (routes : List ℕ) (l : Left) : Type 0 where
  pub done : is_unplugging asked ≡ false → l.answer ≡ answer.Accepted → AllDone b.outcomes l.count
  pub log : LogKept b.log l
  pub context : ContextRead b.ctx (command_context asked b d routes) l

refused_says :
    (asked : Asked) (b : Buffers) (d e : Device) (routes : List ℕ) (a : Answer) → is_refused a ≡ true →
    Says asked b d routes (refused e a b.ctx routes b.log)
unfolding refused
refused_says asked b d e routes a r =
    record {
      done = λ u x. absurd (accepted_not (refused_mild a r).0 x);
      log = record { long = refl; past = λ k h. refl };
      context = record { none = λ h. refl; last = λ i h. absurd (omega arith) };
    }

module _ {A : Type 0} (asked : Asked) (b : Buffers) (d : Device) (routes : List ℕ) (answer_in : A → Answer) (at_end : A → List ℕ)
    (c : Course A) (l : Left) where
  abbrev p : Played A
  p = played b.outcomes 0 c b.log

  abbrev ws : List ℕ
  ws = words b.outcomes 0 c

  module _ (answers : l.answer ≡ answer_in p.end) (counts : l.count ≡ p.count) (logs : l.log ≡ p.log) (contexts : l.ctx ≡ at_end p.end)
      (steady : Steady at_end b.ctx c) (strict : is_unplugging asked ≡ false → Strict (λ a. is_accepted (answer_in a) ≡ false) c)
      (same : (i : ℕ) → i < l.count → command_context asked b d routes i ≡ context_at b.outcomes 0 i c) (few : l.count ≤ length b.log) where
    many : l.count ≡ length ws
    unfolding played
    many = omega (arith, counts)

    word : (k : ℕ) → k < l.count → get_or l.log k 0 ≡ get_or ws k 0
    word k h =
        let z : 0 + k ≡ k = omega arith in
        ap (λ x. get_or x k 0) logs ∙ (rw z at (log_word b.outcomes 0 c b.log k (omega (arith, many)) (omega (arith, many))))

    reads : (k : ℕ) → k < l.count → reads_context (get_or l.log k 0) ≡ false → reads_context (get_or ws k 0) ≡ false
    reads k h e = ap reads_context (sym (word k h)) ∙ e

    ran_done : is_unplugging asked ≡ false → l.answer ≡ answer.Accepted → AllDone b.outcomes l.count
    unfolding played number
    ran_done u e k h =
        done_byte b.outcomes k
        (strict_done (λ a. is_accepted (answer_in a) ≡ false) b.outcomes 0 c (strict u)
        (λ n. accepted_not n (sym answers ∙ e)) k (omega arith) (omega (arith, many)))

    pub ran_says : Says asked b d routes l
    unfolding played
    ran_says =
        record {
          done = ran_done;
          log =
              record {
                long = ap length logs ∙ log_length b.outcomes 0 c b.log;
                past = λ k h. ap (λ x. get_or x k 0) logs ∙ log_kept b.outcomes 0 c b.log k (omega (arith, counts));
              };
          context =
              record {
                none = λ h. contexts ∙ steady_none at_end b.outcomes 0 b.ctx c steady (λ k m. let y : k < l.count = omega (arith, many) in reads k y (h k y));
                last = λ i h r g.
                    contexts
                    ∙ steady_last at_end b.outcomes 0 b.ctx c steady i (omega (arith, many))
                    (λ k m n. let y : k < l.count = omega (arith, many) in reads k y (g k m y))
                    ∙ sym (same i h);
              };
        }

-- By what its check answers.
checked_says :
    (asked : Asked) (b : Buffers) (d e : Device) (routes : List ℕ) (k : Check) (run : Left) → MildCheck k →
    (on_check k run (λ a. refused e a b.ctx routes b.log)).count ≤ 63 → (k ≡ Pass → 64 ≤ length b.log) →
    (run.count ≤ length b.log → Says asked b d routes run) → Says asked b d routes (on_check k run (λ a. refused e a b.ctx routes b.log))
unfolding MildCheck on_check
checked_says asked b d e routes (Ok _) run m few room h = let r = room refl in h (omega (arith, few, r))
checked_says asked b d e routes (Err a) run m few room h = refused_says asked b d e routes a m

module _ (b : Buffers) (d : Device) (routes : List ℕ) where
  abbrev o : List ℕ
  o = b.outcomes

  call : Asked → Call
  call a = record { asked = a; buffers = b }

  each : (a : Asked) → Says a b d routes (left a b d routes)
  unfolding call left command_context is_unplugging claim commit release set_configuration hub_update disconnect bring_up ended hub_left brought_left bring_up_course bring_up_check played
  each (brings_up a) =
      let spacing = spacing_of (length b.ctx) in
      let next = with_route routes a.slot 1 (control_ring a) in
      checked_says (brings_up a) b d no_device routes (bring_up_check a (length b.ctx) routes (length b.log)) _
      (mild_bring_up a (length b.ctx) routes (length b.log)) (few_words (call (brings_up a)) d routes)
      (λ e. (brought-checks.passed a (length b.ctx) (length routes) (length b.log) (queue_check a routes) e).0.room)
      (λ f. ran_says (brings_up a) b d routes (λ (x : Brought). x.answer) brought_context (bring_up_course a spacing b.ctx routes) _ refl refl refl refl
      (bring_up_steady a spacing next b.ctx) (λ u. bring_up_strict a spacing next b.ctx) (λ i h. refl) f)
  each (claims i a) =
      checked_says (claims i a) b d d routes (record_check d (length b.ctx) (length routes) (length b.log) (claim_check d i a Pass)) _
      (mild_claim d _ _ _ i a) (few_words (call (claims i a)) d routes) (λ e. (passed d _ _ _ _ e).0.room)
      (λ f. ran_says (claims i a) b d routes (λ (x : End). x.answer) context_in (claim_course (claim_in d i a (drawn d i a)) b.ctx routes) _ refl refl refl refl
      (claim_steady (claim_in d i a (drawn d i a)) routes b.ctx) (λ u. claim_strict (claim_in d i a (drawn d i a)) routes b.ctx) (λ i h. refl) f)
  each (commits p) =
      let i = p.interface in
      let a = p.alternate in
      checked_says (commits p) b d d routes (ask_check d (length b.ctx) (length routes) (length b.log) i a (current_check d p)) _
      (mild_commit d _ _ _ p) (few_words (call (commits p)) d routes) (λ e. (passed d _ _ _ _ (commit_passed d _ _ _ p e)).0.room)
      (λ f. ran_says (commits p) b d routes (λ (x : End). x.answer) context_in (claim_course (claim_in d i a (drawn d i a)) b.ctx routes) _ refl refl refl refl
      (claim_steady (claim_in d i a (drawn d i a)) routes b.ctx) (λ u. claim_strict (claim_in d i a (drawn d i a)) routes b.ctx) (λ i h. refl) f)
  each (releases i) =
      checked_says (releases i) b d d routes (record_check d (length b.ctx) (length routes) (length b.log) (release_check d i)) _
      (mild_release d _ _ _ i) (few_words (call (releases i)) d routes) (λ e. (passed d _ _ _ _ e).0.room)
      (λ f. ran_says (releases i) b d routes (λ (x : End). x.answer) context_in (release_course (release_in d i) b.ctx routes) _ refl refl refl refl
      (release_steady (release_in d i) routes b.ctx) (λ u. release_strict (release_in d i) routes b.ctx) (λ i h. refl) f)
  each (configures value) =
      checked_says (configures value) b d d routes (record_check d (length b.ctx) (length routes) (length b.log) Pass) _
      (mild_set d _ _ _) (few_words (call (configures value)) d routes) (λ e. (passed d _ _ _ _ e).0.room)
      (λ f. ran_says (configures value) b d routes (λ (x : End). x.answer) context_in (set_course (settings_in d value) b.ctx routes) _ refl refl refl refl
      (set_steady (settings_in d value) b.ctx routes) (λ u. set_strict (settings_in d value) b.ctx routes) (λ i h. refl) f)
  each (updates_hub ports multi ns) =
      let ctx = hub_context d ports multi ns b.ctx in
      checked_says (updates_hub ports multi ns) b d d routes (record_check d (length b.ctx) (length routes) (length b.log) (hub_check d ns)) _
      (mild_hub d _ _ _ ns) (few_words (call (updates_hub ports multi ns)) d routes) (λ e. (passed d _ _ _ _ e).0.room)
      (λ f. ran_says (updates_hub ports multi ns) b d routes (λ (x : Answer). x) (λ (x : Answer). ctx) (hub_course ctx) _ refl refl refl refl
      (hub_steady b.ctx ctx) (λ u. hub_strict ctx) (λ i h. refl) f)
  each disconnects =
      let dcis = queue_dcis (queues_of (endpoint_map_in d).rings) in
      checked_says disconnects b d d routes (disconnect_check d (length b.ctx) (length routes) (length b.log)) _
      (mild_disconnect d _ _ _) (few_words (call disconnects) d routes) (λ e. (up_passed d _ _ _ e).room)
      (λ f. ran_says disconnects b d routes (λ (x : End). x.answer) context_in (disconnect_course d.slot.0 dcis b.ctx routes) _ refl refl refl refl
      (disconnect_steady d.slot.0 dcis b.ctx routes) (λ u. not_both true refl u) (λ i h. refl) f)

pub accepted_done : AcceptedDone
accepted_done c d routes u e = (each c.buffers d routes c.asked).done u e

pub log_left : LogLeft
log_left c d routes = (each c.buffers d routes c.asked).log

pub context_left : ContextLeft
context_left c d routes =
    let x = (each c.buffers d routes c.asked).context in
    record { none = x.none; last = λ i h r g. x.last i h r g ∙ sym (contexts_agree c d routes i h) }
