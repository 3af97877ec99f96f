-- One call, by what its check answers: what a refusal leaves, and what a course leaves.
use Rattle.std.proofs.Common.{Ok, Err, Option, Some, None}
use Prim.Native.Nat.{ℕ, ◌+◌, ◌*◌, ◌≤◌, ◌<◌}
use mathlib.Core.Path.{◌≡◌, refl, sym, ◌∙◌, ap}
use mathlib.Core.Bool.{Bool, true, false, cond, ◌&&◌, ◌||◌, or-false}
use mathlib.Core.List.{List, []}
use mathlib.Core.Logic.{◌⊎◌, inl, inr, ⊎_elim}
use native.Mathlib.Omega.{arith}
use borrow.Author.Tests.{leb-true, eqb-true, ne_eqb}
use lib.Dec.{eqb, leb}
use lib.ListN.{length, take}
use Rattle.laws.proofs.Tests.{not_both, and_left, and_right}
use Rattle.laws.proofs.Cases.{or_cases, or_none}
use Rattle.answer.specs.declared.Answer.{Answer}
use Rattle.answer.specs.declared.Answer.TheVariants as answer
use Rattle.answer.specs.Check.{Check, Pass, unless}
use Rattle.answer.specs.Answer.{number, is_accepted, is_broken, is_cut, is_lost}
use Rattle.hub.specs.ThinkTime.{think_time}
use Rattle.def.specs.Speed.{HIGH, speed_known}
use Rattle.descriptor_list.specs.Companions.{list_ok, companions_fit}
use Rattle.hub.specs.Chain.{chain_ok}
use Rattle.transfer.specs.Routes.{route_of}
use Rattle.course_init.specs.Reading.{BringUp}
use Rattle.device_bring_up.specs.BringUp.{slot_check, device_check, queue_check, bring_up_check}
use Rattle.descriptor_list.specs.Lookup.{find_endpoints}
use Rattle.record_ring.specs.Store.{given_ok}
use Rattle.record_settings.specs.Held.{is_held, is_found, setting_words}
use Rattle.record_settings.specs.Match.{addresses_free}
use Rattle.device.specs.Device.{list_of, endpoint_map_in, held_of, free_of}
use Rattle.device.specs.Sound.{sound}
use Rattle.command.specs.Course.{Course, words, result, played, CutEnds}
use Rattle.command.proofs.Operations.{ByteOperands, EachCommand}
use Rattle.course_steps.specs.End.{End}
use Rattle.theorem_controller.specs.Controller.{DISABLE, controlled, enabled_after, done_word}
use Rattle.theorem_controller.proofs.Done.{NoneOf}
use Rattle.theorem_controller.proofs.Laws.{control_followed}
use Rattle.theorem_controller.proofs.Followed.{followed, controlled_course}
use Rattle.device.specs.declared.record.Device.{Device}
use Rattle.device.specs.Left.{Left, refused, ended}
use Rattle.record_checks.specs.Think.{is_thought}
use Rattle.device.specs.Check.{check_marked, record_check, disconnect_check, hub_check}
use Rattle.device.specs.Calls.{on_check}
use Rattle.device.specs.Ask.{Ask, ask_of, ask_check, same_ask, current_check}
use Rattle.device.specs.Claim.{claim_check}
use Rattle.device.proofs.Laws.{and_then}
use Rattle.device.proofs.AskLaws.{ask_then}
use Rattle.device.specs.Release.{release_check}
use Rattle.theorem_slot.specs.Call.{Buffers, Call, left, context_cut}
use Rattle.theorem_slot.specs.Answers.{is_refused}
use Rattle.theorem_slot.specs.Plain.{Plain, Effect, begins, holds_interface, ends_one, ends_all, unplugs, nothing, effect_of, held_after, groups_after, anew, seen, observed}
use Rattle.theorem_slot.specs.Theorem.{State}
use Rattle.theorem_slot.proofs.Words.{taken_words}
use Rattle.theorem_slot.proofs.Good.{Upheld}

-- An answer that is neither accepted, broken nor cut.
abbrev pub Mild : Answer → Type 0
Mild a = (is_accepted a ≡ false) × (is_lost a ≡ false)

-- A refusal is one.
pub refused_mild : (a : Answer) → is_refused a ≡ true → Mild a
unfolding is_refused
refused_mild a r = go (or_cases _ _ r)
  where
    n : ℕ
    n = number a

    other : (k : ℕ) → n ≡ k → 15 < k → (eqb n 0 ≡ false) × ((eqb n 14 || eqb n 15) ≡ false)
    other k e h = (ne_eqb n 0 (λ z. omega arith), rw (ne_eqb n 14 (λ z. omega arith), ne_eqb n 15 (λ z. omega arith)) refl)

    go : ((leb 1 n && leb n 12) ≡ true) ⊎ ((eqb n 17 || (eqb n 21 || (eqb n 22 || (eqb n 25 || eqb n 26)))) ≡ true) → (eqb n 0 ≡ false) × ((eqb n 14 || eqb n 15) ≡ false)
    go (inl e) =
        let low = leb-true 1 n (and_left (leb 1 n) (leb n 12) e) in
        let high = leb-true n 12 (and_right (leb 1 n) (leb n 12) e) in
        (ne_eqb n 0 (λ z. omega arith), rw (ne_eqb n 14 (λ z. omega arith), ne_eqb n 15 (λ z. omega arith)) refl)
    go (inr e) =
        ⊎_elim (λ s. other 17 (eqb-true n 17 s) (omega arith))
        (λ t.
        ⊎_elim (λ s. other 21 (eqb-true n 21 s) (omega arith))
        (λ u.
        ⊎_elim (λ s. other 22 (eqb-true n 22 s) (omega arith))
        (λ v. ⊎_elim (λ s. other 25 (eqb-true n 25 s) (omega arith)) (λ s. other 26 (eqb-true n 26 s) (omega arith)) (or_cases (eqb n 25) (eqb n 26) v))
        (or_cases (eqb n 22) (eqb n 25 || eqb n 26) u))
        (or_cases (eqb n 21) (eqb n 22 || (eqb n 25 || eqb n 26)) t))
        (or_cases (eqb n 17) (eqb n 21 || (eqb n 22 || (eqb n 25 || eqb n 26))) e)

-- What the numbers of answers rule out.
pub accepted_not : {x : Answer} → is_accepted x ≡ false → x ≡ answer.Accepted → ⊥
unfolding number
accepted_not {x} n e = not_both (is_accepted x) (rw e refl) n

pub lost_not : {P : Type 0} (x : Answer) → is_lost x ≡ true → is_lost x ≡ false → P
lost_not x t f = not_both (is_lost x) t f

-- A check that refuses with refusals only.
unfoldable pub MildCheck : Check → Type 0
MildCheck (Ok _) = Unit {0}
MildCheck (Err a) = is_refused a ≡ true

-- What holds of a call that runs after its checks, and of each refusal, holds of the call.
pub on_mild :
    (P : Left → Type 0) (k : Check) (run : Left) (refuse : Answer → Left) → MildCheck k → (k ≡ Pass → P run) →
    ((a : Answer) → is_refused a ≡ true → P (refuse a)) → P (on_check k run refuse)
unfolding MildCheck on_check
on_mild P (Ok _) run refuse m p q = p refl
on_mild P (Err a) run refuse m p q = q a m

mild_unless : (b : Bool) (a : Answer) (next : Check) → is_refused a ≡ true → MildCheck next → MildCheck (unless b a next)
unfolding MildCheck
mild_unless true a next m n = n
mild_unless false a next m n = m

mild_pass : MildCheck Pass
unfolding MildCheck
mild_pass = tt

mild_marked : (mark : Bool) (d : Device) (ctx routes log : ℕ) (next : Check) → MildCheck next → MildCheck (check_marked mark d ctx routes log next)
unfolding check_marked number is_refused
mild_marked mark d ctx routes log next n =
    mild_unless (mark && sound d) answer.Unusable _ refl
    (mild_unless (eqb ctx (33 * d.spacing)) answer.ContextLength _ refl
    (mild_unless (eqb routes (32 * (d.max_slots + 1))) answer.RoutesLength _ refl
    (mild_unless (leb 64 log) answer.LogTooShort _ refl n)))

mild_record : (d : Device) (ctx routes log : ℕ) (next : Check) → MildCheck next → MildCheck (record_check d ctx routes log next)
unfolding record_check
mild_record d ctx routes log next n = mild_marked d.usable d ctx routes log next n

pub mild_disconnect : (d : Device) (ctx routes log : ℕ) → MildCheck (disconnect_check d ctx routes log)
unfolding disconnect_check
mild_disconnect d ctx routes log = mild_marked d.up d ctx routes log Pass mild_pass

mild_thought : (t : Option ℕ) → MildCheck (is_thought t)
unfolding is_thought MildCheck number is_refused
mild_thought (Some v) = tt
mild_thought None = refl

pub mild_hub : (d : Device) (ctx routes log ns : ℕ) → MildCheck (record_check d ctx routes log (hub_check d ns))
unfolding hub_check
mild_hub d ctx routes log ns = mild_record d ctx routes log _ (go (eqb d.port_speed HIGH))
  where
    go : (b : Bool) → MildCheck (cond b (is_thought (think_time ns)) Pass)
    go true = mild_thought (think_time ns)
    go false = mild_pass

mild_draw :
    (d : Device) (ctx routes log i a : ℕ) (next : Check) → MildCheck next → MildCheck (ask_check d ctx routes log i a next)
unfolding ask_check claim_check number is_refused
mild_draw d ctx routes log i a next m =
    let ws = setting_words (list_of d) i a in
    mild_record d ctx routes log _
    (mild_unless (is_found (find_endpoints (list_of d) i a)) answer.NotFound _ refl
    (mild_unless (addresses_free ws i (endpoint_map_in d)) answer.InvalidParameter _ refl
    (mild_unless (leb (length ws) (length (free_of d))) answer.TooFewRings _ refl m)))

pub mild_claim :
    (d : Device) (ctx routes log i a : ℕ) → MildCheck (record_check d ctx routes log (claim_check d i a Pass))
unfolding ask_check
mild_claim d ctx routes log i a = mild_draw d ctx routes log i a Pass mild_pass

pub mild_commit :
    (d : Device) (ctx routes log : ℕ) (p : Ask) → MildCheck (ask_check d ctx routes log p.interface p.alternate (current_check d p))
unfolding current_check number is_refused
mild_commit d ctx routes log p =
    mild_draw d ctx routes log p.interface p.alternate _
    (mild_unless (same_ask p (ask_of d p.interface p.alternate)) answer.OutdatedAsk _ refl mild_pass)

-- A commit that passes its checks passes those of the claim.
pub commit_passed :
    (d : Device) (ctx routes log : ℕ) (p : Ask) → ask_check d ctx routes log p.interface p.alternate (current_check d p) ≡ Pass →
    record_check d ctx routes log (claim_check d p.interface p.alternate Pass) ≡ Pass
unfolding ask_check and_then
commit_passed d ctx routes log p e =
    go (record_check d ctx routes log (claim_check d p.interface p.alternate Pass)) (current_check d p)
    (sym (ask_then d ctx routes log p.interface p.alternate (current_check d p)) ∙ e)
  where
    go : (x next : Check) → and_then x next ≡ Pass → x ≡ Pass
    go (Ok _) next q = refl
    go (Err z) next q = q

pub mild_release :
    (d : Device) (ctx routes log i : ℕ) → MildCheck (record_check d ctx routes log (release_check d i))
unfolding release_check number is_refused
mild_release d ctx routes log i =
    mild_record d ctx routes log _
    (mild_unless (is_held i (held_of d)) answer.NotClaimed _ refl mild_pass)

pub mild_set : (d : Device) (ctx routes log : ℕ) → MildCheck (record_check d ctx routes log Pass)
mild_set d ctx routes log = mild_record d ctx routes log Pass mild_pass

pub mild_bring_up : (a : BringUp) (ctx : ℕ) (routes : List ℕ) (log : ℕ) → MildCheck (bring_up_check a ctx routes log)
unfolding bring_up_check slot_check device_check queue_check number is_refused
mild_bring_up a ctx routes log =
    mild_unless (leb 1 a.slot && (leb a.slot a.max_slots && leb a.max_slots 255)) answer.SlotLimitReached _ refl
    (mild_unless (eqb ctx 1056 || eqb ctx 2112) answer.ContextLength _ refl
    (mild_unless (eqb (length routes) (32 * (a.max_slots + 1))) answer.RoutesLength _ refl
    (mild_unless (leb 64 log) answer.LogTooShort _ refl
    (mild_unless (speed_known a.speed) answer.Speed _ refl
    (mild_unless (list_ok a.speed a.list) answer.DescriptorList _ refl
    (mild_unless (companions_fit a.speed a.list) answer.Companion _ refl
    (mild_unless (chain_ok a.hubs a.parent) answer.HubChain _ refl
    (mild_unless (given_ok a.rings) answer.Rings _ refl
    (mild_unless (eqb (route_of routes a.slot 1) 0) answer.QueueFull Pass refl mild_pass)))))))))

-- A refused call logs nothing, and the plain slot stays.
quiet : Effect → List ℕ → Plain → Bool → Bool → Bool → Plain
quiet effect outcomes p accepted broken cut =
    anew effect accepted outcomes []
    (record {
      phase = p.phase;
      control = p.control;
      list = p.list;
      held = held_after effect accepted outcomes [] p;
      enabled = p.enabled;
      broken = p.broken || (broken || cut);
      groups = groups_after effect accepted broken (broken || cut) outcomes [] p;
    })

quiet_same : (effect : Effect) (outcomes : List ℕ) (p : Plain) → quiet effect outcomes p false false false ≡ p
unfolding quiet anew held_after groups_after done_word
quiet_same (begins a) outcomes p = rw (or-false p.broken) refl
quiet_same (holds_interface i a) outcomes p = rw (or-false p.broken) refl
quiet_same (ends_one i) outcomes p = rw (or-false p.broken) refl
quiet_same (ends_all operation) outcomes p = rw (or-false p.broken) refl
quiet_same unplugs outcomes p = rw (or-false p.broken) refl
quiet_same nothing outcomes p = rw (or-false p.broken) refl

pub observed_refused :
    (effect : Effect) (buffers : Buffers) (a : Answer) (contexts : ℕ → List ℕ) (p : Plain) → Mild a →
    observed effect buffers a [] contexts p ≡ p
unfolding observed seen controlled quiet
observed_refused effect buffers a contexts p m =
    let n = or_none (is_broken a) (is_cut a) m.1 in
    ap (λ x. quiet effect buffers.outcomes p x (is_broken a) (is_cut a)) m.0
    ∙ ap (λ x. quiet effect buffers.outcomes p false x (is_cut a)) n.0
    ∙ ap (quiet effect buffers.outcomes p false false) n.1
    ∙ quiet_same effect buffers.outcomes p

-- The state after a call whose table is the one that the last call left, and whose record is the one that it returned.
unfoldable pub called_here : State → Call → State
called_here s c =
    let l = left c.asked c.buffers s.device s.routes in
    record {
      device = l.device;
      routes = l.routes;
      plain =
          observed (effect_of c.asked) c.buffers l.answer (take l.count l.log)
          (context_cut c s.device s.routes)
          s.plain;
    }

-- The state after a call that checks, and then runs or refuses.
unfoldable pub checked : State → Effect → Buffers → Check → (List ℕ → Left) → (Answer → Left) → State
checked s effect buffers k run refuse =
    let l = on_check k (run buffers.outcomes) refuse in
    record {
      device = l.device;
      routes = l.routes;
      plain =
          observed effect buffers l.answer (take l.count l.log)
          (λ i. (on_check k (run (take i buffers.outcomes)) refuse).ctx)
          s.plain;
    }

module _ (P : State → Type 0) (s : State) (effect : Effect) (buffers : Buffers) (run : List ℕ → Left) where
  -- A call on the record that may be refused with mild answers.
  pub good_checked :
      (ctx log : List ℕ) (k : Check) → MildCheck k → P s →
      (k ≡ Pass → P (checked s effect buffers Pass run (λ a. refused s.device a ctx s.routes log))) →
      P (checked s effect buffers k run (λ a. refused s.device a ctx s.routes log))
  unfolding MildCheck checked on_check refused
  good_checked ctx log (Ok _) m g h = h refl
  good_checked ctx log (Err a) m g h =
      rw (observed_refused effect buffers a (λ i. ctx) s.plain (refused_mild a m)) g

-- The state that the end of a course makes.
unfoldable pub ran : State → Effect → Buffers → (End → Device) → Course End → State
ran s effect buffers made course =
    let r = result buffers.outcomes 0 course in
    record {
      device = made r;
      routes = r.routes;
      plain =
          seen effect buffers r.answer (words buffers.outcomes 0 course)
          (followed enabled_after buffers.outcomes 0 course s.plain.enabled)
          s.plain;
    }

-- It keeps phase, control's ring and control enabled where no Disable is sent.
pub ran_upheld :
    (s : State) (effect : Effect) (buffers : Buffers) (made : End → Device) (course : Course End) → NoneOf DISABLE course →
    Upheld s (ran s effect buffers made course)
unfolding ran seen
ran_upheld s effect buffers made course none =
    record { phase = refl; control = refl; on = control_followed buffers.outcomes 0 course s.plain.enabled none }

-- And that with what the call makes of the slot as a whole.
unfoldable pub ran_anew : State → Effect → Buffers → (End → Device) → Course End → State
ran_anew s effect buffers made course =
    let next = ran s effect buffers made course in
    record {
      device = next.device;
      routes = next.routes;
      plain =
          anew effect (is_accepted (result buffers.outcomes 0 course).answer) buffers.outcomes (words buffers.outcomes 0 course)
          next.plain;
    }

module _ (s : State) (effect : Effect) (buffers : Buffers) (made : End → Device) (course : Course End) (refuse : Answer → Left)
    (room : length (words buffers.outcomes 0 course) ≤ length buffers.log) (cuts : CutEnds (λ (e : End). e.ctx) course)
    (bytes : EachCommand ByteOperands course) where
  -- A call that runs a course leaves that state.
  pub checked_anew :
      checked s effect buffers Pass (λ o. ended made (played o 0 course buffers.log)) refuse ≡ ran_anew s effect buffers made course
  unfolding checked on_check ended ran ran_anew observed seen played
  checked_anew =
      rw (taken_words buffers.outcomes course buffers.log room, controlled_course enabled_after (λ (e : End). e.ctx) buffers.outcomes 0 course s.plain.enabled cuts bytes)
      refl

  -- Without that, where the call makes nothing of it.
  pub checked_ran :
      ((b : Bool) (o ws : List ℕ) (p : Plain) → anew effect b o ws p ≡ p) →
      checked s effect buffers Pass (λ o. ended made (played o 0 course buffers.log)) refuse ≡ ran s effect buffers made course
  unfolding ran ran_anew
  checked_ran same = checked_anew ∙ rw same refl
