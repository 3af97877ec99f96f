-- A claim: what its course tells the device, and the call.
use Rattle.std.proofs.Common.{Option, Some, None, is_some, Result, Ok, Err, unwrap_or}
use Prim.Native.Nat.{ℕ, ◌≤◌, ◌<◌}
use mathlib.Core.Path.{◌≡◌, refl, sym, ap, ◌∙◌}
use mathlib.Core.Bool.{Bool, true, false, cond}
use mathlib.Core.List.{List, [], ◌∷◌, ◌++◌}
use mathlib.Core.Logic.{inl, inr}
use native.Mathlib.Omega.{arith}
use borrow.Author.Tests.{eq-eqb, eqb-true}
use lib.Dec.{eqb}
use lib.ListN.{length, take}
use Rattle.laws.proofs.Tests.{not_both}
use Rattle.laws.proofs.Cases.{Decided, decided, or_left_false, or_right_false}
use Rattle.answer.specs.declared.Answer.{Answer}
use Rattle.answer.specs.declared.Answer.TheVariants as answer
use Rattle.answer.specs.Answer.{number, is_accepted, is_lost}
use Rattle.command.specs.declared.Command.TheVariants as command
use Rattle.command.specs.declared.Sent.{Sent}
use Rattle.command.specs.declared.Sent.TheVariants as sent
use Rattle.command.specs.Course.{Course, ends, words, result, played}
use Rattle.command.specs.Sweep.{or_code}
use Rattle.command.proofs.Cuts.{on_sent_lem}
use Rattle.command.proofs.Operations.{ByteOperands, EachCommand}
use Rattle.record_endpoint.specs.EndpointMap.{owned_rings, queue_dcis}
use Rattle.record_endpoint.specs.declared.endpoint_map.Owner.TheVariants.{Interface}
use Rattle.record_endpoint.proofs.Laws.{queues_fit}
use Rattle.record_settings.specs.Held.{is_held, alternate_of, held_alternate}
use Rattle.record_settings.proofs.Laws.{held_alternate_is}
use Rattle.transfer.specs.declared.RouteError.{RouteError}
use Rattle.transfer.specs.Routes.{replaced}
use Rattle.course_steps.specs.End.{End, settings_kept, settings_marked, settings_doubted, is_unanswered, published, answer_of}
use Rattle.course_claim.specs.Claim.{Claim, claim_context, undo_alternate, undo_context, claim_publish, claim_switch_back, claim_undone, claim_undo, claim_switch, claim_resume, claim_configure, claim_course}
use Rattle.course_claim.proofs.Laws.{claim_words}
use Rattle.course_claim.proofs.Controlled.{claim_operands}
use Rattle.theorem_controller.specs.Controller.{is_done}
use Rattle.device.specs.declared.record.Device.{Device}
use Rattle.device.specs.Device.{endpoint_map_in, held_of, with_endpoints, with_held}
use Rattle.device.specs.Left.{refused, ended}
use Rattle.device.specs.Claim.{drawn, claim_in, claim_record, claim_run, claim}
use Rattle.device.specs.Ask.{asking, commit}
use Rattle.device.proofs.Laws.{Passed, passed}
use Rattle.device.proofs.ClaimLaws.{undone_to}
use Rattle.theorem_slot.specs.Call.{Buffers, claims, commits, left}
use Rattle.theorem_slot.specs.Plain.{Plain, without, setting_of, claimed_setting, holds_interface, effect_of, held_after, anew, seen, observed}
use Rattle.theorem_slot.specs.Theorem.{State, record_after, called}
use Rattle.theorem_slot.proofs.Settings.{pairs, pairs_setting, alternate_byte, has_setting}
use Rattle.theorem_slot.proofs.Made.{byte_dcis}
use Rattle.theorem_slot.proofs.Good.{Live, Stands, usable_live}
use Rattle.theorem_slot.proofs.Step.{mild_claim, mild_commit, commit_passed}
use Rattle.theorem_device_state.specs.DeviceState.{Known, unknown, known, DeviceState, interface_set, device_told}
use Rattle.theorem_device_state.specs.Theorem.{value_read, device_heard, device_called, EachSet}
use Rattle.theorem_device_state.proofs.Heard.{device_step, heard, Hears, hears_result, hears_sends, hears_quiet, stop_then, resume_then}
use Rattle.theorem_device_state.proofs.Kept.{status, configured_same, Agrees, each_same, each_without, each_append, each_alternate, marked_status, marked_usable, quarantines_status, status_either}
use Rattle.theorem_device_state.proofs.Calls.{AgreesCalled, AgreesLeft, checked_agrees, log_told}

module _ (v : Known) (a : Claim) (routes : List ℕ) (u : DeviceState) where
  abbrev interface : ℕ
  interface = a.args.interface

  -- A state that differs from the first at most in the interface's alternate.
  pub record Beside (w : DeviceState) : Type 0 where
    pub others : (j : ℕ) → eqb j interface ≡ false → w.alternates j ≡ u.alternates j
    pub configuration : w.configuration ≡ u.configuration

  -- How it ends.
  pub record Says (r : End) (w : DeviceState) : Type 0 where
    pub beside : Beside w
    -- accepted: the interface has the new alternate
    pub accepted : is_accepted r.answer ≡ true → w.alternates interface ≡ known a.args.alternate
    -- else, where it held one that the device had, it has that
    pub kept :
        is_accepted r.answer ≡ false → is_lost r.answer ≡ false → (old : ℕ) → a.args.held_alternate ≡ Some old →
        u.alternates interface ≡ known old → w.alternates interface ≡ u.alternates interface

  beside_first : Beside u
  beside_first = record { others = λ j n. refl; configuration = refl }

  beside_set : (b : ℕ) (s : Sent) (w : DeviceState) → Beside w → Beside (interface_set interface b s w)
  unfolding interface_set
  beside_set b s w h = record { others = λ j n. rw n (h.others j n); configuration = h.configuration }

  set_here : (b : ℕ) (w : DeviceState) → (interface_set interface b sent.Done w).alternates interface ≡ known b
  unfolding interface_set is_done
  set_here b w = rw (eq-eqb interface interface refl)

  -- ends that are lost
  lost : (x : Answer) (n : ℕ) (b : Bool) (ctx : List ℕ) (w : DeviceState) → Beside w → is_lost x ≡ true → is_accepted x ≡ false →
      Says (settings_marked x n b ctx routes) w
  lost x n b ctx w h e f =
      record {
        beside = h;
        accepted = λ t. not_both (is_accepted x) t f;
        kept = λ t l. not_both (is_lost x) e l;
      }

  broken : (ctx : List ℕ) (w : DeviceState) → Beside w → Says (settings_doubted answer.InterfaceBroken ctx routes) w
  unfolding number
  broken ctx w h = lost answer.InterfaceBroken 0 true ctx w h refl refl

  cut : (n : ℕ) (b : Bool) (ctx : List ℕ) (w : DeviceState) → Beside w → Says (settings_marked answer.Cut n b ctx routes) w
  unfolding number
  cut n b ctx w h = lost answer.Cut n b ctx w h refl refl

  -- ends that failed
  failed : (code n : ℕ) (ctx : List ℕ) (w : DeviceState) → Beside w →
      ((old : ℕ) → a.args.held_alternate ≡ Some old → u.alternates interface ≡ known old → w.alternates interface ≡ u.alternates interface) →
      Says (settings_kept (answer.Failed code) n ctx routes) w
  unfolding number
  failed code n ctx w h k =
      record { beside = h; accepted = λ t. not_both false t refl; kept = λ t l. k }

  -- before a SetInterface
  failed_first : (code n : ℕ) (ctx : List ℕ) → Says (settings_kept (answer.Failed code) n ctx routes) u
  failed_first code n ctx = failed code n ctx u beside_first (λ old t e. refl)

  undone_hears : (w : DeviceState) → Beside w → (code : ℕ) (ctx : List ℕ) → Hears v Says w (claim_undone a code ctx routes)
  unfolding claim_undone claim_switch_back Hears device_step
  undone_hears w h code ctx = go a.args.held_alternate refl
    where
      go : (x : Option ℕ) → a.args.held_alternate ≡ x →
          Hears v Says w
          (cond (is_some x) (claim_switch_back a code ctx routes) (ends (settings_kept (answer.Failed code) (length a.old) ctx routes)))
      go (Some was) e =
          hears_sends v Says w (command.SetInterface interface (undo_alternate a)) ctx _ _ _
          (failed code _ ctx _ (beside_set (undo_alternate a) sent.Done w h) (λ old t o. set_here (undo_alternate a) w ∙ ap (λ x. known (unwrap_or x 0)) t ∙ sym o))
          (λ later. broken ctx _ (beside_set (undo_alternate a) (sent.Failed later) w h))
          (cut 0 true ctx _ (beside_set (undo_alternate a) sent.Cut w h))
      go None e = failed code _ ctx w h (λ old t. absurd cc)

  published_says :
      (r : Result Unit RouteError) (ctx : List ℕ) →
      Says (published r answer.InterfaceBroken true a.args.slot.0 a.old a.pending ctx routes) (interface_set interface a.args.alternate sent.Done u)
  unfolding published number
  published_says (Ok _) ctx =
      record {
        beside = beside_set a.args.alternate sent.Done u beside_first;
        accepted = λ t. set_here a.args.alternate u;
        kept = λ t l. not_both true refl t;
      }
  published_says (Err _) ctx = broken ctx _ (beside_set a.args.alternate sent.Done u beside_first)

  switch_hears : (ctx : List ℕ) → Hears v Says u (claim_switch a ctx routes)
  unfolding claim_switch claim_publish claim_undo Hears device_step
  switch_hears ctx =
      let was : (s : Sent) → Beside (interface_set interface a.args.alternate s u) = λ s. beside_set a.args.alternate s u beside_first in
      hears_sends v Says u (command.SetInterface interface a.args.alternate) ctx _ _ _
      (published_says (replaced routes a.args.slot.0 a.old a.pending) ctx)
      (λ code.
      hears_quiet v Says (interface_set interface a.args.alternate (sent.Failed code) u) command.Configure (λ s w. refl) (undo_context a ctx) _ _ _
      (undone_hears _ (was (sent.Failed code)) code (undo_context a ctx))
      (λ later. broken _ _ (was (sent.Failed code)))
      (cut 0 true _ _ (was (sent.Failed code))))
      (cut 0 true ctx _ (was sent.Cut))

  claim_hears : (ctx : List ℕ) → Hears v Says u (claim_course a ctx routes)
  unfolding claim_course claim_configure claim_resume answer_of or_code is_unanswered Hears device_step
  claim_hears ctx =
      let dcis : List ℕ = queue_dcis a.old in
      let next : List ℕ = claim_context a ctx in
      stop_then v Says u ctx dcis _
      (λ r.
      on_sent_lem (Hears v Says u) r.sent _ _ _
      (λ e.
      hears_quiet v Says u command.Configure (λ s w. refl) next _ _ _ (switch_hears next)
      (λ code. resume_then v Says u next dcis _ (λ r. resumed code r.active next r.sent))
      (cut 0 true next u beside_first))
      (λ code e. failed_first code _ ctx)
      (λ e. cut _ false ctx u beside_first))
    where
      resumed : (code n : ℕ) (ctx : List ℕ) (s : Sent) → Says (settings_marked (answer_of (or_code code s)) n (is_unanswered s) ctx routes) u
      resumed code n ctx sent.Done = failed_first code n ctx
      resumed code n ctx (sent.Failed later) = failed_first later n ctx
      resumed code n ctx sent.Cut = cut n true ctx u beside_first

  pub claim_says : (o : List ℕ) (n : ℕ) (ctx : List ℕ) →
      Says (result o n (claim_course a ctx routes)) (heard v o n (claim_course a ctx routes) u)
  claim_says o n ctx = hears_result v Says o n (claim_course a ctx routes) u (claim_hears ctx)

-- The record keeps its configuration value.
claim_status : (d : Device) (i a : ℕ) (rings : List ℕ) (e : End) → status (claim_record d i a rings e) ≡ status d
unfolding claim_record with_held with_endpoints
claim_status d i a rings e = marked_status e.answer _ ∙ status_either e.moved _ _ _ refl (quarantines_status _ _ _).0

-- The call.
module _ (slot : ℕ) (before : List ℕ) (s : State) (g : Stands slot before s) (buffers : Buffers) (keeps : Bool) (i a : ℕ)
    (byte : i < 256) (byte_new : a < 256) (u : DeviceState) (agrees : Agrees s.plain s.device u) where
  abbrev d : Device
  d = s.device

  abbrev p : Plain
  p = s.plain

  abbrev work : Claim
  work = claim_in s.device i a (drawn s.device i a)

  abbrev o : List ℕ
  o = buffers.outcomes

  abbrev course : Course End
  course = claim_course (claim_in s.device i a (drawn s.device i a)) buffers.ctx s.routes

  abbrev end : End
  end = result buffers.outcomes 0 (claim_course (claim_in s.device i a (drawn s.device i a)) buffers.ctx s.routes)

  module _ (pass : Passed s.device (length buffers.ctx) (length s.routes) (length buffers.log)) where
    l : Live slot d p
    l = usable_live slot before s g pass.usable

    now : DeviceState
    now = heard unknown o 0 course u

    says : Says unknown work s.routes u end now
    unfolding now
    says = claim_says unknown work s.routes u o 0 buffers.ctx

    others : (j : ℕ) → eqb j i ≡ false → now.alternates j ≡ u.alternates j
    unfolding claim_in
    others = says.beside.others

    -- An interface that holds a setting has the alternate that it had.
    same : is_accepted end.answer ≡ false → is_lost end.answer ≡ false → EachSet u p.held → (j : ℕ) → has_setting j p.held ≡ true →
        now.alternates j ≡ u.alternates j
    unfolding claim_in
    same f n e j h = go (decided (eqb j i))
      where
        go : Decided (eqb j i) → now.alternates j ≡ u.alternates j
        go (inr t) = others j t
        go (inl t) =
            let here : j ≡ i = eqb-true j i t in
            let holds : is_held i (pairs p.held) ≡ true = sym (pairs_setting i p.held) ∙ (rw here at h) in
            let old : held_alternate i (held_of d) ≡ Some (alternate_of i (pairs p.held)) =
            ap (held_alternate i) (sym l.held) ∙ held_alternate_is i (pairs p.held) ∙ rw holds refl in
            rw here (says.kept f n (alternate_of i (pairs p.held)) old (each_alternate u i p.held e holds))

    ended_agrees :
        (ws : List ℕ) (contexts : ℕ → List ℕ) →
        Agrees (observed (holds_interface i a) buffers end.answer ws contexts p) (claim_record d i a (drawn s.device i a) end) now
    unfolding observed anew seen held_after claim_in claim_record EachSet claimed_setting setting_of
    ended_agrees ws contexts =
        record {
          alternates = λ up b. go (decided (is_accepted end.answer)) (agrees.alternates up (or_left_false p.broken _ b)) (or_right_false p.broken _ b);
          unbroken = λ up t. rw (agrees.unbroken up pass.usable, (marked_usable end.answer _ t).0);
          configuration = λ up t.
              configured_same d (claim_record d i a (drawn s.device i a) end) u now (claim_status d i a (drawn s.device i a) end)
              says.beside.configuration (agrees.configuration up pass.usable);
        }
      where
        go :
            Decided (is_accepted end.answer) → EachSet u p.held → is_lost end.answer ≡ false →
            EachSet now (cond (is_accepted end.answer) (without i p.held ++ (claimed_setting i a p ∷ [])) p.held)
        go (inl t) e n = rw t (each_append now (without i p.held) _ (each_without i u now p.held others e) (says.accepted t, tt))
        go (inr t) e n = rw t (each_same u now p.held (same t n e) e)

    few : length (words o 0 course) ≤ length buffers.log
    unfolding claim_in
    few = omega (arith, claim_words work buffers.ctx s.routes o 0 (queues_fit (owned_rings (Interface i) (endpoint_map_in d))), pass.room)

    bytes : EachCommand ByteOperands course
    unfolding claim_in
    bytes =
        claim_operands work buffers.ctx s.routes byte byte_new (rw (← l.held, undone_to i (pairs p.held)) (alternate_byte (endpoint_map_in d) i p.held l.fits))
        (byte_dcis (owned_rings (Interface i) (endpoint_map_in d)))

    run_agrees :
        (contexts : ℕ → List ℕ) →
        let run = claim_run d buffers.ctx s.routes buffers.log o i a (drawn s.device i a) in
        AgreesLeft (holds_interface i a) buffers contexts p run (device_told unknown o 0 (take run.count run.log) u)
    unfolding ended now played
    run_agrees contexts = rw (log_told unknown o course buffers.log u few bytes) (ended_agrees _ contexts)

  pub claim_agrees : AgreesCalled s (claims i a) buffers keeps u
  unfolding called device_called device_heard device_told refused record_after value_read effect_of left claim
  claim_agrees =
      checked_agrees (holds_interface i a) buffers _ p d u agrees (λ l. device_told unknown o 0 (take l.count l.log) u) _ _ buffers.ctx s.routes
      buffers.log (mild_claim d _ _ _ i a) (λ a. refl) (λ k. run_agrees (passed d _ _ _ _ k).0 _)

  pub commit_agrees : (drops adds : ℕ) (rings : List ℕ) → AgreesCalled s (commits (asking i a drops adds rings)) buffers keeps u
  unfolding called device_called device_heard device_told refused record_after value_read effect_of left commit
  commit_agrees drops adds rings =
      checked_agrees (holds_interface i a) buffers _ p d u agrees (λ l. device_told unknown o 0 (take l.count l.log) u) _ _ buffers.ctx s.routes
      buffers.log (mild_commit d _ _ _ (asking i a drops adds rings)) (λ a. refl)
      (λ k. run_agrees (passed d _ _ _ _ (commit_passed d _ _ _ (asking i a drops adds rings) k)).0 _)
