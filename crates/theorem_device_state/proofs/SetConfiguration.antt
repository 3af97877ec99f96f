-- A set configuration: what its course tells the device, and the call.
use Rattle.std.proofs.Common.{Ok}
use Prim.Native.Nat.{ℕ, ◌≤◌, ◌<◌}
use mathlib.Core.Path.{◌≡◌, refl, sym, ap, ◌∙◌}
use mathlib.Core.Bool.{Bool, true, false, cond}
use mathlib.Core.List.{List, []}
use mathlib.Core.Logic.{inl, inr}
use native.Mathlib.Omega.{arith}
use lib.ListN.{length, take}
use Rattle.laws.proofs.Tests.{not_both}
use Rattle.laws.proofs.Cases.{Decided, decided, or_left_false, or_right_false}
use Rattle.answer.specs.declared.Answer.TheVariants as answer
use Rattle.answer.specs.Answer.{number, is_accepted, is_lost}
use Rattle.command.specs.declared.Command.TheVariants as command
use Rattle.command.specs.declared.Sent.{Sent}
use Rattle.command.specs.declared.Sent.TheVariants as sent
use Rattle.command.specs.Course.{Course, words, result, played}
use Rattle.command.proofs.Cuts.{on_sent_lem}
use Rattle.command.proofs.Operations.{ByteOperands, EachCommand}
use Rattle.record_endpoint.specs.EndpointMap.{queues_of, queue_dcis}
use Rattle.record_endpoint.proofs.Laws.{queues_fit}
use Rattle.transfer.specs.Routes.{replaced}
use Rattle.theorem_routing.proofs.Laws.{bare_done}
use Rattle.course_steps.specs.End.{End, settings_kept, configure_failed}
use Rattle.theorem_controller.specs.Controller.{SET-CONFIGURATION, done_word}
use Rattle.course_set_configuration.specs.SetConfiguration.{Settings, drop_context, restore_context, value_context, set_evaluate, set_published, set_publish, set_restored, set_restore, set_switch, set_resume, set_configure, set_course}
use Rattle.course_set_configuration.proofs.Laws.{set_words, set_operands, set_out}
use Rattle.device.specs.declared.record.Device.{Device}
use Rattle.device.specs.Device.{endpoint_map_in, with_endpoints, with_held, with_configuration}
use Rattle.device.specs.Left.{refused, ended}
use Rattle.device.specs.SetConfiguration.{settings_in, bare, ended_by, set_record, set_run, set_configuration}
use Rattle.device.proofs.Laws.{Passed, passed}
use Rattle.theorem_slot.specs.Call.{Buffers, configures, left}
use Rattle.theorem_slot.specs.Plain.{Plain, ends_all, effect_of, held_after, anew, seen, observed}
use Rattle.theorem_slot.specs.Theorem.{State, record_after, called}
use Rattle.theorem_slot.proofs.Words.{taken_words}
use Rattle.theorem_slot.proofs.Made.{byte_dcis}
use Rattle.theorem_slot.proofs.Good.{Live, Good, Stands, live_tells, named_from, not_down, usable_live}
use Rattle.theorem_slot.proofs.Step.{mild_set}
use Rattle.theorem_device_state.specs.DeviceState.{Known, unknown, known, DeviceState, configuration_set, device_told}
use Rattle.theorem_device_state.specs.Theorem.{value_read, device_heard, device_called, EachSet}
use Rattle.theorem_device_state.proofs.Heard.{device_step, heard, Hears, hears_result, hears_sends, hears_quiet, stop_then, resume_then}
use Rattle.theorem_device_state.proofs.Kept.{status, Configured, configured_same, Agrees, marked_status, marked_usable}
use Rattle.theorem_device_state.proofs.Calls.{AgreesCalled, AgreesLeft, checked_agrees, log_told}

module _ (v : Known) (a : Settings) (routes : List ℕ) (u : DeviceState) (allowed : replaced routes a.slot a.old [] ≡ Ok tt) where
  -- How it ends: accepted, the value is set and the old settings are out; else, unless it is lost, the device is as it was.
  pub record Says (r : End) (w : DeviceState) : Type 0 where
    pub accepted : is_accepted r.answer ≡ true → (r.moved ≡ true) × (w.configuration ≡ known a.value)
    pub kept : is_accepted r.answer ≡ false → is_lost r.answer ≡ false → (r.moved ≡ false) × (w ≡ u)

  lost : (r : End) (w : DeviceState) → is_lost r.answer ≡ true → is_accepted r.answer ≡ false → Says r w
  lost r w e f =
      record { accepted = λ t. not_both (is_accepted r.answer) t f; kept = λ t l. not_both (is_lost r.answer) e l }

  broken : (n : ℕ) (ctx : List ℕ) (w : DeviceState) → Says (settings_kept answer.InterfaceBroken n ctx routes) w
  unfolding number
  broken n ctx w = lost _ w refl refl

  cut : (n : ℕ) (ctx : List ℕ) (w : DeviceState) → Says (settings_kept answer.Cut n ctx routes) w
  unfolding number
  cut n ctx w = lost _ w refl refl

  failed : (code n : ℕ) (ctx : List ℕ) → Says (settings_kept (answer.Failed code) n ctx routes) u
  unfolding number
  failed code n ctx = record { accepted = λ t. not_both false t refl; kept = λ t l. (refl, refl) }

  published_hears : (ctx : List ℕ) → Hears v Says (configuration_set a.value sent.Done u) (set_publish a ctx routes)
  unfolding set_publish set_published set_evaluate Hears device_step configuration_set number
  published_hears ctx =
      rw allowed
      (hears_quiet v Says (configuration_set a.value sent.Done u) command.Evaluate (λ s w. refl) (value_context a ctx) _ _ _
      (record { accepted = λ t. (refl, refl); kept = λ t. not_both true refl t })
      (λ code. lost _ _ refl refl)
      (lost _ _ refl refl))

  restore_hears : (code : ℕ) (ctx : List ℕ) → Hears v Says u (set_restore a code ctx routes)
  unfolding set_restore set_restored Hears device_step
  restore_hears code ctx =
      let next : List ℕ = restore_context a ctx in
      hears_quiet v Says u command.Configure (λ s w. refl) next _ _ _
      (resume_then v Says u next (queue_dcis a.old) _
      (λ r.
      on_sent_lem (Hears v Says u) r.sent _ _ _
      (λ e. failed code _ next) (λ later e. broken _ next u) (λ e. cut _ next u)))
      (λ later. broken 0 next u)
      (cut 0 next u)

  pub set_hears : (ctx : List ℕ) → Hears v Says u (set_course a ctx routes)
  unfolding set_course set_configure set_switch set_resume configure_failed Hears device_step configuration_set
  set_hears ctx =
      let dcis : List ℕ = queue_dcis a.old in
      let next : List ℕ = drop_context a ctx in
      stop_then v Says u ctx dcis _
      (λ r.
      on_sent_lem (Hears v Says u) r.sent _ _ _
      (λ e.
      hears_quiet v Says u command.Configure (λ s w. refl) next _ _ _
      (hears_sends v Says u (command.SetConfiguration a.value) next _ _ _ (published_hears next) (λ code. restore_hears code next)
      (cut 0 next _))
      (λ code. resume_then v Says u next dcis _ (λ r. resumed code r.active next r.sent))
      (cut 0 next u))
      (λ code e. broken _ ctx u)
      (λ e. cut _ ctx u))
    where
      resumed : (code n : ℕ) (ctx : List ℕ) (s : Sent) → Says (settings_kept (configure_failed code s) n ctx routes) u
      resumed code n ctx sent.Done = failed code n ctx
      resumed code n ctx (sent.Failed later) = failed code n ctx
      resumed code n ctx sent.Cut = cut n ctx u

  pub set_says : (o : List ℕ) (n : ℕ) (ctx : List ℕ) →
      Says (result o n (set_course a ctx routes)) (heard v o n (set_course a ctx routes) u)
  set_says o n ctx = hears_result v Says o n (set_course a ctx routes) u (set_hears ctx)

-- The record has the value that is set, or keeps its own.
set_status_set : (d : Device) (value : ℕ) (e : End) → e.moved ≡ true → is_accepted e.answer ≡ true → status (set_record d value e) ≡ (d.up, (true, value))
unfolding set_record ended_by with_configuration bare with_held with_endpoints
set_status_set d value e m t = marked_status e.answer _ ∙ rw (m, t) refl

set_status_kept : (d : Device) (value : ℕ) (e : End) → e.moved ≡ false → status (set_record d value e) ≡ status d
unfolding set_record with_endpoints
set_status_kept d value e m = marked_status e.answer _ ∙ rw m refl

-- The call.
module _ (slot : ℕ) (before : List ℕ) (s : State) (g : Stands slot before s) (buffers : Buffers) (keeps : Bool) (value : ℕ)
    (byte : value < 256) (u : DeviceState) (agrees : Agrees s.plain s.device u) where
  abbrev d : Device
  d = s.device

  abbrev p : Plain
  p = s.plain

  abbrev rings : List ℕ
  rings = (endpoint_map_in s.device).rings

  abbrev work : Settings
  work = settings_in s.device value

  abbrev o : List ℕ
  o = buffers.outcomes

  abbrev course : Course End
  course = set_course (settings_in s.device value) buffers.ctx s.routes

  abbrev end : End
  end = result buffers.outcomes 0 (set_course (settings_in s.device value) buffers.ctx s.routes)

  module _ (pass : Passed s.device (length buffers.ctx) (length s.routes) (length buffers.log)) where
    here : Good slot before s
    here = not_down slot before s (λ n. not_both s.device.usable pass.usable n.0) g

    l : Live slot d p
    l = usable_live slot before s g pass.usable

    -- The old routes are there.
    out : replaced s.routes work.slot work.old [] ≡ Ok tt
    unfolding settings_in
    out =
        ap (λ x. replaced s.routes x (queues_of rings) []) l.place
        ∙ bare_done s.routes slot (endpoint_map_in d) (named_from slot s.routes p (endpoint_map_in d) here.named (live_tells slot d p l))

    now : DeviceState
    now = heard unknown o 0 course u

    says : Says unknown work s.routes u out end now
    unfolding now
    says = set_says unknown work s.routes u out o 0 buffers.ctx

    log_tells : done_word SET-CONFIGURATION o 0 (words o 0 course) ≡ end.moved
    unfolding settings_in
    log_tells = set_out work s.routes o buffers.ctx 0 byte (byte_dcis rings) out

    ended_agrees :
        (contexts : ℕ → List ℕ) →
        Agrees (observed (ends_all SET-CONFIGURATION) buffers end.answer (words o 0 course) contexts p) (set_record d value end) now
    unfolding observed anew seen held_after settings_in set_record EachSet
    ended_agrees contexts =
        record {
          alternates = λ up b. held (decided (is_accepted end.answer)) (agrees.alternates up (or_left_false p.broken _ b)) (or_right_false p.broken _ b);
          unbroken = λ up t. rw (agrees.unbroken up pass.usable, (marked_usable end.answer _ t).0);
          configuration = λ up t. valued (decided (is_accepted end.answer)) (agrees.configuration up pass.usable) (marked_usable end.answer _ t).0;
        }
      where
        held :
            Decided (is_accepted end.answer) → EachSet u p.held → is_lost end.answer ≡ false →
            EachSet now (cond (done_word SET-CONFIGURATION o 0 (words o 0 course)) [] p.held)
        held (inl t) e n = rw (log_tells ∙ (says.accepted t).0) tt
        held (inr t) e n = let k = says.kept t n in rw (log_tells ∙ k.0) (rw k.1 e)

        valued : Decided (is_accepted end.answer) → Configured d u → is_lost end.answer ≡ false → Configured (set_record d value end) now
        valued (inl t) e n =
            let k = says.accepted t in
            let x = set_status_set d value end k.0 t in
            record {
              up = ap (λ (x : Bool × (Bool × ℕ)). x.0) x ∙ e.up;
              configured = ap (λ (x : Bool × (Bool × ℕ)). x.1.0) x;
              value = k.1 ∙ ap known (sym (ap (λ (x : Bool × (Bool × ℕ)). x.1.1) x));
            }
        valued (inr t) e n =
            let k = says.kept t n in
            configured_same d (set_record d value end) u now (set_status_kept d value end k.0) (ap (λ (w : DeviceState). w.configuration) k.1) e

    few : length (words o 0 course) ≤ length buffers.log
    unfolding settings_in
    few = omega (arith, set_words work s.routes o buffers.ctx 0, queues_fit rings, pass.room)

    bytes : EachCommand ByteOperands course
    unfolding settings_in
    bytes = set_operands work buffers.ctx s.routes byte (byte_dcis rings)

    run_agrees :
        (contexts : ℕ → List ℕ) →
        let run = set_run d buffers.ctx s.routes buffers.log o value in
        AgreesLeft (ends_all SET-CONFIGURATION) buffers contexts p run (device_told unknown o 0 (take run.count run.log) u)
    unfolding ended now played
    run_agrees contexts =
        rw (log_told unknown o course buffers.log u few bytes, taken_words o course buffers.log few) (ended_agrees contexts)

  pub set_agrees : AgreesCalled s (configures value) buffers keeps u
  unfolding called device_called device_heard device_told refused record_after value_read effect_of left set_configuration
  set_agrees =
      checked_agrees (ends_all SET-CONFIGURATION) buffers _ p d u agrees (λ l. device_told unknown o 0 (take l.count l.log) u) _ _ buffers.ctx s.routes
      buffers.log (mild_set d _ _ _) (λ a. refl) (λ k. run_agrees (passed d _ _ _ _ k).0 _)
