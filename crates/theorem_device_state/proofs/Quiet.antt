-- The calls that tell the device nothing: a release, a hub update, an unplugging.
use Prim.Native.Nat.{ℕ, ◌≤◌}
use mathlib.Core.Path.{◌≡◌, refl, sym, ◌∙◌}
use mathlib.Core.Bool.{Bool, true, false, cond}
use mathlib.Core.List.{List}
use native.Mathlib.Omega.{arith}
use lib.ListN.{length, take}
use Rattle.laws.proofs.Tests.{not_both}
use Rattle.laws.proofs.Cases.{or_left_false}
use Rattle.answer.specs.declared.Answer.{Answer}
use Rattle.answer.specs.Answer.{is_accepted, is_broken, is_lost}
use Rattle.answer.specs.Check.{Check, Pass}
use Rattle.command.specs.Course.{Course, words, played}
use Rattle.command.proofs.Operations.{ByteOperands, EachCommand}
use Rattle.record_endpoint.specs.EndpointMap.{owned_rings, queues_of, queue_dcis}
use Rattle.record_endpoint.specs.declared.endpoint_map.Owner.TheVariants.{Interface}
use Rattle.record_endpoint.proofs.Laws.{queues_fit}
use Rattle.course_steps.specs.End.{End}
use Rattle.course_steps.proofs.Laws.{length_dcis}
use Rattle.theorem_controller.specs.Controller.{DISABLE, done_word}
use Rattle.course_release.specs.Release.{release_course}
use Rattle.course_release.proofs.Laws.{release_words}
use Rattle.course_release.proofs.Controlled.{release_sends, release_operands}
use Rattle.course_disconnect.specs.Disconnect.{disconnect_course}
use Rattle.course_disconnect.proofs.Ends.{disconnect_words, disconnect_each, disconnect_operands}
use Rattle.device.specs.declared.record.Device.{Device}
use Rattle.device.specs.Device.{endpoint_map_in, with_endpoints, with_held, quarantines}
use Rattle.device.specs.Left.{Left, refused, ended, marked}
use Rattle.device.specs.Check.{record_check, hub_check, disconnect_check}
use Rattle.device.specs.Calls.{on_check, hub_course, hub_left, hub_update}
use Rattle.device.specs.Release.{release_check, release_in, release_record, release_run, release}
use Rattle.device.specs.Disconnect.{all_revoked, unplugged, rings_in_doubt, disconnect_record, disconnect_run, disconnect}
use Rattle.device.proofs.Laws.{passed}
use Rattle.device.proofs.Disconnected.{up_passed}
use Rattle.theorem_slot.specs.Call.{Buffers, Asked, brings_up, claims, commits, releases, configures, updates_hub, disconnects, left}
use Rattle.theorem_slot.specs.Plain.{Plain, is_up, without, ends_one, unplugs, nothing, effect_of, held_after, emptied, anew, seen, observed}
use Rattle.theorem_slot.specs.Theorem.{State, record_after, called}
use Rattle.theorem_slot.proofs.Made.{byte_dcis}
use Rattle.theorem_slot.proofs.Step.{MildCheck, on_mild, mild_release, mild_hub, mild_disconnect}
use Rattle.theorem_slot.proofs.Demand3.{at_table, turn}
use Rattle.theorem_device_state.specs.DeviceState.{unknown, DeviceState, device_told}
use Rattle.theorem_device_state.specs.Theorem.{value_read, device_heard, device_called, EachSet, tells_nothing, ToldNothing}
use Rattle.theorem_device_state.proofs.Heard.{device_step, Quiet, quiet_heard}
use Rattle.theorem_device_state.proofs.Kept.{Agrees, down_agrees, each_without, status, configured_same, marked_status, marked_usable, quarantines_status, status_either}
use Rattle.theorem_device_state.proofs.Calls.{AgreesCalled, checked_agrees, log_told}

-- A course of quiet commands tells nothing.
quiet_told :
    {A : Type 0} (o : List ℕ) (c : Course A) (log : List ℕ) (u : DeviceState) → length (words o 0 c) ≤ length log → EachCommand ByteOperands c →
    EachCommand (Quiet unknown) c → device_told unknown o 0 (take (played o 0 c log).count (played o 0 c log).log) u ≡ u
quiet_told o c log u room bytes quiet = log_told unknown o c log u room bytes ∙ quiet_heard unknown o 0 c u quiet

-- A call that tells nothing.
abbrev Untold : State → Asked → Buffers → Bool → DeviceState → Type 0
Untold s asked buffers keeps u = device_called s (turn s (record { asked = asked; buffers = buffers }) keeps) u ≡ u

module _ (s : State) (buffers : Buffers) (keeps : Bool) (u : DeviceState) where
  abbrev d : Device
  d = s.device

  abbrev o : List ℕ
  o = buffers.outcomes

  -- One that checks tells nothing if what runs after its checks tells nothing.
  checked_told :
      (k : Check) (run : Left) (ctx routes log : List ℕ) → MildCheck k →
      (k ≡ Pass → device_told unknown o 0 (take run.count run.log) u ≡ u) →
      let l = on_check k run (λ a. refused d a ctx routes log) in device_told unknown o 0 (take l.count l.log) u ≡ u
  unfolding refused device_told
  checked_told k run ctx routes log m h =
      on_mild (λ l. device_told unknown o 0 (take l.count l.log) u ≡ u) k run (λ a. refused d a ctx routes log) m h (λ a r. refl)

  module _ (i : ℕ) where
    abbrev course : Course End
    course = release_course (release_in s.device i) buffers.ctx s.routes

    run_told :
        record_check d (length buffers.ctx) (length s.routes) (length buffers.log) (release_check d i) ≡ Pass →
        let run = release_run d buffers.ctx s.routes buffers.log o i in device_told unknown o 0 (take run.count run.log) u ≡ u
    unfolding ended release_in device_step
    run_told k =
        quiet_told o course buffers.log u
        (omega (arith, release_words (release_in d i) s.routes o buffers.ctx 0 (queues_fit (owned_rings (Interface i) (endpoint_map_in d))), (passed d _ _ _ _ k).0.room))
        (release_operands (release_in d i) buffers.ctx s.routes (byte_dcis (owned_rings (Interface i) (endpoint_map_in d))))
        (release_sends (Quiet unknown) (release_in d i)
        (record { configure = λ s w. refl; stop = λ n s w. refl; resume = λ n s w. refl }) buffers.ctx s.routes)

    release_told : Untold s (releases i) buffers keeps u
    unfolding device_called device_heard value_read left release
    release_told = checked_told _ _ buffers.ctx s.routes buffers.log (mild_release d _ _ _ i) run_told

  module _ (ports : ℕ) (multi : Bool) (ns : ℕ) where
    hub_run_told :
        (ctx : List ℕ) → record_check d (length buffers.ctx) (length s.routes) (length buffers.log) (hub_check d ns) ≡ Pass →
        let run = hub_left d ctx s.routes (played o 0 (hub_course ctx) buffers.log) in device_told unknown o 0 (take run.count run.log) u ≡ u
    unfolding hub_left hub_course words EachCommand ByteOperands device_step
    hub_run_told ctx k =
        quiet_told o (hub_course ctx) buffers.log u (omega (arith, (passed d _ _ _ _ k).0.room)) (tt, λ s. tt) (λ s w. refl, λ s. tt)

    hub_told : Untold s (updates_hub ports multi ns) buffers keeps u
    unfolding device_called device_heard value_read left hub_update
    hub_told = checked_told _ _ buffers.ctx s.routes buffers.log (mild_hub d _ _ _ ns) (hub_run_told _)

  abbrev dcis : List ℕ
  dcis = queue_dcis (queues_of (endpoint_map_in s.device).rings)

  unplugging_run_told :
      disconnect_check d (length buffers.ctx) (length s.routes) (length buffers.log) ≡ Pass →
      let run = disconnect_run d buffers.ctx s.routes buffers.log o in device_told unknown o 0 (take run.count run.log) u ≡ u
  unfolding ended device_step
  unplugging_run_told k =
      quiet_told o (disconnect_course d.slot.0 dcis buffers.ctx s.routes) buffers.log u
      (omega (
        arith,
        disconnect_words d.slot.0 dcis buffers.ctx s.routes o 0,
        length_dcis (queues_of (endpoint_map_in d).rings),
        queues_fit (endpoint_map_in d).rings,
        (up_passed d _ _ _ k).room,
      ))
      (disconnect_operands d.slot.0 dcis buffers.ctx s.routes (byte_dcis (endpoint_map_in d).rings))
      (disconnect_each d.slot.0 dcis buffers.ctx s.routes (Quiet unknown) (λ s w. refl) (λ n s w. refl) (λ s w. refl))

  unplugging_told : Untold s disconnects buffers keeps u
  unfolding device_called device_heard value_read left disconnect
  unplugging_told = checked_told _ _ buffers.ctx s.routes buffers.log (mild_disconnect d _ _ _) unplugging_run_told

pub told_nothing : ToldNothing
unfolding tells_nothing device_called
told_nothing s t u = go t.call.asked
  where
    go : (asked : Asked) → tells_nothing asked ≡ true → Untold (at_table s t.table) asked t.call.buffers t.keeps u
    go (brings_up a) e = not_both false e refl
    go (claims i a) e = not_both false e refl
    go (commits p) e = not_both false e refl
    go (releases i) e = release_told (at_table s t.table) t.call.buffers t.keeps u i
    go (configures value) e = not_both false e refl
    go (updates_hub ports multi ns) e = hub_told (at_table s t.table) t.call.buffers t.keeps u ports multi ns
    go disconnects e = unplugging_told (at_table s t.table) t.call.buffers t.keeps u

-- What they make of plain slot and record.
release_status : (d : Device) (i : ℕ) (e : End) → status (release_record d i e) ≡ status d
unfolding release_record with_held with_endpoints
release_status d i e = marked_status e.answer _ ∙ status_either e.moved _ _ _ refl refl

emptied_agrees : (b : Bool) (p : Plain) (d : Device) (u : DeviceState) → Agrees p d u → Agrees (cond b (emptied p) p) d u
unfolding emptied is_up
emptied_agrees true p d u g = down_agrees (emptied p) d u refl
emptied_agrees false p d u g = g

-- The record of an unplugging: gone, or as it was but for its marks.
unplugging_record :
    (d : Device) (e : End) → (disconnect_record d e).usable ≡ true →
    ((is_lost e.answer ≡ false) × (d.usable ≡ true)) × (status (disconnect_record d e) ≡ status d)
unfolding disconnect_record unplugged all_revoked
unplugging_record d e = go e.moved
  where
    rest : Device
    rest = marked e.answer (quarantines (is_broken e.answer) (rings_in_doubt d) (all_revoked d))

    go :
        (b : Bool) → (cond b (unplugged d) rest).usable ≡ true →
        ((is_lost e.answer ≡ false) × (d.usable ≡ true)) × (status (cond b (unplugged d) rest) ≡ status d)
    go true t = not_both false t refl
    go false t =
        let q = quarantines_status (is_broken e.answer) (rings_in_doubt d) (all_revoked d) in
        let m = marked_usable e.answer _ t in
        ((m.0, sym q.1 ∙ m.1), marked_status e.answer _ ∙ q.0)

module _ (s : State) (buffers : Buffers) (keeps : Bool) (u : DeviceState) (g : Agrees s.plain s.device u) where
  abbrev p : Plain
  p = s.plain

  module _ (i : ℕ) (e : End) where
    released_agrees :
        s.device.usable ≡ true → (ws : List ℕ) (contexts : ℕ → List ℕ) →
        Agrees (observed (ends_one i) buffers e.answer ws contexts p) (release_record s.device i e) u
    unfolding observed anew seen held_after release_record
    released_agrees usable ws contexts =
        record {
          alternates = λ up b. go (is_accepted e.answer) (g.alternates up (or_left_false p.broken _ b));
          unbroken = λ up t. rw (g.unbroken up usable, (marked_usable e.answer _ t).0);
          configuration = λ up t.
              configured_same s.device (release_record s.device i e) u u (release_status s.device i e) refl (g.configuration up usable);
        }
      where
        go : (b : Bool) → EachSet u p.held → EachSet u (cond b (without i p.held) p.held)
        go true e = each_without i u u p.held (λ j n. refl) e
        go false e = e

  pub release_agrees : (i : ℕ) → AgreesCalled s (releases i) buffers keeps u
  unfolding called record_after effect_of left release ended played
  release_agrees i =
      rw (release_told s buffers keeps u i)
      (checked_agrees (ends_one i) buffers _ p s.device u g (λ l. u) _ _ buffers.ctx s.routes buffers.log (mild_release s.device _ _ _ i) (λ a. refl)
      (λ k. released_agrees i _ (passed s.device _ _ _ _ k).0.usable _ _))

  hub_agrees_after :
      (a : Answer) → s.device.usable ≡ true → (ws : List ℕ) (contexts : ℕ → List ℕ) →
      Agrees (observed nothing buffers a ws contexts p) (marked a s.device) u
  unfolding observed anew seen held_after
  hub_agrees_after a usable ws contexts =
      record {
        alternates = λ up b. g.alternates up (or_left_false p.broken _ b);
        unbroken = λ up t. rw (g.unbroken up usable, (marked_usable a s.device t).0);
        configuration = λ up t. configured_same s.device (marked a s.device) u u (marked_status a s.device) refl (g.configuration up usable);
      }

  pub hub_agrees : (ports : ℕ) (multi : Bool) (ns : ℕ) → AgreesCalled s (updates_hub ports multi ns) buffers keeps u
  unfolding called record_after effect_of left hub_update hub_left played
  hub_agrees ports multi ns =
      rw (hub_told s buffers keeps u ports multi ns)
      (checked_agrees nothing buffers _ p s.device u g (λ l. u) _ _ buffers.ctx s.routes buffers.log (mild_hub s.device _ _ _ ns) (λ a. refl)
      (λ k. hub_agrees_after _ (passed s.device _ _ _ _ k).0.usable _ _))

  unplugged_agrees :
      (e : End) (ws : List ℕ) (contexts : ℕ → List ℕ) → Agrees (observed unplugs buffers e.answer ws contexts p) (disconnect_record s.device e) u
  unfolding observed anew seen held_after
  unplugged_agrees e ws contexts =
      emptied_agrees (done_word DISABLE buffers.outcomes 0 ws) _ _ u
      (record {
        alternates = λ up b. g.alternates up (or_left_false p.broken _ b);
        unbroken = λ up t. let r = unplugging_record s.device e t in rw (g.unbroken up r.0.1, r.0.0);
        configuration = λ up t.
            let r = unplugging_record s.device e t in
            configured_same s.device (disconnect_record s.device e) u u r.1 refl (g.configuration up r.0.1);
      })

  pub unplugging_agrees : AgreesCalled s disconnects buffers keeps u
  unfolding called record_after effect_of left disconnect ended played
  unplugging_agrees =
      rw (unplugging_told s buffers keeps u)
      (checked_agrees unplugs buffers _ p s.device u g (λ l. u) _ _ buffers.ctx s.routes buffers.log (mild_disconnect s.device _ _ _) (λ a. refl)
      (λ k. unplugged_agrees _ _ _))
