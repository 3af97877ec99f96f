-- What the answers of an unplugging say.
use Rattle.std.proofs.Common.{Ok, Err}
use Prim.Native.Nat.{ℕ, suc, ◌+◌}
use mathlib.Core.Path.{◌≡◌, refl, sym, ap, ◌∙◌}
use mathlib.Core.Bool.{true, ◌&&◌}
use mathlib.Core.List.{List}
use mathlib.Core.Logic.{inl, inr}
use native.Mathlib.Omega.{arith}
use lib.ListN.{length}
use Rattle.laws.proofs.Tests.{not_both}
use Rattle.answer.specs.declared.Answer.{Answer}
use Rattle.answer.specs.declared.Answer.TheVariants as answer
use Rattle.answer.specs.Check.{Check, Pass}
use Rattle.answer.specs.Answer.{number, is_accepted, is_broken, is_lost}
use Rattle.command.specs.Command.{outcome_at}
use Rattle.command.specs.Course.{result, played}
use Rattle.transfer.specs.Routes.{route_of, without_slot}
use Rattle.transfer.proofs.Laws.{without_own}
use Rattle.record_ring.specs.Rings.{entered}
use Rattle.record_ring.proofs.Entered.{entered_again}
use Rattle.record_endpoint.specs.declared.endpoint_map.EndpointMap.{EndpointMap}
use Rattle.record_endpoint.specs.declared.endpoint_map.Owner.TheVariants.{Any}
use Rattle.record_endpoint.specs.EndpointMap.{no_endpoints, queues_of, queue_dcis}
use Rattle.record_endpoint.proofs.Laws.{active_rings}
use Rattle.theorem_routing.proofs.Laws.{no_queues}
use Rattle.theorem_controller.specs.Controller.{is_done}
use Rattle.course_steps.specs.End.{End, settings_moved}
use Rattle.course_steps.proofs.Laws.{length_dcis}
use Rattle.course_disconnect.specs.Disconnect.{disconnect_course}
use Rattle.course_disconnect.proofs.Ends.{Ended, disconnect_ends, disconnect_accepted}
use Rattle.device.specs.declared.record.Device.{Device}
use Rattle.device.specs.Device.{endpoint_map_in, held_of, quarantined_of}
use Rattle.device.specs.Left.{Left, refused, ended}
use Rattle.device.specs.Check.{disconnect_check}
use Rattle.device.specs.Calls.{on_check}
use Rattle.device.specs.Disconnect.{rings_in_doubt, disconnect_record, disconnect}
use Rattle.device.proofs.Facts.{sound_facts}
use Rattle.device.proofs.Disconnected.{up_passed, disconnect_moves, disconnect_stays, disconnect_quarantined, disconnect_cut}
use Rattle.theorem_slot.specs.Call.{Buffers, disconnects, left}
use Rattle.theorem_slot.specs.Unplugging.{passes, AcceptedByDisable, Gone, AcceptedLeaves, LostKeeps, LostLeaves, ContextUnwritten, QuarantinedOnce, SoundRings}
use Rattle.theorem_slot.proofs.Ends.{Stayed, unplugging_stayed}
use Rattle.theorem_slot.proofs.Step.{Mild, MildCheck, refused_mild, mild_disconnect}
use Rattle.theorem_slot.proofs.Refusing.{down_refuses}

module _ (d : Device) (b : Buffers) (routes : List ℕ) where
  abbrev dcis : List ℕ
  dcis = queue_dcis (queues_of (endpoint_map_in d).rings)

  abbrev check : Check
  check = disconnect_check d (length b.ctx) (length routes) (length b.log)

  end : End
  end = result b.outcomes 0 (disconnect_course d.slot.0 dcis b.ctx routes)

  ends : Ended d.slot.0 b.ctx routes end
  unfolding end
  ends = disconnect_ends d.slot.0 dcis b.ctx routes b.outcomes 0

  run : Left
  run = ended (disconnect_record d) (played b.outcomes 0 (disconnect_course d.slot.0 dcis b.ctx routes) b.log)

  -- Each of them is refused, or runs.
  by_check :
      (P : Left → Type 0) → (check ≡ Pass → Ended d.slot.0 b.ctx routes end → P run) →
      ((a : Answer) → Mild a → P (refused d a b.ctx routes b.log)) → P (left disconnects b d routes)
  unfolding left disconnect run MildCheck on_check
  by_check P p q = go check (mild_disconnect d (length b.ctx) (length routes) (length b.log)) refl
    where
      go : (k : Check) → MildCheck k → check ≡ k → P (on_check k run (λ a. refused d a b.ctx routes b.log))
      go (Ok _) m e = p e ends
      go (Err a) m e = q a (refused_mild a m)

-- What an answer is not.
accepted_mild : {P : Type 0} {a : Answer} → Mild a → a ≡ answer.Accepted → P
unfolding number
accepted_mild m e = not_both (is_accepted answer.Accepted) refl (sym (ap is_accepted e) ∙ m.0)

broken_mild : {P : Type 0} {a : Answer} → Mild a → a ≡ answer.InterfaceBroken → P
unfolding number
broken_mild m e = not_both (is_lost answer.InterfaceBroken) refl (sym (ap is_lost e) ∙ m.1)

pub accepted_by_disable : AcceptedByDisable
unfolding left disconnect on_check passes run ended played refused MildCheck
accepted_by_disable d b routes =
    go (disconnect_check d (length b.ctx) (length routes) (length b.log)) (mild_disconnect d (length b.ctx) (length routes) (length b.log))
  where
    at : ℕ
    at = length (queues_of (endpoint_map_in d).rings) + 1

    same : 0 + suc (length (dcis d b routes)) ≡ at
    same = omega (arith, length_dcis (queues_of (endpoint_map_in d).rings))

    go :
        (k : Check) → MildCheck k →
        is_accepted (on_check k (run d b routes) (λ a. refused d a b.ctx routes b.log)).answer
        ≡ (passes k && is_done (outcome_at b.outcomes at))
    go (Ok _) m =
        disconnect_accepted d.slot.0 (dcis d b routes) b.ctx routes b.outcomes 0
        ∙ ap (λ n. is_done (outcome_at b.outcomes n)) same
    go (Err a) m = (refused_mild a m).0

-- Accepted, its end is the one without a route.
module _ (d : Device) (b : Buffers) (routes : List ℕ) where
  run_answer : (run d b routes).answer ≡ (end d b routes).answer
  unfolding run end ended played
  run_answer = refl

  run_device : (run d b routes).device ≡ disconnect_record d (end d b routes)
  unfolding run end ended played
  run_device = refl

  run_routes : (run d b routes).routes ≡ (end d b routes).routes
  unfolding run end ended played
  run_routes = refl

  run_context : (run d b routes).ctx ≡ (end d b routes).ctx
  unfolding run end ended played
  run_context = refl

  kept_answer : Ended d.slot.0 b.ctx routes (end d b routes) → (end d b routes).answer ≡ answer.Accepted →
      end d b routes ≡ settings_moved answer.Accepted b.ctx (without_slot routes d.slot.0)
  unfolding number
  kept_answer (inl v) e = v
  kept_answer (inr (inl v)) e = absurd (omega (arith, ap number (sym (ap (λ (x : End). x.answer) v) ∙ e)))
  kept_answer (inr (inr v)) e = absurd (omega (arith, ap number (sym (ap (λ (x : End). x.answer) v) ∙ e)))

  gone_run :
      check d b routes ≡ Pass → end d b routes ≡ settings_moved answer.Accepted b.ctx (without_slot routes d.slot.0) →
      Gone d (run d b routes)
  unfolding no_endpoints
  gone_run k v =
      let p = up_passed d (length b.ctx) (length routes) (length b.log) k in
      let m = disconnect_moves d (length b.ctx) (length routes) (length b.log) k (end d b routes) (ap (λ (x : End). x.moved) v) in
      rw run_device
      (record {
        routes = λ dci h.
            ap (λ t. route_of t d.slot.0 dci) (run_routes ∙ ap (λ (x : End). x.routes) v)
            ∙ without_own routes d.slot.0 (omega (arith, p.table, p.facts.place.slot_high)) dci h;
        endpoints = ap (λ (c : EndpointMap). queues_of c.rings) m.endpoints ∙ no_queues;
        held = m.held;
        same = m.same;
        quarantined = m.quarantined;
        refuses = λ asked c table n. down_refuses asked c (disconnect_record d (end d b routes)) table (m.usable, m.up) n;
      })

pub accepted_leaves : AcceptedLeaves
unfolding refused
accepted_leaves d b routes =
    by_check d b routes (λ l. l.answer ≡ answer.Accepted → Gone d l)
    (λ k v e. gone_run d b routes k (kept_answer d b routes v (sym (run_answer d b routes) ∙ e))) (λ a m e. accepted_mild m e)

-- Broken or cut, all is as it was.
module _ (d : Device) (b : Buffers) (routes : List ℕ) where
  lost_end : Ended d.slot.0 b.ctx routes (end d b routes) → is_lost (end d b routes).answer ≡ true → Stayed routes (end d b routes)
  unfolding number
  lost_end (inl v) e = not_both (is_lost answer.Accepted) (sym (ap (λ (x : End). is_lost x.answer) v) ∙ e) refl
  lost_end (inr v) e = unplugging_stayed b.ctx routes (end d b routes) v

  stays_run : check d b routes ≡ Pass → Stayed routes (end d b routes) → LostKeeps d routes (run d b routes)
  stays_run k l =
      let m = disconnect_stays d (length b.ctx) (length routes) (length b.log) k (end d b routes) l.kept l.lost in
      record {
        table = run_routes d b routes ∙ l.left;
        held = ap held_of (run_device d b routes) ∙ m.held;
        rings =
            ap (λ e. (endpoint_map_in e).rings) (run_device d b routes) ∙ ap (λ (c : EndpointMap). c.rings) m.endpoints
            ∙ active_rings Any (endpoint_map_in d) 0;
        same = rw (run_device d b routes) m.same;
      }

pub lost_leaves : LostLeaves
unfolding refused
lost_leaves d b routes =
    by_check d b routes (λ l. is_lost l.answer ≡ true → LostKeeps d routes l)
    (λ k v e. stays_run d b routes k (lost_end d b routes v (sym (ap is_lost (run_answer d b routes)) ∙ e)))
    (λ a m e. not_both (is_lost a) e m.1)

pub context_unwritten : ContextUnwritten
unfolding refused
context_unwritten d b routes =
    by_check d b routes (λ l. l.ctx ≡ b.ctx) (λ k v. run_context d b routes ∙ go v) (λ a m. refl)
  where
    go : Ended d.slot.0 b.ctx routes (end d b routes) → (end d b routes).ctx ≡ b.ctx
    go (inl v) = ap (λ (x : End). x.ctx) v
    go (inr (inl v)) = ap (λ (x : End). x.ctx) v
    go (inr (inr v)) = ap (λ (x : End). x.ctx) v

-- A 14: what is in quarantine then, and which rings would enter again.
record Doubted (d e : Device) : Type 0 where
  pub quarantined : quarantined_of e ≡ entered (quarantined_of d) (rings_in_doubt d)
  pub again : rings_in_doubt e ≡ rings_in_doubt d

doubted : (d : Device) (b : Buffers) (routes : List ℕ) → (left disconnects b d routes).answer ≡ answer.InterfaceBroken →
    Doubted d (left disconnects b d routes).device
unfolding refused rings_in_doubt number
doubted d b routes =
    by_check d b routes (λ l. l.answer ≡ answer.InterfaceBroken → Doubted d l.device)
    (λ k v e.
    let x : (end d b routes).answer ≡ answer.InterfaceBroken = sym (run_answer d b routes) ∙ e in
    let l = lost_end d b routes v (ap is_lost x) in
    let s = stays_run d b routes k l in
    record {
      quarantined =
          ap quarantined_of (run_device d b routes)
          ∙ disconnect_quarantined d (length b.ctx) (length routes) (length b.log) k (end d b routes) l.kept (ap is_broken x);
      again = rw (s.same.control, s.rings) refl;
    })
    (λ a m e. broken_mild m e)

-- Whatever another answers, none is added to rings that are all there.
module _ (d : Device) (b : Buffers) (routes : List ℕ) (all : entered (quarantined_of d) (rings_in_doubt d) ≡ quarantined_of d) where
  again_run : check d b routes ≡ Pass → Ended d.slot.0 b.ctx routes (end d b routes) →
      quarantined_of (disconnect_record d (end d b routes)) ≡ quarantined_of d
  unfolding number
  again_run k (inl v) =
      (disconnect_moves d (length b.ctx) (length routes) (length b.log) k (end d b routes) (ap (λ (x : End). x.moved) v)).quarantined
  again_run k (inr (inl v)) =
      disconnect_quarantined d (length b.ctx) (length routes) (length b.log) k (end d b routes) (ap (λ (x : End). x.moved) v)
      (ap (λ (x : End). is_broken x.answer) v)
      ∙ all
  again_run k (inr (inr v)) =
      disconnect_cut d (length b.ctx) (length routes) (length b.log) k (end d b routes) (ap (λ (x : End). x.moved) v)
      (ap (λ (x : End). is_broken x.answer) v) (ap (λ (x : End). is_lost x.answer) v)

  none_added : quarantined_of (left disconnects b d routes).device ≡ quarantined_of d
  unfolding refused
  none_added =
      by_check d b routes (λ l. quarantined_of l.device ≡ quarantined_of d)
      (λ k v. ap quarantined_of (run_device d b routes) ∙ again_run k v) (λ a m. refl)

pub quarantined_once : QuarantinedOnce
quarantined_once d b next routes table e =
    let t = doubted d b routes e in
    none_added (left disconnects b d routes).device next table
    (rw (t.quarantined, t.again) (entered_again (quarantined_of d) (rings_in_doubt d)))

pub sound_rings_lem : SoundRings
sound_rings_lem d s = let f = sound_facts d s in record { once = f.rings.apart; few = f.rings.few }
