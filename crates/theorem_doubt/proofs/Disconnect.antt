-- An unplugging that passes its checks: where Disable is done the controller has no ring, else its record has what the controller may hold.
use Prim.Native.Nat.{ℕ}
use mathlib.Core.Path.{◌≡◌, refl, ap, ◌∙◌}
use mathlib.Core.Logic.{◌⊎◌, inl, inr, ⊎_elim}
use mathlib.Core.Bool.{Bool, true, false}
use mathlib.Core.List.{List}
use lib.ListN.{length}
use Rattle.laws.specs.Distinct.{elem}
use Rattle.laws.proofs.Tests.{not_both}
use Rattle.laws.proofs.Cases.{Decided, decided, or_left, or_right, or_cases}
use Rattle.answer.specs.Answer.{is_broken, is_lost}
use Rattle.answer.specs.Check.{Pass}
use Rattle.command.specs.Course.{Course, result}
use Rattle.record_ring.proofs.Entered.{entered_has}
use Rattle.record_endpoint.specs.Order.{dci_at}
use Rattle.record_endpoint.specs.EndpointMap.{queues_of, queue_dcis}
use Rattle.record_endpoint.specs.declared.endpoint_map.EndpointMap.{EndpointMap}
use Rattle.record_endpoint.specs.declared.endpoint_map.Owner.TheVariants.{Any}
use Rattle.record_endpoint.proofs.Laws.{active_rings}
use Rattle.course_steps.specs.End.{End}
use Rattle.theorem_controller.proofs.Followed.{followed, follows_result}
use Rattle.course_disconnect.specs.Disconnect.{disconnect_course}
use Rattle.course_disconnect.proofs.Ends.{disconnect_ends}
use Rattle.device.specs.declared.record.Device.{Device}
use Rattle.device.specs.Device.{endpoint_map_in, quarantined_of}
use Rattle.device.specs.Check.{disconnect_check}
use Rattle.device.specs.Disconnect.{disconnect_record}
use Rattle.device.proofs.Disconnected.{up_passed, disconnect_moves, disconnect_stays, disconnect_quarantined, disconnect_cut}
use Rattle.theorem_slot.proofs.Ends.{unplugging_stayed}
use Rattle.theorem_slot.proofs.Kept.{has}
use Rattle.theorem_doubt.specs.Doubt.{rings_after}
use Rattle.theorem_doubt.proofs.Held.{OrNone, KeptBy, Safe, Ringed, Gone, made_ringed}
use Rattle.theorem_doubt.proofs.Others.{DisconnectTold, disconnect_sees}

module _ (d : Device) (ctx routes : List ℕ) (table log : ℕ) (k : disconnect_check d (length ctx) table log ≡ Pass) (rings : ℕ → ℕ)
    (ringed : Ringed d rings) (took : Bool) (o : List ℕ) where
  abbrev dcis : List ℕ
  dcis = queue_dcis (queues_of (endpoint_map_in d).rings)

  course : Course End
  course = disconnect_course d.slot.0 dcis ctx routes

  end : End
  end = result o 0 course

  now : ℕ → ℕ
  now = followed (rings_after took) o 0 course rings

  abbrev next : Device
  next = disconnect_record d end

  told : (x : ℕ) → DisconnectTold d.slot.0 routes x rings took end now
  unfolding end now course
  told x =
      follows_result (rings_after took) (DisconnectTold d.slot.0 routes x rings took) o 0 course rings
      (disconnect_sees d.slot.0 routes x rings took dcis ctx)

  none : end.moved ≡ true → (x : ℕ) → now x ≡ 0
  unfolding DisconnectTold
  none m x = (told x).gone m

  left : (x : ℕ) → OrNone (now x) (rings x)
  unfolding DisconnectTold
  left x = ⊎_elim (λ z. inr z) (⊎_elim (λ z. inl z) (λ z. inr z)) (told x).any

  module _ (m : end.moved ≡ false) (l : is_lost end.answer ≡ true) where
    there : (endpoint_map_in next).rings ≡ (endpoint_map_in d).rings
    there = ap (λ (y : EndpointMap). y.rings) (disconnect_stays d _ _ _ k end m l).endpoints ∙ active_rings Any (endpoint_map_in d) 0

    in_quarantine : (x : ℕ) → elem x (quarantined_of d) ≡ true → elem x (quarantined_of next) ≡ true
    in_quarantine x e = go (decided (is_broken end.answer))
      where
        go : Decided (is_broken end.answer) → elem x (quarantined_of next) ≡ true
        go (inl b) = ap (elem x) (disconnect_quarantined d _ _ _ k end m b) ∙ entered_has (quarantined_of d) _ x e
        go (inr b) = ap (elem x) (disconnect_cut d _ _ _ k end m b l) ∙ e

    still_kept : (x : ℕ) → KeptBy d x → KeptBy next x
    still_kept x e =
        ⊎_elim (λ y. or_left (has (endpoint_map_in next).rings x) _ (ap (λ r. has r x) there ∙ y))
        (λ y. or_right (has (endpoint_map_in next).rings x) _ (in_quarantine x y))
        (or_cases (has (endpoint_map_in d).rings x) (elem x (quarantined_of d)) e)

    safe : Safe next now
    safe q h =
        ⊎_elim (λ z. inl z) (λ z. ⊎_elim (λ y. inl (z ∙ y)) (λ y. inr (rw z (still_kept (rings (dci_at q)) y))) (ringed.safe q h)) (left (dci_at q))

    stayed : (next.up ≡ true) × Ringed next now
    stayed = made_ringed (disconnect_stays d _ _ _ k end m l) (up_passed d _ _ _ k).up ringed (λ n. not_both true refl n) (λ n. not_both true refl n) safe (λ x h. left x)

  gone : end.moved ≡ true → Gone next now
  gone m = let u = disconnect_moves d _ _ _ k end m in ((u.usable, u.up), none m)

  pub unplug_ringed :
      let e = result o 0 (disconnect_course d.slot.0 (queue_dcis (queues_of (endpoint_map_in d).rings)) ctx routes) in
      let f = followed (rings_after took) o 0 (disconnect_course d.slot.0 (queue_dcis (queues_of (endpoint_map_in d).rings)) ctx routes) rings in
      (((disconnect_record d e).up ≡ true) × Ringed (disconnect_record d e) f) ⊎ Gone (disconnect_record d e) f
  unfolding end course now
  unplug_ringed =
      ⊎_elim (λ h. inr (gone (ap (λ (x : End). x.moved) h))) (λ h. let s = unplugging_stayed ctx routes end h in inl (stayed s.kept s.lost))
      (disconnect_ends d.slot.0 dcis ctx routes o 0)
