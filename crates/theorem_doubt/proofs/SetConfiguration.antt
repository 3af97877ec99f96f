-- A set configuration that passes its checks: its record has what the controller may hold.
use Prim.Native.Nat.{ℕ, ◌%◌, ◌^◌, ◌<◌}
use mathlib.Core.Path.{◌≡◌, refl, sym, ap, ◌∙◌}
use mathlib.Core.Logic.{inl, inr, ⊎_elim}
use mathlib.Core.Bool.{Bool, true, false, cond}
use mathlib.Core.List.{List}
use borrow.Author.Tests.{eq-eqb, eqb-true, eqb-false}
use lib.Dec.{eqb, lit<}
use lib.ListN.{length, get_or, get_or-replicate}
use Rattle.laws.proofs.Tests.{not_both}
use Rattle.laws.proofs.Cases.{Decided, decided}
use Rattle.answer.specs.declared.Answer.TheVariants as answer
use Rattle.answer.specs.Answer.{is_lost}
use Rattle.answer.specs.Check.{Pass}
use Rattle.command.specs.Course.{Course, result}
use Rattle.command.proofs.Operations.{operation, EachCommand}
use Rattle.context_block.specs.Blocks.{some_dci}
use Rattle.transfer.specs.Routes.{ring_for}
use Rattle.record_endpoint.specs.Order.{dci_at}
use Rattle.record_endpoint.specs.EndpointMap.{is_owned, owns, queues_of, no_endpoints}
use Rattle.record_endpoint.specs.declared.endpoint_map.EndpointMap.{EndpointMap}
use Rattle.record_endpoint.specs.declared.endpoint_map.Owner.TheVariants.{Any}
use Rattle.record_endpoint.proofs.Laws.{dci_low, dci_high, active_rings}
use Rattle.record_settings.specs.Held.{is_held, held_words}
use Rattle.record_settings.proofs.Laws.{match_facts}
use Rattle.record_checks.proofs.Laws.{Apart}
use Rattle.course_steps.specs.End.{End}
use Rattle.course_steps.proofs.Laws.{queue_dcis_lem}
use Rattle.theorem_controller.proofs.Followed.{followed, follows_result}
use Rattle.course_set_configuration.specs.SetConfiguration.{set_course}
use Rattle.course_set_configuration.proofs.Laws.{set_sends}
use Rattle.device.specs.declared.record.Device.{Device}
use Rattle.device.specs.Device.{list_of, endpoint_map_in, held_of, given_of}
use Rattle.device.specs.Check.{record_check}
use Rattle.device.specs.SetConfiguration.{settings_in, set_record}
use Rattle.device.proofs.Laws.{Passed, passed}
use Rattle.device.proofs.Made.{sound_clean, sound_apart}
use Rattle.device.proofs.Kept.{set_moves, set_stays}
use Rattle.device.proofs.Fit.{placed_held, placed_endpoints, queues_of_below}
use Rattle.theorem_slot.proofs.Claimed.{some_place}
use Rattle.theorem_slot.proofs.SetConfiguration.{held_place}
use Rattle.theorem_doubt.specs.Doubt.{rings_after}
use Rattle.theorem_doubt.proofs.Held.{OrNone, Own, Near, Outer, Ringed, made_ringed, near_safe, queue_at, apart_even, apart_wide, spacing_own}
use Rattle.theorem_doubt.proofs.Outer.{Leaving, outer_followed}
use Rattle.theorem_doubt.proofs.Others.{Says, SetTold, set_sees}

module _ (d : Device) (value : ℕ) (ctx routes : List ℕ) (table log : ℕ) (k : record_check d (length ctx) table log Pass ≡ Pass)
    (up : d.up ≡ true) (rings : ℕ → ℕ) (ringed : Ringed d rings) (took : Bool) (o : List ℕ) where
  abbrev c : EndpointMap
  c = endpoint_map_in d

  pass : Passed d (length ctx) table log
  pass = (passed d _ _ _ _ k).0

  own : Own d rings
  own = ringed.own pass.usable

  course : Course End
  course = set_course (settings_in d value) ctx routes

  end : End
  end = result o 0 course

  now : ℕ → ℕ
  now = followed (rings_after took) o 0 course rings

  abbrev next : Device
  next = set_record d value end

  abbrev was : ℕ → ℕ
  was q = rings (dci_at q)

  abbrev dropped : ℕ → Bool
  dropped q = some_dci (dci_at q) (settings_in d value).words

  abbrev ring : ℕ → ℕ
  ring q = get_or c.rings q 0

  long : length c.rings ≡ 30
  long = (sound_clean d pass.is_sound).whole.rings

  apart : Apart c.rings d.control (given_of d)
  apart = sound_apart d pass.is_sound

  old_ring : (q : ℕ) → q < 30 → ring_for (dci_at q) (settings_in d value).old 0 ≡ ring q
  unfolding settings_in
  old_ring q h = queue_at c.rings q h

  says :
      (q : ℕ) → q < 30 →
      Says (was q) (cond (dropped q) 0 (was q)) (cond (dropped q) (ring_for (dci_at q) (settings_in d value).old 0) (was q)) end.answer
      end.moved (now (dci_at q))
  unfolding SetTold settings_in course end now
  says q h =
      let f = pass.facts in
      let w = placed_endpoints (held_words (list_of d) (held_of d)) (placed_held (list_of d) f.list (held_of d)) in
      let r : (x : ℕ) → ring_for x (queues_of c.rings) 0 < 2 ^ 64 =
      λ x. queues_of_below (2 ^ 64) x c.rings (lit< tt) (apart_wide c.rings d.control (given_of d) apart long ringed.wide) in
      let ds = queue_dcis_lem c.rings in
      let even : ring_for (dci_at q) (queues_of c.rings) 0 % 16 ≡ 0 =
      rw (queue_at c.rings q h) (apart_even c.rings d.control (given_of d) apart long q h) in
      let two = dci_low q h in
      let high = dci_high q h in
      follows_result (rings_after took) (SetTold (settings_in d value) routes (dci_at q) two high rings took w r ds even) o 0 course rings
      (set_sees (settings_in d value) routes (dci_at q) two high rings took w r ds even ctx pass.spaced
      (spacing_own d (length ctx) pass.is_sound pass.context))

  -- Each endpoint of the record is one of the held settings'.
  ring_dropped : (q : ℕ) → q < 30 → eqb (ring q) 0 ≡ false → dropped q ≡ true
  unfolding settings_in is_owned owns
  ring_dropped q h e =
      let m = match_facts (list_of d) (held_of d) c pass.facts.endpoints in
      let j = get_or c.owners q 0 in
      let t : is_held j (held_of d) ≡ true = m.held q h (eqb-false (ring q) 0 e) in
      some_place (held_words (list_of d) (held_of d)) q h
      ∙ held_place (list_of d) (held_of d) j q t (sym (m.owned j q t h) ∙ rw (e, eq-eqb j j refl) refl)

  -- Dropped, it has none; one that is not has no ring.
  none : (q : ℕ) → q < 30 → cond (dropped q) 0 (was q) ≡ 0
  none q h = go (dropped q) (ring_dropped q h) (decided (eqb (ring q) 0))
    where
      go : (b : Bool) → (eqb (ring q) 0 ≡ false → b ≡ true) → Decided (eqb (ring q) 0) → cond b 0 (was q) ≡ 0
      go true f z = refl
      go false f (inl z) = own q h ∙ eqb-true (ring q) 0 z
      go false f (inr z) = not_both false (f z) refl

  back : (q : ℕ) → q < 30 → cond (dropped q) (ring_for (dci_at q) (settings_in d value).old 0) (was q) ≡ ring q
  back q h = go (dropped q)
    where
      go : (b : Bool) → cond b (ring_for (dci_at q) (settings_in d value).old 0) (was q) ≡ ring q
      go true = old_ring q h
      go false = own q h

  -- The record's ring of an endpoint: none where the settings are ended, else what it was.
  gone : (q : ℕ) → q < 30 → end.moved ≡ true → get_or (endpoint_map_in next).rings q 0 ≡ 0
  unfolding no_endpoints
  gone q h m = ap (λ (y : EndpointMap). get_or y.rings q 0) (set_moves d _ _ _ value k end m).endpoints ∙ get_or-replicate 30 q 0 0 h

  kept : (q : ℕ) → end.moved ≡ false → get_or (endpoint_map_in next).rings q 0 ≡ ring q
  kept q m =
      ap (λ (y : EndpointMap). get_or y.rings q 0) (set_stays d _ _ _ value k end m).endpoints ∙ ap (λ x. get_or x q 0) (active_rings Any c end.active)

  near : Near next now
  near q h = go (decided end.moved)
    where
      go : Decided end.moved → OrNone (now (dci_at q)) (get_or (endpoint_map_in next).rings q 0)
      go (inl m) = inl ((says q h).gone m ∙ none q h)
      go (inr m) =
          rw (kept q m)
          (⊎_elim (λ z. inr (z ∙ own q h)) (⊎_elim (λ z. inl (z ∙ none q h)) (λ z. inr (z ∙ back q h))) (says q h).any)

  -- Neither lost nor answered with 18, each has its own.
  exact : (end.answer ≡ answer.InvalidEndpoint → ⊥) → is_lost end.answer ≡ false → Own next now
  exact n l q h = go (decided end.moved)
    where
      go : Decided end.moved → now (dci_at q) ≡ get_or (endpoint_map_in next).rings q 0
      go (inl m) = (says q h).gone m ∙ none q h ∙ sym (gone q h m)
      go (inr m) = ⊎_elim (λ z. z ∙ own q h) (λ z. z ∙ back q h) ((says q h).kept m l n) ∙ sym (kept q m)

  leaving : EachCommand Leaving course
  unfolding course operation
  leaving =
      set_sends Leaving (settings_in d value)
      (record { configure = refl; switch = refl; evaluate = refl; stop = λ k. refl; resume = λ k. refl }) ctx routes

  outer : (x : ℕ) → Outer x → now x ≡ rings x
  unfolding now
  outer x h = outer_followed took o 0 course rings x h leaving

  first : now 1 ≡ d.control
  first = outer 1 refl ∙ ringed.first pass.usable

  either : (end.answer ≡ answer.InvalidEndpoint → ⊥) → Decided end.moved → (next.up ≡ true) × Ringed next now
  either n (inl m) =
      made_ringed (set_moves d _ _ _ value k end m) up ringed (exact n) (λ l. first) (near_safe next now near) (λ x h. inr (outer x h))
  either n (inr m) =
      made_ringed (set_stays d _ _ _ value k end m) up ringed (exact n) (λ l. first) (near_safe next now near) (λ x h. inr (outer x h))

  pub set_ringed :
      let e = result o 0 (set_course (settings_in d value) ctx routes) in
      (e.answer ≡ answer.InvalidEndpoint → ⊥) →
      ((set_record d value e).up ≡ true)
      × Ringed (set_record d value e) (followed (rings_after took) o 0 (set_course (settings_in d value) ctx routes) rings)
  unfolding end course now
  set_ringed n = either n (decided end.moved)
