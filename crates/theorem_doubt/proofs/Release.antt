-- A release that passes its checks: its record has what the controller may hold.
use Prim.Native.Nat.{ℕ, ◌<◌}
use mathlib.Core.Path.{◌≡◌, refl, sym, ap, ◌∙◌}
use mathlib.Core.Logic.{inl, inr, ⊎_elim}
use mathlib.Core.Bool.{Bool, true, false, cond}
use mathlib.Core.List.{List}
use borrow.Author.Tests.{eq-eqb}
use lib.ListN.{length, get_or, replicate, get_or-replicate}
use Rattle.laws.proofs.Cases.{Decided, decided}
use Rattle.answer.specs.declared.Answer.TheVariants as answer
use Rattle.answer.specs.Answer.{is_lost}
use Rattle.answer.specs.Check.{Pass}
use Rattle.command.specs.Course.{Course, result}
use Rattle.command.proofs.Operations.{operation, EachCommand}
use Rattle.context_block.specs.Blocks.{some_dci}
use Rattle.record_endpoint.specs.Order.{PLACES, dci_at}
use Rattle.record_endpoint.specs.EndpointMap.{is_owned, claimed_ring}
use Rattle.record_endpoint.specs.declared.endpoint_map.EndpointMap.{EndpointMap}
use Rattle.record_endpoint.specs.declared.endpoint_map.Owner.TheVariants.{Interface}
use Rattle.record_endpoint.proofs.Laws.{dci_low, dci_high, active_rings, claimed_ring_lem}
use Rattle.record_settings.specs.Held.{is_held, alternate_of, setting_words}
use Rattle.record_settings.proofs.Laws.{match_facts}
use Rattle.course_steps.specs.End.{End}
use Rattle.course_steps.proofs.Laws.{queue_dcis_lem}
use Rattle.theorem_controller.proofs.Followed.{followed, follows_result}
use Rattle.course_release.specs.Release.{release_course}
use Rattle.course_release.proofs.Controlled.{release_sends}
use Rattle.device.specs.declared.record.Device.{Device}
use Rattle.device.specs.Device.{list_of, endpoint_map_in, held_of}
use Rattle.device.specs.Check.{record_check}
use Rattle.device.specs.Release.{release_check, release_in, release_record}
use Rattle.device.proofs.Laws.{Passed, passed, pass_if}
use Rattle.device.proofs.Kept.{release_moves, release_stays}
use Rattle.device.proofs.Fit.{placed_setting, placed_endpoints, alternate_byte}
use Rattle.theorem_slot.proofs.Claimed.{some_place}
use Rattle.theorem_doubt.specs.Doubt.{rings_after}
use Rattle.theorem_doubt.proofs.Held.{OrNone, Own, Near, Outer, Ringed, made_ringed, near_safe, spacing_own}
use Rattle.theorem_doubt.proofs.Outer.{Leaving, outer_followed}
use Rattle.theorem_doubt.proofs.Others.{Says, ReleaseTold, release_sees}

module _ (d : Device) (i : ℕ) (byte : i < 256) (ctx routes : List ℕ) (table log : ℕ)
    (k : record_check d (length ctx) table log (release_check d i) ≡ Pass)
    (up : d.up ≡ true) (rings : ℕ → ℕ) (ringed : Ringed d rings) (took : Bool) (o : List ℕ) where
  abbrev c : EndpointMap
  c = endpoint_map_in d

  abbrev none : List ℕ
  none = replicate PLACES 0

  pass : Passed d (length ctx) table log
  pass = (passed d _ _ _ _ k).0

  own : Own d rings
  own = ringed.own pass.usable

  course : Course End
  course = release_course (release_in d i) ctx routes

  end : End
  end = result o 0 course

  now : ℕ → ℕ
  now = followed (rings_after took) o 0 course rings

  abbrev next : Device
  next = release_record d i end

  abbrev was : ℕ → ℕ
  was q = rings (dci_at q)

  abbrev dropped : ℕ → Bool
  dropped q = some_dci (dci_at q) (release_in d i).words

  says : (q : ℕ) → q < 30 → Says (was q) (cond (dropped q) 0 (was q)) (was q) end.answer end.moved (now (dci_at q))
  unfolding ReleaseTold release_in course end now
  says q h =
      let f = pass.facts in
      let a = alternate_of i (held_of d) in
      let w = placed_endpoints (setting_words (list_of d) i a) (placed_setting (list_of d) f.list i a) in
      let b = alternate_byte (list_of d) (held_of d) f.settings i in
      let ds = queue_dcis_lem c.rings in
      let two = dci_low q h in
      let high = dci_high q h in
      follows_result (rings_after took) (ReleaseTold (release_in d i) routes (dci_at q) two high rings took byte b w ds) o 0 course rings
      (release_sees (release_in d i) routes (dci_at q) two high rings took byte b w ds ctx pass.spaced
      (spacing_own d (length ctx) pass.is_sound pass.context))

  -- The interface holds a setting, whose words are at the places of its endpoints.
  holds : is_held i (held_of d) ≡ true
  unfolding release_check
  holds = (pass_if (is_held i (held_of d)) Pass answer.NotClaimed (passed d _ _ _ _ k).1).0

  owned_dropped : (q : ℕ) → q < 30 → dropped q ≡ is_owned (Interface i) c q
  unfolding release_in
  owned_dropped q h =
      some_place (setting_words (list_of d) i (alternate_of i (held_of d))) q h
      ∙ sym ((match_facts (list_of d) (held_of d) c pass.facts.endpoints).owned i q holds h)

  -- The record's ring of an endpoint, where the setting is ended and where it is not.
  gone : (q : ℕ) → q < 30 → end.moved ≡ true → get_or (endpoint_map_in next).rings q 0 ≡ cond (dropped q) 0 (get_or c.rings q 0)
  unfolding claimed_ring
  gone q h m =
      ap (λ (y : EndpointMap). get_or y.rings q 0) (release_moves d _ _ _ i k end m).endpoints ∙ claimed_ring_lem i none c q h
      ∙ rw (eq-eqb (get_or none q 0) 0 (get_or-replicate 30 q 0 0 h), owned_dropped q h)

  kept : (q : ℕ) → end.moved ≡ false → get_or (endpoint_map_in next).rings q 0 ≡ get_or c.rings q 0
  kept q m =
      ap (λ (y : EndpointMap). get_or y.rings q 0) (release_stays d _ _ _ i k end m).endpoints
      ∙ ap (λ x. get_or x q 0) (active_rings (Interface i) c end.active)

  ended : (q : ℕ) → q < 30 → end.moved ≡ true → now (dci_at q) ≡ get_or (endpoint_map_in next).rings q 0
  ended q h m = (says q h).gone m ∙ ap (λ x. cond (dropped q) 0 x) (own q h) ∙ sym (gone q h m)

  near : Near next now
  near q h = go (decided end.moved)
    where
      less : (b : Bool) → OrNone (cond b 0 (was q)) (get_or c.rings q 0)
      less true = inl refl
      less false = inr (own q h)

      go : Decided end.moved → OrNone (now (dci_at q)) (get_or (endpoint_map_in next).rings q 0)
      go (inl m) = inr (ended q h m)
      go (inr m) =
          rw (kept q m)
          (⊎_elim (λ z. inr (z ∙ own q h)) (⊎_elim (λ z. rw z (less (dropped q))) (λ z. inr (z ∙ own q h))) (says q h).any)

  -- Neither lost nor answered with 18, each has its own.
  exact : (end.answer ≡ answer.InvalidEndpoint → ⊥) → is_lost end.answer ≡ false → Own next now
  exact n l q h = go (decided end.moved)
    where
      go : Decided end.moved → now (dci_at q) ≡ get_or (endpoint_map_in next).rings q 0
      go (inl m) = ended q h m
      go (inr m) = ⊎_elim (λ z. z) (λ z. z) ((says q h).kept m l n) ∙ own q h ∙ sym (kept q m)

  leaving : EachCommand Leaving course
  unfolding course operation
  leaving = release_sends Leaving (release_in d i) (record { configure = refl; stop = λ k. refl; resume = λ k. refl }) ctx routes

  outer : (x : ℕ) → Outer x → now x ≡ rings x
  unfolding now
  outer x h = outer_followed took o 0 course rings x h leaving

  first : now 1 ≡ d.control
  first = outer 1 refl ∙ ringed.first pass.usable

  either : (end.answer ≡ answer.InvalidEndpoint → ⊥) → Decided end.moved → (next.up ≡ true) × Ringed next now
  either n (inl m) =
      made_ringed (release_moves d _ _ _ i k end m) up ringed (exact n) (λ l. first) (near_safe next now near) (λ x h. inr (outer x h))
  either n (inr m) =
      made_ringed (release_stays d _ _ _ i k end m) up ringed (exact n) (λ l. first) (near_safe next now near) (λ x h. inr (outer x h))

  pub release_ringed :
      let e = result o 0 (release_course (release_in d i) ctx routes) in
      (e.answer ≡ answer.InvalidEndpoint → ⊥) →
      ((release_record d i e).up ≡ true)
      × Ringed (release_record d i e) (followed (rings_after took) o 0 (release_course (release_in d i) ctx routes) rings)
  unfolding end course now
  release_ringed n = either n (decided end.moved)
