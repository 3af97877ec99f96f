-- A claim that passes its checks: its record has what the controller may hold.
use Prim.Native.Nat.{ℕ, ◌%◌, ◌^◌, ◌<◌}
use mathlib.Core.Path.{◌≡◌, refl, sym, ap, ◌∙◌}
use mathlib.Core.Logic.{◌⊎◌, inl, inr, ⊎_elim}
use mathlib.Core.Bool.{Bool, true, false, not, cond}
use mathlib.Core.List.{List, []}
use lib.Dec.{eqb, lit<}
use lib.ListN.{length, get_or}
use Rattle.laws.specs.Distinct.{elem}
use Rattle.laws.proofs.Tests.{and-true, not_both}
use Rattle.laws.proofs.Cases.{Decided, decided, false_if, or_left, or_right}
use Rattle.answer.specs.declared.Answer.TheVariants as answer
use Rattle.answer.specs.Answer.{number, is_lost}
use Rattle.answer.specs.Check.{Pass}
use Rattle.command.specs.Course.{Course, result}
use Rattle.command.proofs.Operations.{operation, EachCommand}
use Rattle.context_block.specs.Blocks.{some_dci}
use Rattle.transfer.specs.Routes.{ring_for}
use Rattle.record_endpoint.specs.Order.{dci_at}
use Rattle.record_endpoint.specs.EndpointMap.{is_owned, owned_rings, pending_rings, claimed_ring}
use Rattle.record_endpoint.specs.declared.endpoint_map.EndpointMap.{EndpointMap}
use Rattle.record_endpoint.specs.declared.endpoint_map.Owner.TheVariants.{Interface}
use Rattle.record_endpoint.proofs.Laws.{dci_low, dci_high, active_rings, owned_at, claimed_ring_lem, pending_length}
use Rattle.record_settings.specs.Held.{is_held, alternate_of, setting_words}
use Rattle.record_settings.specs.Match.{has_place}
use Rattle.record_settings.proofs.Laws.{match_facts, match_unheld}
use Rattle.record_checks.proofs.Laws.{Apart, apart_offered}
use Rattle.theorem_routing.proofs.Laws.{free_ring, offer_places}
use Rattle.course_steps.specs.End.{End}
use Rattle.course_steps.proofs.Laws.{queue_dcis_lem}
use Rattle.theorem_controller.proofs.Followed.{followed, follows_result}
use Rattle.course_claim.specs.Claim.{claim_course}
use Rattle.course_claim.proofs.Laws.{claim_answers, claim_moved, Refused}
use Rattle.course_claim.proofs.Contexts.{ClaimFits}
use Rattle.course_claim.proofs.Controlled.{claim_sends}
use Rattle.device.specs.declared.record.Device.{Device}
use Rattle.device.specs.Device.{list_of, endpoint_map_in, held_of, quarantined_of, given_of}
use Rattle.device.specs.Check.{record_check}
use Rattle.device.specs.Claim.{claim_check, drawn, pending_of, claim_in, claim_record}
use Rattle.device.proofs.Laws.{Passed, passed}
use Rattle.device.proofs.Made.{sound_clean, sound_apart}
use Rattle.device.proofs.Kept.{ClaimPassed, claim_passed, claim_moves, claim_stays, claim_quarantined}
use Rattle.device.proofs.ClaimLaws.{undone_to}
use Rattle.device.proofs.Fit.{placed_setting, placed_if, placed_endpoints, alternate_byte, pending_below, owned_below}
use Rattle.theorem_slot.proofs.Kept.{has, queue_has}
use Rattle.theorem_slot.proofs.Claim.{offer_ok_lem}
use Rattle.theorem_slot.proofs.Claimed.{some_place}
use Rattle.theorem_doubt.specs.Doubt.{rings_after}
use Rattle.theorem_doubt.proofs.Held.{Own, KeptBy, Safe, Outer, Ringed, made_ringed, one_kept, own_safe, queue_at, apart_even, apart_wide, listed_wide, spacing_own}
use Rattle.theorem_doubt.proofs.Outer.{Leaving, outer_followed}
use Rattle.theorem_doubt.proofs.Claim.{Says, Told, claim_sees}

module _ (d : Device) (i a : ℕ) (byte-i : i < 256) (byte-a : a < 256) (ctx routes : List ℕ) (table log : ℕ)
    (k : record_check d (length ctx) table log (claim_check d i a Pass) ≡ Pass)
    (up : d.up ≡ true) (rings : ℕ → ℕ) (ringed : Ringed d rings) (took : Bool) (o : List ℕ) where
  abbrev c : EndpointMap
  c = endpoint_map_in d

  abbrev drew : List ℕ
  drew = drawn d i a

  abbrev new : List ℕ
  new = setting_words (list_of d) i a

  abbrev pending : List ℕ
  pending = pending_rings new drew

  pass : Passed d (length ctx) table log
  pass = (passed d _ _ _ _ k).0

  tests : ClaimPassed d i a
  tests = claim_passed d i a pass.is_sound (passed d _ _ _ _ k).1

  own : Own d rings
  own = ringed.own pass.usable

  course : Course End
  course = claim_course (claim_in d i a drew) ctx routes

  end : End
  end = result o 0 course

  now : ℕ → ℕ
  now = followed (rings_after took) o 0 course rings

  long : length c.rings ≡ 30
  long = (sound_clean d pass.is_sound).whole.rings

  held_apart : Apart c.rings d.control (given_of d)
  held_apart = sound_apart d pass.is_sound

  apart : Apart pending d.control (given_of d)
  apart = apart_offered new drew c.rings d.control (quarantined_of d) (given_of d) tests.offer tests.from_given

  fits : ClaimFits (claim_in d i a drew)
  unfolding claim_in pending_of
  fits =
      let f = pass.facts in
      record {
        interface = byte-i;
        alternate = byte-a;
        old_alternate = rw (undone_to i (held_of d)) (alternate_byte (list_of d) (held_of d) f.settings i);
        old_words = placed_endpoints _ (placed_if (list_of d) f.list (is_held i (held_of d)) i (alternate_of i (held_of d)));
        new_words = placed_endpoints new (placed_setting (list_of d) f.list i a);
        old = λ x. owned_below (2 ^ 64) x (Interface i) c (lit< tt) (apart_wide c.rings d.control (given_of d) held_apart long ringed.wide);
        pending = λ x. pending_below (2 ^ 64) x new drew (lit< tt) (listed_wide drew (given_of d) tests.from_given ringed.wide);
        dcis = queue_dcis_lem c.rings;
      }

  places : (q : ℕ) → q < 30 → eqb (get_or pending q 0) 0 ≡ not (has_place q new)
  places = offer_places new drew c.rings d.control (quarantined_of d) (offer_ok_lem _ _ _ _ _ tests.offer)

  -- The words of the old setting are at the places of the interface's endpoints.
  old_dci : (q : ℕ) → q < 30 → some_dci (dci_at q) (claim_in d i a drew).old_words ≡ is_owned (Interface i) c q
  unfolding claim_in has_place
  old_dci q h = some_place _ q h ∙ go (decided (is_held i (held_of d)))
    where
      go :
          Decided (is_held i (held_of d)) →
          has_place q (cond (is_held i (held_of d)) (setting_words (list_of d) i (alternate_of i (held_of d))) [])
          ≡ is_owned (Interface i) c q
      go (inl t) = rw t (sym ((match_facts (list_of d) (held_of d) c pass.facts.endpoints).owned i q t h))
      go (inr t) =
          rw t (sym (match_unheld (list_of d) (held_of d) c (match_facts (list_of d) (held_of d) c pass.facts.endpoints) i q t h))

  new_dci : (q : ℕ) → q < 30 → some_dci (dci_at q) (claim_in d i a drew).new_words ≡ has_place q new
  unfolding claim_in
  new_dci q h = some_place new q h

  pending_ring : (q : ℕ) → q < 30 → ring_for (dci_at q) (claim_in d i a drew).pending 0 ≡ get_or pending q 0
  unfolding claim_in pending_of
  pending_ring q h = queue_at pending q h

  old_ring : (q : ℕ) → q < 30 → ring_for (dci_at q) (claim_in d i a drew).old 0 ≡ cond (is_owned (Interface i) c q) (get_or c.rings q 0) 0
  unfolding claim_in
  old_ring q h = queue_at (owned_rings (Interface i) c) q h ∙ owned_at (Interface i) c q h

  old_even : (q : ℕ) → q < 30 → ring_for (dci_at q) (claim_in d i a drew).old 0 % 16 ≡ 0
  old_even q h = rw (old_ring q h) (go (is_owned (Interface i) c q))
    where
      go : (b : Bool) → cond b (get_or c.rings q 0) 0 % 16 ≡ 0
      go true = apart_even c.rings d.control (given_of d) held_apart long q h
      go false = refl

  new_even : (q : ℕ) → q < 30 → ring_for (dci_at q) (claim_in d i a drew).pending 0 % 16 ≡ 0
  new_even q h = rw (pending_ring q h) (apart_even pending d.control (given_of d) apart (pending_length new drew) q h)

  abbrev was : ℕ → ℕ
  was q = rings (dci_at q)

  abbrev made : ℕ → ℕ
  made q =
      cond (some_dci (dci_at q) (claim_in d i a drew).new_words) (ring_for (dci_at q) (claim_in d i a drew).pending 0)
      (cond (some_dci (dci_at q) (claim_in d i a drew).old_words) 0 (was q))

  abbrev back : ℕ → ℕ
  back q =
      cond (some_dci (dci_at q) (claim_in d i a drew).old_words) (ring_for (dci_at q) (claim_in d i a drew).old 0)
      (cond (some_dci (dci_at q) (claim_in d i a drew).new_words) 0 (was q))

  says : (q : ℕ) → q < 30 → Says (was q) (made q) (back q) end.answer (now (dci_at q)) end.doubted
  unfolding Told claim_in course end now
  says q h =
      let two = dci_low q h in
      let high = dci_high q h in
      follows_result (rings_after took)
      (Told (claim_in d i a drew) fits routes (dci_at q) two high rings took (old_even q h) (new_even q h))
      o 0 course rings
      (claim_sees (claim_in d i a drew) fits routes (dci_at q) two high rings took (old_even q h) (new_even q h) ctx pass.spaced
      (spacing_own d (length ctx) pass.is_sound pass.context))

  -- What the claim makes of an endpoint is the ring that the endpoints after it have there.
  made_in : (q : ℕ) → q < 30 → made q ≡ claimed_ring i pending c q
  unfolding claimed_ring
  made_in q h = rw (new_dci q h, old_dci q h, pending_ring q h, places q h) (go (has_place q new) (is_owned (Interface i) c q))
    where
      go :
          (n w : Bool) →
          cond n (get_or pending q 0) (cond w 0 (was q)) ≡ cond (not n) (cond w 0 (get_or c.rings q 0)) (get_or pending q 0)
      go true w = refl
      go false true = refl
      go false false = own q h

  -- Undone, its own: a new endpoint that is not the interface's had none.
  back_in : (q : ℕ) → q < 30 → back q ≡ get_or c.rings q 0
  back_in q h = rw (new_dci q h, old_dci q h, old_ring q h) (go (has_place q new) (is_owned (Interface i) c q) (free_ring new i c q tests.free h))
    where
      go :
          (n w : Bool) → (n ≡ true → w ≡ false → get_or c.rings q 0 ≡ 0) →
          cond w (cond w (get_or c.rings q 0) 0) (cond n 0 (was q)) ≡ get_or c.rings q 0
      go n true f = refl
      go true false f = sym (f refl refl)
      go false false f = own q h

  abbrev next : Device
  next = claim_record d i a drew end

  accepted : end.answer ≡ answer.Accepted → end.moved ≡ true → Own next now
  unfolding pending_of
  accepted e m q h =
      let there : get_or (endpoint_map_in next).rings q 0 ≡ claimed_ring i pending c q =
      ap (λ (y : EndpointMap). get_or y.rings q 0) (claim_moves d _ _ _ i a k end m).endpoints ∙ claimed_ring_lem i pending c q h in
      (says q h).accepted e ∙ made_in q h ∙ sym there

  -- Where the settings stay, the endpoints have their rings.
  module _ (m : end.moved ≡ false) where
    stays : (endpoint_map_in next).rings ≡ c.rings
    stays = ap (λ (y : EndpointMap). y.rings) (claim_stays d _ _ _ i a k end m).endpoints ∙ active_rings (Interface i) c end.active

    failed : (code : ℕ) → end.answer ≡ answer.Failed code → Own next now
    failed code e q h = rw stays (⊎_elim (λ z. z ∙ own q h) (λ z. z ∙ back_in q h) ((says q h).failed code e))

    held : (q x : ℕ) → x ≡ get_or c.rings q 0 → (x ≡ 0) ⊎ KeptBy next x
    held q x e = one_kept next x (endpoint_map_in next).rings q (rw stays e) (λ t. or_left _ _ t)

    -- Lost: a new ring is in quarantine, any other is the endpoint's.
    lost : is_lost end.answer ≡ true → Safe next now
    unfolding claimed_ring pending_of
    lost l q h = go (decided end.doubted)
      where
        new_kept : end.doubted ≡ true → (x : ℕ) → x ≡ get_or pending q 0 → (x ≡ 0) ⊎ KeptBy next x
        new_kept t x e =
            one_kept next x pending q e
            (λ y.
            or_right (has (endpoint_map_in next).rings x) (elem x (quarantined_of next))
            (ap (elem x) (claim_quarantined d _ _ _ i a k end m (and-true end.doubted (is_lost end.answer) t l))
            ∙ queue_has pending x (pending_length new drew)
            ∙ y))

        one :
            end.doubted ≡ true → (x : ℕ) (u w : Bool) → x ≡ cond u (cond w 0 (get_or c.rings q 0)) (get_or pending q 0) → (x ≡ 0) ⊎ KeptBy next x
        one t x true true y = inl y
        one t x true false y = held q x y
        one t x false w y = new_kept t x y

        go : Decided end.doubted → (now (dci_at q) ≡ 0) ⊎ KeptBy next (now (dci_at q))
        go (inr n) = held q (now (dci_at q)) ((says q h).undoubted l n ∙ own q h)
        go (inl t) =
            ⊎_elim (λ z. held q (now (dci_at q)) (z ∙ own q h))
            (⊎_elim (λ z. one t (now (dci_at q)) (eqb (get_or pending q 0) 0) (is_owned (Interface i) c q) (z ∙ made_in q h))
            (λ z. held q (now (dci_at q)) (z ∙ back_in q h))) (says q h).any

  leaving : EachCommand Leaving course
  unfolding course operation
  leaving =
      claim_sends Leaving (claim_in d i a drew)
      (record { configure = refl; switch = refl; back = refl; stop = λ k. refl; resume = λ k. refl }) ctx routes

  outer : (x : ℕ) → Outer x → now x ≡ rings x
  unfolding now
  outer x h = outer_followed took o 0 course rings x h leaving

  first : now 1 ≡ d.control
  first = outer 1 refl ∙ ringed.first pass.usable

  ended_ringed : (end.answer ≡ answer.Accepted) ⊎ Refused end.answer → (next.up ≡ true) × Ringed next now
  unfolding number end course
  ended_ringed (inl e) =
      let m = (claim_moved (claim_in d i a drew) ctx routes o 0).by_answer.1 e in
      made_ringed (claim_moves d _ _ _ i a k end m) up ringed (λ l. accepted e m) (λ l. first) (own_safe next now (accepted e m)) (λ x h. inr (outer x h))
  ended_ringed (inr r) = go r
    where
      m : end.moved ≡ false
      m = false_if end.moved (λ t. other r ((claim_moved (claim_in d i a drew) ctx routes o 0).by_answer.0 t))
        where
          other : Refused end.answer → end.answer ≡ answer.Accepted → ⊥
          other (inl (code, e)) z = absurd (cc (sym z ∙ e))
          other (inr (inl e)) z = absurd (cc (sym z ∙ e))
          other (inr (inr e)) z = absurd (cc (sym z ∙ e))

      stayed : (is_lost end.answer ≡ false → Own next now) → Safe next now → (next.up ≡ true) × Ringed next now
      stayed w s = made_ringed (claim_stays d _ _ _ i a k end m) up ringed w (λ l. first) s (λ x h. inr (outer x h))

      broke : is_lost end.answer ≡ true → (next.up ≡ true) × Ringed next now
      broke l = stayed (λ n. not_both (is_lost end.answer) l n) (lost m l)

      go : Refused end.answer → (next.up ≡ true) × Ringed next now
      go (inl (code, e)) = stayed (λ l. failed m code e) (own_safe next now (failed m code e))
      go (inr (inl e)) = broke (rw e refl)
      go (inr (inr e)) = broke (rw e refl)

  pub claim_ringed :
      let e = result o 0 (claim_course (claim_in d i a (drawn d i a)) ctx routes) in
      ((claim_record d i a (drawn d i a) e).up ≡ true)
      × Ringed (claim_record d i a (drawn d i a) e) (followed (rings_after took) o 0 (claim_course (claim_in d i a (drawn d i a)) ctx routes) rings)
  unfolding end course now
  claim_ringed = ended_ringed (claim_answers (claim_in d i a drew) ctx routes o 0)
