-- A claim keeps the invariant.
use Rattle.std.proofs.Common.{Ok}
use Prim.Native.Nat.{ℕ, ◌≤◌, ◌<◌}
use mathlib.Core.Path.{◌≡◌, refl, sym, ◌∙◌, ap}
use mathlib.Core.Bool.{Bool, true, false, not, cond, ◌&&◌}
use mathlib.Core.List.{List, [], ◌∷◌, ◌++◌}
use mathlib.Core.Logic.{◌⊎◌, inl, inr, ◌↔◌}
use native.Mathlib.Omega.{arith}
use borrow.Author.Tests.{eq-eqb, ne_eqb, not-false}
use lib.Dec.{eqb}
use lib.ListN.{length, get_or}
use Rattle.laws.proofs.Tests.{not_both}
use Rattle.laws.proofs.Cases.{Decided, decided, false_if, or_left_false, or_right_false}
use Rattle.record_ring.specs.Rings.{offer_ok}
use Rattle.record_ring.proofs.Laws.{Offered}
use Rattle.answer.specs.declared.Answer.{Answer}
use Rattle.answer.specs.declared.Answer.TheVariants as answer
use Rattle.answer.specs.Check.{Pass}
use Rattle.answer.specs.Answer.{number, is_accepted, is_lost}
use Rattle.command.specs.declared.Sent.TheVariants as sent
use Rattle.command.specs.Command.{outcome_at}
use Rattle.command.specs.Course.{Course, words, result, played}
use Rattle.command.proofs.Operations.{ByteOperands, operation, EachCommand}
use Rattle.context_block.specs.Blocks.{some_dci}
use Rattle.context.specs.Place.{Spaced}
use Rattle.context.specs.Steps.{word_dcis}
use Rattle.transfer.specs.Routes.{Queue, route_of, queues, ring_for, replaced, with_replaced}
use Rattle.record_endpoint.specs.Order.{dci_at}
use Rattle.record_endpoint.specs.EndpointMap.{is_owned, owned_rings, queues_of, pending_rings, claimed_endpoints, with_active}
use Rattle.record_endpoint.specs.declared.endpoint_map.Owner.TheVariants.{Interface}
use Rattle.record_endpoint.proofs.Laws.{queues_fit, dci_low, dci_high, active_rings}
use Rattle.record_settings.specs.Held.{is_held, alternate_of, setting_words, with_setting}
use Rattle.record_settings.specs.Match.{has_place}
use Rattle.record_settings.proofs.Laws.{match_facts, match_unheld}
use Rattle.theorem_routing.specs.Routing.{NamedBy, Rerouted}
use Rattle.theorem_routing.proofs.Laws.{free_ring, each_dci, words_dci, claim_named, offer_places, offer_routed}
use Rattle.course_steps.specs.End.{End}
use Rattle.theorem_controller.specs.Controller.{CONFIGURE, DISABLE, enabled_after, sent_word}
use Rattle.theorem_controller.proofs.Followed.{followed}
use Rattle.course_claim.specs.Claim.{claim_course}
use Rattle.course_claim.proofs.Laws.{claim_accepted, claim_words, claim_answers, claim_moved, claim_cuts, Refused}
use Rattle.course_claim.proofs.Doubted.{claim_doubted}
use Rattle.course_claim.proofs.Controlled.{claim_sends, claim_operands, claim_accepted_enabled, claim_failed_enabled}
use Rattle.device.specs.declared.record.Device.{Device}
use Rattle.device.specs.Device.{list_of, endpoint_map_in, held_of, quarantined_of}
use Rattle.device.specs.Left.{Left, refused, ended}
use Rattle.device.specs.Check.{record_check}
use Rattle.device.specs.Calls.{on_check}
use Rattle.device.specs.Ask.{asking, commit}
use Rattle.device.specs.Claim.{claim_check, drawn, pending_of, claim_in, claim_record, claim}
use Rattle.device.proofs.ClaimLaws.{undone_to}
use Rattle.device.proofs.Laws.{Passed, passed}
use Rattle.device.proofs.Kept.{ClaimPassed, claim_passed, claim_moves, claim_stays, claim_quarantined}
use Rattle.theorem_slot.specs.Call.{Buffers, claims, commits, left, cut_at, context_cut}
use Rattle.theorem_slot.specs.Groups.{drawn_from, keeps, claimed_groups, broken_groups}
use Rattle.theorem_slot.specs.Plain.{HeldSetting, Plain, plain_route, is_held_dci, without, setting_of, claimed_setting, queues_of_one, Effect, holds_interface, effect_of, held_after, groups_after, anew, observed, seen}
use Rattle.theorem_slot.specs.Theorem.{State}
use Rattle.theorem_slot.proofs.Settings.{last_ring, AllFit, pairs, pairs_append, pairs_without, fit_without, fit_append, alternate_byte}
use Rattle.theorem_slot.proofs.Good.{Live, Unrouted, Good, live_tells, routed_from, named_from, Upheld, enabled_was, live_here, live_one}
use Rattle.theorem_slot.proofs.Step.{accepted_not, lost_not, checked, good_checked, mild_claim, mild_commit, commit_passed, ran, ran_upheld, checked_ran, called_here}
use Rattle.theorem_slot.proofs.Kept.{has, kept_has}
use Rattle.theorem_slot.proofs.Owned.{pending_by_place}
use Rattle.theorem_slot.proofs.Record.{AgreeWith, draws_same}
use Rattle.theorem_slot.proofs.Moved.{claim_keeps, agree_accepted, agree_broke}
use Rattle.theorem_slot.proofs.Made.{fit_active, agree_made, made_moved, made_same, byte_dcis}
use Rattle.theorem_slot.proofs.Claimed.{some_place, owned_ring, fits_other, fits_own, pending_free, claimed_some}

-- What was drawn meets what 01 asks of rings offered.
pub offer_ok_lem :
    (count : ℕ) (rings live : List ℕ) (control : ℕ) (quarantined : List ℕ) → Offered count rings live control quarantined →
    offer_ok count rings live control quarantined ≡ true
unfolding offer_ok
offer_ok_lem count rings live control quarantined o =
    rw (eq-eqb (length rings) count o.counted, o.ok, o.apart, o.not_live, o.not_control, o.not_quarantined)

module _ (slot : ℕ) (before : List ℕ) (s : State) (buffers : Buffers) (i a : ℕ)
    (byte : i < 256) (alternate-byte-new : a < 256) (g : Good slot before s) where
  abbrev d : Device
  d = s.device

  abbrev p : Plain
  p = s.plain

  abbrev effect : Effect
  effect = holds_interface i a

  abbrev rings : List ℕ
  rings = drawn d i a

  abbrev new_words : List ℕ
  new_words = setting_words (list_of d) i a

  abbrev pending : List ℕ
  pending = pending_rings new_words rings

  course : Course End
  course = claim_course (claim_in d i a rings) buffers.ctx s.routes

  end : End
  end = result buffers.outcomes 0 course

  now : State
  now = ran s effect buffers (claim_record d i a rings) course

  upheld : Upheld s now
  unfolding now course operation
  upheld =
      ran_upheld s effect buffers _ course
      (claim_sends (λ c. eqb (operation c) DISABLE ≡ false) (claim_in d i a rings)
      (record { configure = refl; switch = refl; back = refl; stop = λ k. refl; resume = λ k. refl }) buffers.ctx s.routes)

  run : List ℕ → Left
  run o = ended (claim_record d i a rings) (played o 0 course buffers.log)

  refuse : Answer → Left
  refuse x = refused d x buffers.ctx s.routes buffers.log

  -- The checks passed.
  module _ (k : record_check d (length buffers.ctx) (length s.routes) (length buffers.log) (claim_check d i a Pass) ≡ Pass)
      (l : Live slot d p) where
    pass : Passed d (length buffers.ctx) (length s.routes) (length buffers.log)
    pass = (passed d _ _ _ _ k).0

    tests : ClaimPassed d i a
    tests = claim_passed d i a pass.is_sound (passed d _ _ _ _ k).1

    offer : offer_ok (length new_words) rings (endpoint_map_in d).rings d.control (quarantined_of d) ≡ true
    offer = offer_ok_lem _ _ _ _ _ tests.offer

    -- the old setting's words are at the places of the interface's endpoints
    old_place :
        (q : ℕ) → q < 30 →
        has_place q (cond (is_held i (held_of d)) (setting_words (list_of d) i (alternate_of i (held_of d))) [])
        ≡ is_owned (Interface i) (endpoint_map_in d) q
    unfolding has_place
    old_place q h = go (decided (is_held i (held_of d)))
      where
        go :
            Decided (is_held i (held_of d)) →
            has_place q (cond (is_held i (held_of d)) (setting_words (list_of d) i (alternate_of i (held_of d))) [])
            ≡ is_owned (Interface i) (endpoint_map_in d) q
        go (inl t) =
            rw t (sym ((match_facts (list_of d) (held_of d) (endpoint_map_in d) pass.facts.endpoints).owned i q t h))
        go (inr t) =
            rw t
            (sym (match_unheld (list_of d) (held_of d) (endpoint_map_in d)
            (match_facts (list_of d) (held_of d) (endpoint_map_in d) pass.facts.endpoints) i q t h))

    old_dci : (q : ℕ) → q < 30 → some_dci (dci_at q) (claim_in d i a rings).old_words ≡ is_owned (Interface i) (endpoint_map_in d) q
    unfolding claim_in
    old_dci q h = some_place _ q h ∙ old_place q h

    new_dci : (q : ℕ) → q < 30 → some_dci (dci_at q) (claim_in d i a rings).new_words ≡ has_place q new_words
    unfolding claim_in
    new_dci q h = some_place new_words q h

    places : (q : ℕ) → q < 30 → eqb (get_or pending q 0) 0 ≡ not (has_place q new_words)
    places = offer_places new_words rings (endpoint_map_in d).rings d.control (quarantined_of d) offer

    abbrev old : List ℕ
    old = owned_rings (Interface i) (endpoint_map_in d)

    rerouted : Unrouted before slot → Rerouted s.routes slot (queues_of old) (queues_of pending) (claimed_endpoints i pending (endpoint_map_in d))
    rerouted u =
        offer_routed s.routes slot i new_words rings d.control (quarantined_of d) (endpoint_map_in d)
        (routed_from slot s.routes p (endpoint_map_in d) (g.own u) (live_tells slot d p l)) (rw g.long g.room) tests.free
        offer

    named :
        replaced s.routes slot (queues_of old) (queues_of pending) ≡ Ok (tt {0}) →
        NamedBy (with_replaced s.routes slot (queues_of old) (queues_of pending)) slot (claimed_endpoints i pending (endpoint_map_in d))
    named done =
        claim_named s.routes slot i pending (endpoint_map_in d) done
        (named_from slot s.routes p (endpoint_map_in d) g.named (live_tells slot d p l)) (rw g.long g.room)

    was :
        p.broken ≡ false → (q : ℕ) → q < 30 →
        p.enabled (dci_at q) ≡ not (eqb (get_or (endpoint_map_in d).rings q 0) 0)
    was = enabled_was slot before s g l

    -- The plain slot draws the same rings.
    asked : claimed_setting i a p ≡ setting_of p.list i a rings
    unfolding claimed_setting
    asked =
        ap (setting_of p.list i a)
        (ap (λ x. drawn_from p.groups (length (setting_words x i a))) (sym l.list) ∙ draws_same d l.is_sound p.groups l.groups i a)

    settings : List HeldSetting
    settings = without i p.held ++ (setting_of p.list i a rings ∷ [])

    settings_pairs : pairs settings ≡ with_setting i a (held_of d)
    unfolding settings with_setting pairs setting_of
    settings_pairs =
        pairs_append (without i p.held) (setting_of p.list i a rings ∷ [])
        ∙ rw (pairs_without i p.held, l.held)

    settings_fit : AllFit (claimed_endpoints i pending (endpoint_map_in d)) settings
    unfolding settings AllFit
    settings_fit =
        fit_append (claimed_endpoints i pending (endpoint_map_in d)) (without i p.held) _
        (fit_without (endpoint_map_in d) (claimed_endpoints i pending (endpoint_map_in d)) i p.held
        (λ x n. fits_other i pending (endpoint_map_in d) x n (pending_free new_words i pending (endpoint_map_in d) tests.free places x.interface n))
        l.fits)
        (rw (← l.list) (fits_own (list_of d) pass.facts.list i a rings (endpoint_map_in d) places alternate-byte-new), tt)

    spaced : Spaced (claim_in d i a rings).args.spacing (length buffers.ctx)
    unfolding claim_in
    spaced = pass.spaced

    accepted_enabled :
        end.answer ≡ answer.Accepted → p.broken ≡ false → (q : ℕ) → q < 30 →
        followed enabled_after buffers.outcomes 0 course p.enabled (dci_at q)
        ≡ not (eqb (get_or (claimed_endpoints i pending (endpoint_map_in d)).rings q 0) 0)
    unfolding end course
    accepted_enabled e b q h =
        claim_accepted_enabled (claim_in d i a rings) buffers.ctx s.routes buffers.outcomes 0 spaced (dci_at q) (dci_low q h)
        (dci_high q h) p.enabled e
        ∙ rw (was b q h, old_dci q h, new_dci q h) (claimed_some i pending (endpoint_map_in d) q (has_place q new_words) h (places q h))

    -- The rings that are kept, and those of the old setting, by place.
    abbrev new_queues : List Queue
    new_queues = (setting_of p.list i a rings).queues

    kept : (x : ℕ) → keeps x new_queues ≡ has pending x
    unfolding setting_of
    kept =
        kept_has new_queues pending
        (rw (← l.list) (pending_by_place (list_of d) pass.facts.list i a rings places))

    returned : (x : ℕ) → keeps x (queues_of_one i p.held) ≡ has old x
    returned = kept_has (queues_of_one i p.held) old (live_one slot d p l i)

    idle : (q : ℕ) → q < 30 → eqb (get_or pending q 0) 0 ≡ false → is_owned (Interface i) (endpoint_map_in d) q ≡ false → get_or (endpoint_map_in d).rings q 0 ≡ 0
    idle q h z o =
        free_ring new_words i (endpoint_map_in d) q tests.free h (not-false (has_place q new_words) (sym (places q h) ∙ z)) o

    bytes : EachCommand ByteOperands course
    unfolding course claim_in
    bytes =
        claim_operands (claim_in d i a rings) buffers.ctx s.routes byte alternate-byte-new
        (rw (undone_to i (held_of d), ← l.held) (alternate_byte (endpoint_map_in d) i p.held l.fits))
        (byte_dcis (owned_rings (Interface i) (endpoint_map_in d)))

    -- The log says whether the new rings are in doubt.
    in_doubt : Bool
    in_doubt = is_lost end.answer && sent_word CONFIGURE (words buffers.outcomes 0 course)

    doubted : (end.doubted && is_lost end.answer) ≡ in_doubt
    unfolding end course in_doubt
    doubted =
        rw (claim_doubted (claim_in d i a rings) s.routes buffers.outcomes buffers.ctx 0 bytes)
        (both (is_lost end.answer) (sent_word CONFIGURE (words buffers.outcomes 0 course)))
      where
        both : (x y : Bool) → ((x && y) && x) ≡ (x && y)
        both true true = refl
        both true false = refl
        both false y = refl

    -- The groups after each answer.
    accepted_groups : end.answer ≡ answer.Accepted → end.moved ≡ true → AgreeWith now.device now.plain.groups
    unfolding now ran seen groups_after end course pending_of number
    accepted_groups e moved =
        let same : now.plain.groups ≡ claimed_groups new_queues (queues_of_one i p.held) p.groups = rw (e, asked) refl in
        rw same
        (agree_accepted d pass.is_sound p.groups l.groups pass.usable i a tests (claim_record d i a rings end) _ _ new_queues kept
        (claim_moves d _ _ _ i a k end moved) (claim_keeps d i a rings end (λ n. not_both end.moved moved n)) idle (queues_of_one i p.held) returned)

    stayed_groups : end.moved ≡ false → is_accepted end.answer ≡ false → AgreeWith now.device now.plain.groups
    unfolding now ran seen groups_after end course pending_of in_doubt
    stayed_groups moved n = go (decided in_doubt)
      where
        go : Decided in_doubt → AgreeWith now.device now.plain.groups
        go (inl b) =
            let same : now.plain.groups ≡ broken_groups new_queues p.groups = rw (n, b, asked) refl in
            rw same
            (agree_broke d pass.is_sound p.groups l.groups pass.usable i a tests (claim_record d i a rings end) _ _ new_queues kept
            _ (claim_stays d _ _ _ i a k end moved) (active_rings (Interface i) (endpoint_map_in d) end.active) (claim_quarantined d _ _ _ i a k end moved (doubted ∙ b)))
        go (inr b) =
            let same : now.plain.groups ≡ p.groups = rw (n, b) refl in
            rw same
            (agree_made d (claim_record d i a rings end) _ _ _ p.groups (claim_stays d _ _ _ i a k end moved)
            (active_rings (Interface i) (endpoint_map_in d) end.active) (claim_keeps d i a rings end (λ m. doubted ∙ b)) l.groups)

    -- Accepted: the interface's setting is the claimed one.
    accepted_good : end.answer ≡ answer.Accepted → Good slot before now
    unfolding now ran seen held_after end course pending_of claim_in number settings
    accepted_good e =
        let v = claim_moved (claim_in d i a rings) buffers.ctx s.routes buffers.outcomes 0 in
        let moved : end.moved ≡ true = v.by_answer.1 e in
        let m = claim_moves d _ _ _ i a k end moved in
        let held : now.plain.held ≡ settings = rw (e, asked) refl in
        made_moved slot before s now g l (with_setting i a (held_of d)) (claimed_endpoints i pending (endpoint_map_in d)) (is_lost end.answer) m upheld refl
        (ap pairs held ∙ settings_pairs) (rw held settings_fit) (accepted_groups e moved) old pending
        (v.routed moved ∙ ap (λ x. with_replaced s.routes x (queues_of old) (queues_of pending)) l.place)
        (named (ap (λ x. replaced s.routes x (queues_of old) (queues_of pending)) (sym l.place) ∙ v.allowed moved))
        (λ u. (rerouted u).routed)
        (λ b. accepted_enabled e (or_left_false p.broken _ b))

    -- Otherwise it is as it was.
    stayed_good :
        end.moved ≡ false → is_accepted end.answer ≡ false →
        (now.plain.broken ≡ false → (x : ℕ) → 2 ≤ x → x < 32 →
        now.plain.enabled x ≡ is_held_dci p x) →
        Good slot before now
    unfolding now ran seen held_after end course
    stayed_good moved n e =
        let v = claim_moved (claim_in d i a rings) buffers.ctx s.routes buffers.outcomes 0 in
        let m = claim_stays d _ _ _ i a k end moved in
        let held : now.plain.held ≡ p.held = rw n refl in
        made_same slot before s now g l (held_of d) (with_active (Interface i) end.active (endpoint_map_in d)) (is_lost end.answer) m upheld refl
        (ap pairs held ∙ l.held) (rw held (fit_active (Interface i) end.active (endpoint_map_in d) p.held l.fits)) (stayed_groups moved n) (v.kept moved)
        held e

    failed_enabled :
        (code : ℕ) → end.answer ≡ answer.Failed code → p.broken ≡ false → (x : ℕ) → 2 ≤ x → x < 32 →
        followed enabled_after buffers.outcomes 0 course p.enabled x ≡ is_held_dci p x
    unfolding end course
    failed_enabled code e b =
        each_dci (λ x. followed enabled_after buffers.outcomes 0 course p.enabled x ≡ is_held_dci p x)
        (λ q h.
        claim_failed_enabled (claim_in d i a rings) buffers.ctx s.routes buffers.outcomes 0 spaced (dci_at q) (dci_low q h)
        (dci_high q h) p.enabled code e
        (λ o. was b q h ∙ ap not (owned_ring i (endpoint_map_in d) q (sym (old_dci q h) ∙ o)))
        (λ w o. was b q h ∙ ap not (eq-eqb _ 0 (free_ring new_words i (endpoint_map_in d) q tests.free h (sym (new_dci q h) ∙ w) (sym (old_dci q h) ∙ o))))
        ∙ g.enabled b (dci_at q) (dci_low q h) (dci_high q h))

    ended_good :
        (end.answer ≡ answer.Accepted) ⊎ Refused end.answer → ((end.moved ≡ true) ↔ (end.answer ≡ answer.Accepted)) →
        Good slot before now
    unfolding now ran seen end course number
    ended_good (inl e) m = accepted_good e
    ended_good (inr (inl (code, e))) m =
        let n : is_accepted end.answer ≡ false = rw e refl in
        stayed_good (false_if end.moved (λ t. accepted_not n (m.0 t))) n
        (λ b. failed_enabled code e (or_left_false p.broken _ b))
    ended_good (inr (inr (inl e))) m =
        let n : is_accepted end.answer ≡ false = rw e refl in
        stayed_good (false_if end.moved (λ t. accepted_not n (m.0 t))) n
        (λ b. lost_not end.answer (rw e refl) (or_right_false p.broken _ b))
    ended_good (inr (inr (inr e))) m =
        let n : is_accepted end.answer ≡ false = rw e refl in
        stayed_good (false_if end.moved (λ t. accepted_not n (m.0 t))) n
        (λ b. lost_not end.answer (rw e refl) (or_right_false p.broken _ b))

    few : length (words buffers.outcomes 0 course) ≤ length buffers.log
    unfolding course claim_in
    few =
        omega (
          arith,
          claim_words (claim_in d i a rings) buffers.ctx s.routes buffers.outcomes 0
              (queues_fit (owned_rings (Interface i) (endpoint_map_in d))),
          pass.room,
        )

    good_end : Good slot before now
    unfolding end course
    good_end =
        let c = claim_in d i a rings in
        ended_good (claim_answers c buffers.ctx s.routes buffers.outcomes 0)
        (claim_moved c buffers.ctx s.routes buffers.outcomes 0).by_answer

    run_good : Good slot before (checked s effect buffers Pass run refuse)
    unfolding run now anew course
    run_good =
        rw (checked_ran s effect buffers (claim_record d i a rings) course refuse few
        (claim_cuts (claim_in d i a rings) buffers.ctx s.routes) bytes (λ b o ws q. refl))
        good_end

  pub claim_good : Good slot before (called_here s (record { asked = claims i a; buffers = buffers }))
  unfolding called_here context_cut cut_at left effect_of claim checked run refuse course
  claim_good =
      good_checked (Good slot before) s effect buffers run buffers.ctx buffers.log _ (mild_claim d _ _ _ i a) g
      (λ k. run_good k (live_here slot before s g (passed d _ _ _ _ k).0.usable))

  pub commit_good :
      (drops adds : ℕ) (shown : List ℕ) → Good slot before (called_here s (record { asked = commits (asking i a drops adds shown); buffers = buffers }))
  unfolding called_here context_cut cut_at left effect_of commit checked run refuse course
  commit_good drops adds shown =
      good_checked (Good slot before) s effect buffers run buffers.ctx buffers.log _ (mild_commit d _ _ _ (asking i a drops adds shown)) g
      (λ e.
      let k = commit_passed d _ _ _ (asking i a drops adds shown) e in
      run_good k (live_here slot before s g (passed d _ _ _ _ k).0.usable))

  -- With every outcome done it is accepted.
  module _ (k : record_check d (length buffers.ctx) (length s.routes) (length buffers.log) (claim_check d i a Pass) ≡ Pass)
      (done : (n : ℕ) → n < 32 → outcome_at buffers.outcomes n ≡ sent.Done) where
    claimed : left (claims i a) buffers d s.routes ≡ run buffers.outcomes
    unfolding left claim run course on_check
    claimed = rw k refl

    end_accepted : Unrouted before slot → end.answer ≡ answer.Accepted
    unfolding end course claim_in pending_of
    end_accepted u =
        let l = live_here slot before s g (passed d _ _ _ _ k).0.usable in
        let were = owned_rings (Interface i) (endpoint_map_in d) in
        ap (λ (e : End). e.answer)
        (claim_accepted (claim_in d i a rings) buffers.ctx s.routes buffers.outcomes 0
        (λ n l h. done n (omega (arith, h, queues_fit were)))
        (ap (λ x. replaced s.routes x (queues_of were) (queues_of pending)) l.place ∙ (rerouted k l u).done))

    pub claim_done : Unrouted before slot → (left (claims i a) buffers d s.routes).answer ≡ answer.Accepted
    unfolding run ended played end
    claim_done u = ap (λ (x : Left). x.answer) claimed ∙ end_accepted u

  -- An accepted claim's rings are routed.
  pub claim_routes :
      Unrouted before slot → (left (claims i a) buffers d s.routes).answer ≡ answer.Accepted → (x : ℕ) → x < 32 →
      some_dci x (setting_words p.list i a) ≡ true → some_dci 1 (setting_words p.list i a) ≡ false →
      route_of (left (claims i a) buffers d s.routes).routes slot x
      ≡ ring_for x (queues (word_dcis (setting_words p.list i a)) (drawn_from p.groups (length (setting_words p.list i a)))) 0
  unfolding called_here effect_of observed anew seen held_after number plain_route setting_of claimed_setting
  claim_routes u e x h w z =
      let ws = setting_words p.list i a in
      let next = called_here s (record { asked = claims i a; buffers = buffers }) in
      let held : next.plain.held ≡ without i p.held ++ (claimed_setting i a p ∷ []) = rw e refl in
      let n : eqb x 1 ≡ false = ne_eqb x 1 (λ q. not_both (some_dci 1 ws) (rw q at w) z) in
      claim_good.own u x h
      ∙ rw (n, held) (last_ring x (without i p.held) (claimed_setting i a p) (words_dci x ws (drawn_from p.groups (length ws)) ∙ w))
