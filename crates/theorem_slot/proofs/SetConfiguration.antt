-- A set configuration keeps the invariant.
use Rattle.std.proofs.Common.{Ok}
use Prim.Native.Nat.{ℕ, ◌≤◌, ◌<◌}
use mathlib.Core.Path.{◌≡◌, refl, sym, ◌∙◌, ap}
use mathlib.Core.Bool.{Bool, true, false, not, ◌&&◌, ◌||◌, cond, or_assoc}
use mathlib.Core.List.{List, [], ◌∷◌, ◌++◌}
use mathlib.Core.Logic.{◌⊎◌, inl, inr}
use native.Mathlib.Omega.{arith}
use borrow.Author.Tests.{eq-eqb, eqb-true, eqb-false}
use lib.Dec.{eqb}
use lib.ListN.{length, get_or, replicate, get_or-replicate}
use Rattle.laws.proofs.Tests.{and_left, and_right, not_both}
use Rattle.laws.proofs.Cases.{Decided, decided, or_left, or_right, or_cases, or_left_false, or_right_false}
use Rattle.answer.specs.declared.Answer.{Answer}
use Rattle.answer.specs.declared.Answer.TheVariants as answer
use Rattle.answer.specs.Check.{Pass}
use Rattle.answer.specs.Answer.{number, is_lost}
use Rattle.command.specs.Course.{Course, words, result, played}
use Rattle.command.proofs.Operations.{ByteOperands, operation, EachCommand}
use Rattle.descriptor.specs.Word.{endpoint_descriptor}
use Rattle.context_block.specs.Blocks.{some_dci}
use Rattle.context.specs.Place.{Spaced}
use Rattle.transfer.specs.Routes.{replaced, with_replaced}
use Rattle.record_endpoint.specs.Order.{PLACES, place_of, dci_at}
use Rattle.record_endpoint.specs.EndpointMap.{is_owned, owns, queues_of, no_endpoints, with_active}
use Rattle.record_endpoint.specs.declared.endpoint_map.EndpointMap.{EndpointMap}
use Rattle.record_endpoint.specs.declared.endpoint_map.Owner.TheVariants.{Any, Interface}
use Rattle.record_endpoint.proofs.Laws.{active_rings, queues_fit, dci_low, dci_high}
use Rattle.record_settings.specs.Held.{Held, is_held, alternate_of, setting_words, held_words, each_setting}
use Rattle.record_settings.specs.Match.{has_place, agree, owns_places, all_own, endpoints_match}
use Rattle.record_settings.proofs.Laws.{each_at, match_facts}
use Rattle.theorem_routing.specs.Routing.{RoutedBy, NamedBy}
use Rattle.theorem_routing.proofs.Laws.{each_dci, no_queues, bare_done, bare_routed}
use Rattle.course_steps.specs.End.{End}
use Rattle.theorem_controller.specs.Controller.{SET-CONFIGURATION, DISABLE, enabled_after, done_word}
use Rattle.theorem_controller.proofs.Followed.{followed}
use Rattle.course_set_configuration.specs.SetConfiguration.{set_course}
use Rattle.course_set_configuration.proofs.Laws.{set_words, set_cuts, OneAnswer, Answered, set_answers, set_moved, set_sends, set_operands, set_out}
use Rattle.course_set_configuration.proofs.Controlled.{set_accepted_enabled, set_failed_enabled}
use Rattle.device.specs.declared.record.Device.{Device}
use Rattle.device.specs.Device.{list_of, endpoint_map_in, held_of}
use Rattle.device.specs.Left.{Left, refused, ended}
use Rattle.device.specs.Check.{record_check}
use Rattle.device.specs.SetConfiguration.{settings_in, set_record, set_configuration}
use Rattle.device.proofs.Laws.{Passed, passed}
use Rattle.device.proofs.Kept.{set_moves, set_stays, set_quarantined}
use Rattle.theorem_slot.specs.Call.{Buffers, configures, left, cut_at, context_cut}
use Rattle.theorem_slot.specs.Groups.{Groups, returned_groups, ended_groups}
use Rattle.theorem_slot.specs.Plain.{Plain, held_queues, is_held_dci, Effect, ends_all, effect_of, held_after, groups_after, anew, seen}
use Rattle.theorem_slot.specs.Theorem.{State}
use Rattle.theorem_slot.proofs.Settings.{AllFit, pairs}
use Rattle.theorem_slot.proofs.Good.{Live, Unrouted, Good, live_tells, routed_from, named_from, Upheld, enabled_was, live_here, live_by_place}
use Rattle.theorem_slot.proofs.Step.{lost_not, checked, good_checked, mild_set, ran, ran_upheld, checked_ran, called_here}
use Rattle.theorem_slot.proofs.Kept.{kept_has}
use Rattle.theorem_slot.proofs.Record.{AgreeWith}
use Rattle.theorem_slot.proofs.Moved.{set_keeps, agree_bare, agree_bare_lost}
use Rattle.theorem_slot.proofs.Disconnect.{lost_refused}
use Rattle.theorem_slot.proofs.Made.{fit_active, agree_made, made_moved, made_same, byte_dcis}
use Rattle.theorem_slot.proofs.Claimed.{some_place, owned_ring}

-- Places of the words of several settings.
place_append : (q : ℕ) (x y : List ℕ) → has_place q (x ++ y) ≡ (has_place q x || has_place q y)
unfolding has_place
place_append q [] y = refl
place_append q (w ∷ x) y = rw (place_append q x y) (sym (or_assoc (eqb (place_of (endpoint_descriptor w).address) q) (has_place q x) (has_place q y)))

-- A held setting's places are among them.
pub held_place :
    (list : List ℕ) (hs : List Held) (j q : ℕ) → is_held j hs ≡ true → has_place q (setting_words list j (alternate_of j hs)) ≡ true →
    has_place q (held_words list hs) ≡ true
unfolding is_held alternate_of held_words
held_place list [] j q h w = not_both false h refl
held_place list (x ∷ hs) j q h w =
    place_append q (setting_words list x.interface x.alternate) (held_words list hs)
    ∙ go (decided (eqb x.interface j)) (held_place list hs j q)
  where
    go :
        Decided (eqb x.interface j) →
        (is_held j hs ≡ true → has_place q (setting_words list j (alternate_of j hs)) ≡ true → has_place q (held_words list hs) ≡ true) →
        (has_place q (setting_words list x.interface x.alternate) || has_place q (held_words list hs)) ≡ true
    go (inl t) r =
        or_left (has_place q (setting_words list x.interface x.alternate)) _ (rw (eqb-true x.interface j t) (rw t at w))
    go (inr t) r =
        or_right (has_place q (setting_words list x.interface x.alternate)) _ (r (rw t at h) (rw t at w))

same_true : (a b : Bool) → agree a b ≡ true → a ≡ true → b ≡ true
unfolding agree
same_true true b e f = e
same_true false b e f = not_both false f refl

-- Where the endpoints match, each of these places has a ring.
place_held :
    (list : List ℕ) (hs : List Held) (c : EndpointMap) (q : ℕ) → all_own list hs c ≡ true → q < 30 → has_place q (held_words list hs) ≡ true →
    eqb (get_or c.rings q 0) 0 ≡ false
unfolding all_own each_setting held_words has_place owns_places
place_held list [] c q o h w = not_both false w refl
place_held list (x ∷ hs) c q o h w =
    go (or_cases first (has_place q (held_words list hs)) (sym (place_append q (setting_words list x.interface x.alternate) (held_words list hs)) ∙ w))
    (place_held list hs c q (and_right mine _ o) h)
  where
    first : Bool
    first = has_place q (setting_words list x.interface x.alternate)

    mine : Bool
    mine = owns_places (setting_words list x.interface x.alternate) x.interface c

    go :
        (has_place q (setting_words list x.interface x.alternate) ≡ true) ⊎ (has_place q (held_words list hs) ≡ true) →
        (has_place q (held_words list hs) ≡ true → eqb (get_or c.rings q 0) 0 ≡ false) →
        eqb (get_or c.rings q 0) 0 ≡ false
    go (inl t) r =
        owned_ring x.interface c q
        (same_true (has_place q (setting_words list x.interface x.alternate)) (is_owned (Interface x.interface) c q)
        (each_at _ (and_left mine _ o) q h) t)
    go (inr t) r = r t

-- No endpoints, none to be routed.
none_named : (routes : List ℕ) (slot : ℕ) → NamedBy routes slot no_endpoints
unfolding no_endpoints
none_named routes slot q h z = absurd (z (get_or-replicate 30 q 0 0 h))

module _ (slot : ℕ) (before : List ℕ) (s : State) (buffers : Buffers) (value : ℕ) (byte : value < 256) (g : Good slot before s) where
  abbrev d : Device
  d = s.device

  abbrev p : Plain
  p = s.plain

  abbrev effect : Effect
  effect = ends_all SET-CONFIGURATION

  course : Course End
  course = set_course (settings_in d value) buffers.ctx s.routes

  end : End
  end = result buffers.outcomes 0 course

  now : State
  now = ran s effect buffers (set_record d value) course

  upheld : Upheld s now
  unfolding now course operation
  upheld =
      ran_upheld s effect buffers _ course
      (set_sends (λ c. eqb (operation c) DISABLE ≡ false) (settings_in d value)
      (record { configure = refl; switch = refl; evaluate = refl; stop = λ k. refl; resume = λ k. refl }) buffers.ctx s.routes)

  run : List ℕ → Left
  run o = ended (set_record d value) (played o 0 course buffers.log)

  refuse : Answer → Left
  refuse x = refused d x buffers.ctx s.routes buffers.log

  -- The checks passed.
  module _ (k : record_check d (length buffers.ctx) (length s.routes) (length buffers.log) Pass ≡ Pass) (l : Live slot d p) where
    pass : Passed d (length buffers.ctx) (length s.routes) (length buffers.log)
    pass = (passed d _ _ _ _ k).0

    abbrev rings : List ℕ
    rings = (endpoint_map_in d).rings

    was : p.broken ≡ false → (q : ℕ) → q < 30 → p.enabled (dci_at q) ≡ not (eqb (get_or rings q 0) 0)
    was = enabled_was slot before s g l

    spaced : Spaced (settings_in d value).spacing (length buffers.ctx)
    unfolding settings_in
    spaced = pass.spaced

    out : replaced s.routes slot (queues_of rings) [] ≡ Ok (tt {0})
    out =
        bare_done s.routes slot (endpoint_map_in d) (named_from slot s.routes p (endpoint_map_in d) g.named (live_tells slot d p l))

    routed : Unrouted before slot → RoutedBy (with_replaced s.routes slot (queues_of rings) (queues_of (replicate PLACES 0))) slot no_endpoints
    routed u =
        rw no_queues
        (bare_routed s.routes slot (endpoint_map_in d) (routed_from slot s.routes p (endpoint_map_in d) (g.own u) (live_tells slot d p l))
        (rw g.long g.room)).routed

    allowed : replaced s.routes d.slot.0 (queues_of rings) [] ≡ Ok (tt {0})
    allowed = ap (λ x. replaced s.routes x (queues_of rings) []) l.place ∙ out

    -- The held settings end exactly if the settings of the record are moved.
    log_tells : done_word SET-CONFIGURATION buffers.outcomes 0 (words buffers.outcomes 0 course) ≡ end.moved
    unfolding end course settings_in
    log_tells = set_out (settings_in d value) s.routes buffers.outcomes buffers.ctx 0 byte (byte_dcis rings) allowed

    words_dci : (q : ℕ) → q < 30 → some_dci (dci_at q) (settings_in d value).words ≡ has_place q (held_words (list_of d) (held_of d))
    unfolding settings_in
    words_dci q h = some_place (held_words (list_of d) (held_of d)) q h

    -- Each endpoint of the record is one of the held settings'.
    ring_word : (q : ℕ) → q < 30 → eqb (get_or rings q 0) 0 ≡ false → has_place q (held_words (list_of d) (held_of d)) ≡ true
    unfolding is_owned owns
    ring_word q h e =
        let m = match_facts (list_of d) (held_of d) (endpoint_map_in d) pass.facts.endpoints in
        let j = get_or (endpoint_map_in d).owners q 0 in
        let t : is_held j (held_of d) ≡ true = m.held q h (eqb-false (get_or rings q 0) 0 e) in
        held_place (list_of d) (held_of d) j q t (sym (m.owned j q t h) ∙ rw (e, eq-eqb j j refl) refl)

    word_ring : (q : ℕ) → q < 30 → has_place q (held_words (list_of d) (held_of d)) ≡ true → eqb (get_or rings q 0) 0 ≡ false
    unfolding endpoints_match
    word_ring q h w =
        place_held (list_of d) (held_of d) (endpoint_map_in d) q (and_left (all_own (list_of d) (held_of d) (endpoint_map_in d)) _ pass.facts.endpoints) h w

    accepted_enabled :
        end.answer ≡ answer.Accepted → p.broken ≡ false → (q : ℕ) → q < 30 →
        followed enabled_after buffers.outcomes 0 course p.enabled (dci_at q) ≡ not (eqb (get_or no_endpoints.rings q 0) 0)
    unfolding end course no_endpoints
    accepted_enabled e b q h =
        set_accepted_enabled (settings_in d value) buffers.ctx s.routes buffers.outcomes 0 spaced (dci_at q) (dci_low q h)
        (dci_high q h) p.enabled e
        ∙ rw (was b q h, words_dci q h, eq-eqb (get_or {A = ℕ} (replicate 30 0) q 0) 0 (get_or-replicate 30 q 0 0 h))
        (go (decided (eqb (get_or rings q 0) 0)))
      where
        go :
            Decided (eqb (get_or rings q 0) 0) →
            (not (eqb (get_or rings q 0) 0) && not (has_place q (held_words (list_of d) (held_of d)))) ≡ false
        go (inl t) = rw t
        go (inr t) = rw (t, ring_word q h t)

    -- The groups where all held settings are ended.
    abbrev without_held : Groups
    without_held =
        cond (is_lost end.answer) (ended_groups (held_queues p.held) p.groups) (returned_groups (held_queues p.held) p.groups)

    moved_groups : end.moved ≡ true → AgreeWith now.device now.plain.groups
    unfolding now ran seen groups_after end course
    moved_groups t = go (decided (is_lost end.answer))
      where
        either : now.plain.groups ≡ without_held
        either = ap (λ x. cond x without_held p.groups) (log_tells ∙ t)

        go : Decided (is_lost end.answer) → AgreeWith now.device now.plain.groups
        go (inl e) =
            let same : now.plain.groups ≡ ended_groups (held_queues p.held) p.groups = either ∙ rw e refl in
            rw same
            (agree_bare_lost d pass.is_sound p.groups l.groups pass.usable (set_record d value end) _ _ (set_moves d _ _ _ value k end t)
            (set_quarantined d _ _ _ value k end t (lost_refused end.answer e) e) (held_queues p.held)
            (kept_has (held_queues p.held) rings (live_by_place slot d p l)))
        go (inr e) =
            let same : now.plain.groups ≡ returned_groups (held_queues p.held) p.groups = either ∙ rw e refl in
            rw same
            (agree_bare d pass.is_sound p.groups l.groups pass.usable (set_record d value end) _ _ (set_moves d _ _ _ value k end t)
            (set_keeps d value end (λ m. e)) (held_queues p.held) (kept_has (held_queues p.held) rings (live_by_place slot d p l)))

    stayed_groups : end.moved ≡ false → AgreeWith now.device now.plain.groups
    unfolding now ran seen groups_after end course
    stayed_groups t =
        let same : now.plain.groups ≡ p.groups = ap (λ x. cond x without_held p.groups) (log_tells ∙ t) in
        rw same
        (agree_made d (set_record d value end) _ _ _ p.groups (set_stays d _ _ _ value k end t)
        (active_rings Any (endpoint_map_in d) end.active) (set_keeps d value end (λ m. not_both end.moved m t)) l.groups)

    -- All held settings are ended.
    moved_good :
        end.moved ≡ true → OneAnswer end.answer → Answered (settings_in d value) s.routes end → Good slot before now
    unfolding now ran seen held_after end course settings_in AllFit number pairs
    moved_good t a w =
        let v = set_moved (settings_in d value) s.routes buffers.outcomes buffers.ctx 0 in
        let m = set_moves d _ _ _ value k end t in
        let held : now.plain.held ≡ [] = ap (λ x. cond x [] p.held) (log_tells ∙ t) in
        made_moved slot before s now g l [] no_endpoints (is_lost end.answer) m upheld refl (ap pairs held) (rw held tt) (moved_groups t) rings (replicate PLACES 0)
        ((v.gone t).2 ∙ ap (λ x. with_replaced s.routes x (queues_of rings) []) l.place
        ∙ ap (with_replaced s.routes slot (queues_of rings)) (sym no_queues))
        (none_named _ slot) routed
        (λ b. enabled a (or_left_false p.broken _ b) (or_right_false p.broken _ b))
      where
        enabled :
            OneAnswer end.answer → p.broken ≡ false →
            is_lost end.answer ≡ false → (q : ℕ) → q < 30 →
            followed enabled_after buffers.outcomes 0 (set_course (settings_in d value) buffers.ctx s.routes) p.enabled (dci_at q)
            ≡ not (eqb (get_or no_endpoints.rings q 0) 0)
        enabled (inl e) b n = accepted_enabled e b
        enabled (inr (inl (code, e))) b n = not_both end.moved t (w.failed code e)
        enabled (inr (inr (inl e))) b n = lost_not end.answer (rw e refl) n
        enabled (inr (inr (inr (inl e)))) b n = lost_not end.answer (rw e refl) n
        enabled (inr (inr (inr (inr e)))) b n = not_both end.moved t (w.invalid e).0

    failed_enabled :
        (code : ℕ) → end.answer ≡ answer.Failed code → p.broken ≡ false → (x : ℕ) → 2 ≤ x → x < 32 →
        followed enabled_after buffers.outcomes 0 course p.enabled x ≡ is_held_dci p x
    unfolding end course
    failed_enabled code e b =
        each_dci (λ x. followed enabled_after buffers.outcomes 0 course p.enabled x ≡ is_held_dci p x)
        (λ q h.
        set_failed_enabled (settings_in d value) buffers.ctx s.routes buffers.outcomes 0 spaced (dci_at q) (dci_low q h)
        (dci_high q h) p.enabled code e
        (λ o. was b q h ∙ ap not (word_ring q h (sym (words_dci q h) ∙ o)))
        ∙ g.enabled b (dci_at q) (dci_low q h) (dci_high q h))

    -- None is.
    stayed_good :
        end.moved ≡ false → OneAnswer end.answer → Answered (settings_in d value) s.routes end → Good slot before now
    unfolding now ran seen held_after end course settings_in number
    stayed_good t a w =
        let v = set_moved (settings_in d value) s.routes buffers.outcomes buffers.ctx 0 in
        let m = set_stays d _ _ _ value k end t in
        let held : now.plain.held ≡ p.held = ap (λ x. cond x [] p.held) (log_tells ∙ t) in
        made_same slot before s now g l (held_of d) (with_active Any end.active (endpoint_map_in d)) (is_lost end.answer) m upheld refl
        (ap pairs held ∙ l.held) (rw held (fit_active Any end.active (endpoint_map_in d) p.held l.fits)) (stayed_groups t) (v.kept t) held
        (λ b. enabled a (or_left_false p.broken _ b) (or_right_false p.broken _ b))
      where
        enabled :
            OneAnswer end.answer → p.broken ≡ false →
            is_lost end.answer ≡ false → (x : ℕ) → 2 ≤ x → x < 32 →
            followed enabled_after buffers.outcomes 0 (set_course (settings_in d value) buffers.ctx s.routes) p.enabled x ≡ is_held_dci p x
        enabled (inl e) b n = not_both end.moved (w.accepted e) t
        enabled (inr (inl (code, e))) b n = failed_enabled code e b
        enabled (inr (inr (inl e))) b n = lost_not end.answer (rw e refl) n
        enabled (inr (inr (inr (inl e)))) b n = lost_not end.answer (rw e refl) n
        enabled (inr (inr (inr (inr e)))) b n = absurd ((w.invalid e).1 allowed)

    few : length (words buffers.outcomes 0 course) ≤ length buffers.log
    unfolding course settings_in
    few =
        omega (arith, set_words (settings_in d value) s.routes buffers.outcomes buffers.ctx 0, queues_fit rings, pass.room)

    bytes : EachCommand ByteOperands course
    unfolding course settings_in
    bytes = set_operands (settings_in d value) buffers.ctx s.routes byte (byte_dcis rings)

    good_end : Good slot before now
    unfolding end course
    good_end =
        let w = set_answers (settings_in d value) s.routes buffers.outcomes buffers.ctx 0 in
        go (decided end.moved) w
      where
        go : Decided end.moved → Answered (settings_in d value) s.routes end → Good slot before now
        go (inl t) w = moved_good t w.only w
        go (inr t) w = stayed_good t w.only w

    run_good : Good slot before (checked s effect buffers Pass run refuse)
    unfolding run now anew course
    run_good =
        rw (checked_ran s effect buffers (set_record d value) course refuse few
        (set_cuts (settings_in d value) buffers.ctx s.routes) bytes (λ b o ws q. refl))
        good_end

  pub set_good : Good slot before (called_here s (record { asked = configures value; buffers = buffers }))
  unfolding called_here context_cut cut_at left effect_of set_configuration checked run refuse course
  set_good =
      good_checked (Good slot before) s effect buffers run buffers.ctx buffers.log _ (mild_set d _ _ _) g
      (λ k. run_good k (live_here slot before s g (passed d _ _ _ _ k).0.usable))
