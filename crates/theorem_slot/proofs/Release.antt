-- A release keeps the invariant.
use Rattle.std.proofs.Common.{Ok}
use Prim.Native.Nat.{ℕ, ◌≤◌, ◌<◌}
use mathlib.Core.Path.{◌≡◌, refl, sym, ◌∙◌, ap}
use mathlib.Core.Bool.{true, false, not, ◌&&◌, or-false}
use mathlib.Core.List.{List, []}
use mathlib.Core.Logic.{inl, inr}
use native.Mathlib.Omega.{arith}
use borrow.Author.Tests.{eq-eqb, ne_eqb}
use lib.Dec.{eqb}
use lib.ListN.{length, get_or, replicate, get_or-replicate}
use Rattle.laws.proofs.Tests.{not_both}
use Rattle.laws.proofs.Cases.{or_left_false, or_right_false}
use Rattle.answer.specs.declared.Answer.{Answer}
use Rattle.answer.specs.declared.Answer.TheVariants as answer
use Rattle.answer.specs.Check.{Pass}
use Rattle.answer.specs.Answer.{number, is_accepted, is_lost}
use Rattle.command.specs.Course.{Course, words, result, played}
use Rattle.command.proofs.Operations.{ByteOperands, operation, EachCommand}
use Rattle.context_block.specs.Blocks.{some_dci}
use Rattle.context.specs.Place.{Spaced}
use Rattle.transfer.specs.Routes.{replaced, with_replaced}
use Rattle.record_endpoint.specs.Order.{PLACES, dci_at}
use Rattle.record_endpoint.specs.EndpointMap.{is_owned, owned_rings, queues_of, claimed_endpoints, with_active}
use Rattle.record_endpoint.specs.declared.endpoint_map.Owner.TheVariants.{Interface}
use Rattle.record_endpoint.proofs.Laws.{active_rings, queues_fit, dci_low, dci_high}
use Rattle.record_settings.specs.Held.{is_held, alternate_of, setting_words, without_setting}
use Rattle.record_settings.proofs.Laws.{match_facts}
use Rattle.theorem_routing.specs.Routing.{InTable, RoutedBy, NamedBy}
use Rattle.theorem_routing.proofs.Laws.{no_queues, claim_named, release_done, release_routed}
use Rattle.course_steps.specs.End.{End}
use Rattle.theorem_controller.specs.Controller.{DISABLE, enabled_after}
use Rattle.theorem_controller.proofs.Followed.{followed}
use Rattle.course_release.specs.Release.{release_course}
use Rattle.course_release.proofs.Laws.{release_words, release_cuts, Gone, Stayed, Says, release_says, OneAnswer, release_answers}
use Rattle.course_release.proofs.Controlled.{release_sends, release_operands, release_accepted_enabled, release_failed_enabled}
use Rattle.device.specs.declared.record.Device.{Device}
use Rattle.device.specs.Device.{list_of, endpoint_map_in, held_of}
use Rattle.device.specs.Left.{Left, refused, ended}
use Rattle.device.specs.Check.{record_check}
use Rattle.device.specs.Release.{release_check, release_in, release_record, release}
use Rattle.device.proofs.Laws.{Passed, pass_if, passed}
use Rattle.device.proofs.Kept.{release_moves, release_stays}
use Rattle.theorem_slot.specs.Call.{Buffers, releases, left, cut_at, context_cut}
use Rattle.theorem_slot.specs.Groups.{returned_groups}
use Rattle.theorem_slot.specs.Plain.{Plain, is_held_dci, without, Effect, ends_one, effect_of, held_after, groups_after, queues_of_one, anew, seen}
use Rattle.theorem_slot.specs.Theorem.{State}
use Rattle.theorem_slot.proofs.Settings.{AllFit, pairs, pairs_without, fit_without}
use Rattle.theorem_slot.proofs.Good.{Live, Unrouted, Good, live_tells, routed_from, named_from, Upheld, enabled_was, live_here, live_one}
use Rattle.theorem_slot.proofs.Step.{lost_not, checked, good_checked, mild_release, ran, ran_upheld, checked_ran, called_here}
use Rattle.theorem_slot.proofs.Kept.{kept_has}
use Rattle.theorem_slot.proofs.Record.{AgreeWith}
use Rattle.theorem_slot.proofs.Moved.{release_keeps, agree_released}
use Rattle.theorem_slot.proofs.Made.{fit_active, agree_made, made_moved, made_same, byte_dcis}
use Rattle.theorem_slot.proofs.Claimed.{some_place, fits_other, claimed_some}

module _ (slot : ℕ) (before : List ℕ) (s : State) (buffers : Buffers) (i : ℕ) (byte : i < 256) (g : Good slot before s) where
  abbrev d : Device
  d = s.device

  abbrev p : Plain
  p = s.plain

  abbrev effect : Effect
  effect = ends_one i

  abbrev none : List ℕ
  none = replicate PLACES 0

  course : Course End
  course = release_course (release_in d i) buffers.ctx s.routes

  end : End
  end = result buffers.outcomes 0 course

  now : State
  now = ran s effect buffers (release_record d i) course

  upheld : Upheld s now
  unfolding now course operation
  upheld =
      ran_upheld s effect buffers _ course
      (release_sends (λ c. eqb (operation c) DISABLE ≡ false) (release_in d i)
      (record { configure = refl; stop = λ k. refl; resume = λ k. refl }) buffers.ctx s.routes)

  run : List ℕ → Left
  run o = ended (release_record d i) (played o 0 course buffers.log)

  refuse : Answer → Left
  refuse x = refused d x buffers.ctx s.routes buffers.log

  -- The checks passed.
  module _ (k : record_check d (length buffers.ctx) (length s.routes) (length buffers.log) (release_check d i) ≡ Pass)
      (l : Live slot d p) where
    pass : Passed d (length buffers.ctx) (length s.routes) (length buffers.log)
    pass = (passed d _ _ _ _ k).0

    -- none pending
    zero_pending : (q : ℕ) → q < 30 → eqb (get_or none q 0) 0 ≡ true
    zero_pending q h = eq-eqb (get_or none q 0) 0 (get_or-replicate 30 q 0 0 h)

    was :
        p.broken ≡ false → (q : ℕ) → q < 30 →
        p.enabled (dci_at q) ≡ not (eqb (get_or (endpoint_map_in d).rings q 0) 0)
    was = enabled_was slot before s g l

    spaced : Spaced (release_in d i).spacing (length buffers.ctx)
    unfolding release_in
    spaced = pass.spaced

    abbrev old : List ℕ
    old = owned_rings (Interface i) (endpoint_map_in d)

    inside : InTable s.routes slot
    inside = rw g.long g.room

    were_named : NamedBy s.routes slot (endpoint_map_in d)
    were_named = named_from slot s.routes p (endpoint_map_in d) g.named (live_tells slot d p l)

    out : replaced s.routes slot (queues_of old) [] ≡ Ok (tt {0})
    out = release_done s.routes slot (endpoint_map_in d) were_named i

    named : NamedBy (with_replaced s.routes slot (queues_of old) (queues_of none)) slot (claimed_endpoints i none (endpoint_map_in d))
    named = claim_named s.routes slot i none (endpoint_map_in d) (rw no_queues out) were_named inside

    routed :
        Unrouted before slot →
        RoutedBy (with_replaced s.routes slot (queues_of old) (queues_of none)) slot (claimed_endpoints i none (endpoint_map_in d))
    routed u =
        rw no_queues
        (release_routed s.routes slot (endpoint_map_in d) (routed_from slot s.routes p (endpoint_map_in d) (g.own u) (live_tells slot d p l)) inside i).routed

    -- The interface holds a setting.
    holds : is_held i (held_of d) ≡ true
    unfolding release_check
    holds = (pass_if (is_held i (held_of d)) Pass answer.NotClaimed (passed d _ _ _ _ k).1).0

    -- Its words are at the places of the interface's endpoints.
    words_dci : (q : ℕ) → q < 30 → some_dci (dci_at q) (release_in d i).words ≡ is_owned (Interface i) (endpoint_map_in d) q
    unfolding release_in
    words_dci q h =
        some_place (setting_words (list_of d) i (alternate_of i (held_of d))) q h
        ∙ sym ((match_facts (list_of d) (held_of d) (endpoint_map_in d) pass.facts.endpoints).owned i q holds h)

    released_some :
        (q : ℕ) → q < 30 →
        (not (eqb (get_or (endpoint_map_in d).rings q 0) 0) && not (is_owned (Interface i) (endpoint_map_in d) q))
        ≡ not (eqb (get_or (claimed_endpoints i none (endpoint_map_in d)).rings q 0) 0)
    released_some q h =
        sym (or-false (not (eqb (get_or (endpoint_map_in d).rings q 0) 0) && not (is_owned (Interface i) (endpoint_map_in d) q)))
        ∙ claimed_some i none (endpoint_map_in d) q false h (zero_pending q h)

    accepted_enabled :
        end.answer ≡ answer.Accepted → now.plain.broken ≡ false → (q : ℕ) → q < 30 →
        now.plain.enabled (dci_at q) ≡ not (eqb (get_or (claimed_endpoints i none (endpoint_map_in d)).rings q 0) 0)
    unfolding now ran seen end course
    accepted_enabled e b q h =
        release_accepted_enabled (release_in d i) buffers.ctx s.routes buffers.outcomes 0 spaced (dci_at q) (dci_low q h)
        (dci_high q h) p.enabled e
        ∙ rw (was (or_left_false p.broken _ b) q h, words_dci q h) (released_some q h)

    settings_fit : AllFit (claimed_endpoints i none (endpoint_map_in d)) (without i p.held)
    settings_fit =
        fit_without (endpoint_map_in d) (claimed_endpoints i none (endpoint_map_in d)) i p.held
        (λ x n.
        fits_other i none (endpoint_map_in d) x n
        (λ q h z. not_both (eqb (get_or none q 0) 0) (zero_pending q h) z))
        l.fits

    ended_groups : end.moved ≡ true → is_accepted end.answer ≡ true → AgreeWith now.device now.plain.groups
    unfolding now ran seen groups_after end course
    ended_groups moved e =
        let same : now.plain.groups ≡ returned_groups (queues_of_one i p.held) p.groups = rw e refl in
        rw same
        (agree_released d pass.is_sound p.groups l.groups pass.usable i (release_record d i end) _ _ (release_moves d _ _ _ i k end moved)
        (release_keeps d i end) (queues_of_one i p.held)
        (kept_has (queues_of_one i p.held) old (live_one slot d p l i)))

    stayed_groups : end.moved ≡ false → is_accepted end.answer ≡ false → AgreeWith now.device now.plain.groups
    unfolding now ran seen groups_after end course
    stayed_groups moved n =
        let same : now.plain.groups ≡ p.groups = rw n refl in
        rw same
        (agree_made d (release_record d i end) _ _ _ p.groups (release_stays d _ _ _ i k end moved)
        (active_rings (Interface i) (endpoint_map_in d) end.active) (release_keeps d i end) l.groups)

    -- Accepted: the interface's setting is ended.
    gone_good : Gone (release_in d i) s.routes end → Good slot before now
    unfolding now ran seen held_after end course release_in number
    gone_good v =
        let e = v.accepted in
        let m = release_moves d _ _ _ i k end v.moved in
        let held : now.plain.held ≡ without i p.held = rw e refl in
        let same : pairs now.plain.held ≡ without_setting i (held_of d) =
        ap pairs held ∙ pairs_without i p.held ∙ ap (without_setting i) l.held in
        made_moved slot before s now g l (without_setting i (held_of d)) (claimed_endpoints i none (endpoint_map_in d)) (is_lost end.answer) m upheld refl
        same (rw held settings_fit) (ended_groups v.moved (rw e refl)) old none
        (v.left ∙ ap (λ x. with_replaced s.routes x (queues_of old) []) l.place
        ∙ ap (with_replaced s.routes slot (queues_of old)) (sym no_queues))
        named routed (accepted_enabled e)

    -- Otherwise it is as it was.
    stayed_good :
        Stayed s.routes end →
        (now.plain.broken ≡ false → (x : ℕ) → 2 ≤ x → x < 32 →
        now.plain.enabled x ≡ is_held_dci p x) →
        Good slot before now
    unfolding now ran seen held_after end course
    stayed_good v e =
        let m = release_stays d _ _ _ i k end v.kept in
        let n : is_accepted end.answer ≡ false = ne_eqb (number end.answer) 0 (λ z. omega (arith, v.refused, z)) in
        let held : now.plain.held ≡ p.held = rw n refl in
        made_same slot before s now g l (held_of d) (with_active (Interface i) end.active (endpoint_map_in d)) (is_lost end.answer) m upheld refl
        (ap pairs held ∙ l.held) (rw held (fit_active (Interface i) end.active (endpoint_map_in d) p.held l.fits)) (stayed_groups v.kept n) v.left
        held e

    failed_enabled :
        (code : ℕ) → end.answer ≡ answer.Failed code → p.broken ≡ false → (x : ℕ) → 2 ≤ x → x < 32 →
        followed enabled_after buffers.outcomes 0 course p.enabled x ≡ is_held_dci p x
    unfolding end course
    failed_enabled code e b x two h =
        release_failed_enabled (release_in d i) buffers.ctx s.routes buffers.outcomes 0 spaced x two h p.enabled code e
        ∙ g.enabled b x two h

    ended_good : Says (release_in d i) s.routes end → OneAnswer (release_in d i) s.routes end.answer → Good slot before now
    unfolding now ran seen end course number release_in
    ended_good (inl v) a = gone_good v
    ended_good (inr v) (inl e) = absurd (omega (arith, v.refused, ap number e))
    ended_good (inr v) (inr (inl (code, e))) =
        stayed_good v (λ b. failed_enabled code e (or_left_false p.broken _ b))
    ended_good (inr v) (inr (inr (inl e))) =
        stayed_good v (λ b. lost_not end.answer (rw e refl) (or_right_false p.broken _ b))
    ended_good (inr v) (inr (inr (inr (e, n)))) =
        absurd (n (ap (λ x. replaced s.routes x (queues_of old) []) l.place ∙ out))

    few : length (words buffers.outcomes 0 course) ≤ length buffers.log
    unfolding course release_in
    few =
        omega (
          arith,
          release_words (release_in d i) s.routes buffers.outcomes buffers.ctx 0 (queues_fit (owned_rings (Interface i) (endpoint_map_in d))),
          pass.room,
        )

    bytes : EachCommand ByteOperands course
    unfolding course release_in
    bytes = release_operands (release_in d i) buffers.ctx s.routes (byte_dcis (owned_rings (Interface i) (endpoint_map_in d)))

    good_end : Good slot before now
    unfolding end course
    good_end =
        ended_good (release_says (release_in d i) s.routes buffers.outcomes buffers.ctx 0)
        (release_answers (release_in d i) s.routes buffers.outcomes buffers.ctx 0)

    run_good : Good slot before (checked s effect buffers Pass run refuse)
    unfolding run now anew course
    run_good =
        rw (checked_ran s effect buffers (release_record d i) course refuse few
        (release_cuts (release_in d i) buffers.ctx s.routes) bytes (λ b o ws q. refl))
        good_end

  pub release_good : Good slot before (called_here s (record { asked = releases i; buffers = buffers }))
  unfolding called_here context_cut cut_at left effect_of release checked run refuse course
  release_good =
      good_checked (Good slot before) s effect buffers run buffers.ctx buffers.log _ (mild_release d _ _ _ i) g
      (λ k. run_good k (live_here slot before s g (passed d _ _ _ _ k).0.usable))
