-- Bring-ups: one of a slot with control's route is refused; one of an unplugged slot begins it anew, fails or is refused.
use Prim.Native.Nat.{ℕ, ◌+◌, ◌*◌, ◌<◌, ◌≤◌}
use mathlib.Core.Path.{◌≡◌, refl, sym, ◌∙◌, ap, subst}
use mathlib.Core.List.{List, [], ◌∷◌}
use mathlib.Core.Bool.{Bool, true, false, not, cond, ◌&&◌, or-false, and-false, and-true as and_one}
use mathlib.Core.Logic.{◌⊎◌, inl, inr}
use native.Mathlib.Omega.{arith}
use borrow.Author.Tests.{ne_eqb, eqb-true}
use lib.Dec.{eqb}
use lib.ListN.{length, take, length-take}
use lib.Seq.{length-sets, get_or-set_same}
use Rattle.laws.specs.Distinct.{elem}
use Rattle.laws.proofs.Tests.{not_both}
use Rattle.laws.proofs.Cases.{Decided, decided}
use Rattle.transfer.specs.Routes.{Queue, names, ring_for, route_index, route_of, with_route, published}
use Rattle.transfer.proofs.Laws.{published_at}
use Rattle.answer.specs.Answer.{number, is_accepted}
use Rattle.descriptor_list.specs.Companions.{joined}
use Rattle.command.specs.Course.{Course, words, played}
use Rattle.context.specs.Place.{spacing_of}
use Rattle.course_init.specs.Reading.{BringUp, control_ring, Brought}
use Rattle.record_endpoint.specs.EndpointMap.{no_endpoints}
use Rattle.record_ring.specs.Rings.{not_among}
use Rattle.record_ring.specs.Store.{given_ok, least, free_rings}
use Rattle.record_ring.proofs.Sorted.{elem_not_among}
use Rattle.record_endpoint.specs.Endpoint.{rings_of}
use Rattle.device.specs.Device.{list_of, quarantined_of, free_of, no_device}
use Rattle.device.specs.Sound.{live_rings}
use Rattle.device.specs.Left.{Left}
use Rattle.device_bring_up.specs.BringUp.{bring_up_course, brought_record, brought_left, bring_up}
use Rattle.device_bring_up.proofs.Accepted.{record_given, record_quarantined}
use Rattle.device_bring_up.proofs.Laws.{Refused, Ran, BroughtUp, bring_up_cases, bring_up_full, accepted_by_number, bring_up_length, bring_up_outside, ran_table}
use Rattle.theorem_slot.specs.Call.{Buffers, brings_up, left, context_cut}
use Rattle.theorem_slot.specs.Groups.{given_groups}
use Rattle.theorem_slot.specs.Plain.{Plain, is_up, is_not_up, held_queues, plain_route, is_held_dci, begins, effect_of, begun, failed, groups_after, anew, seen, observed}
use Rattle.theorem_slot.specs.Rings.{OfRecord}
use Rattle.theorem_slot.specs.Theorem.{State, record_after, called, start, Untouched}
use Rattle.record_settings.proofs.Laws.{eqb_turned}
use Rattle.theorem_slot.proofs.Settings.{AllFit, pairs}
use Rattle.theorem_slot.proofs.Good.{Down, Unrouted, Good, Empty, Failed, Stands, stands_down}
use Rattle.theorem_slot.proofs.Record.{used_by, in_doubt, AgreeWith}
use Rattle.theorem_slot.proofs.Moved.{has_none}
use Rattle.theorem_slot.proofs.Parted.{least_nonzero, agree_given, parted_given}
use Rattle.theorem_slot.proofs.Step.{observed_refused}
use Rattle.theorem_slot.proofs.Ends.{bring_up_sends}

-- The accepted bring-up.
module _ (b : BringUp) (l : Buffers) (routes : List ℕ) where
  abbrev brought : Left
  brought = bring_up b l.ctx routes l.log l.outcomes

  module _ (w : BroughtUp b l.ctx routes l.log brought) where
    room : 32 * b.slot + 32 ≤ length routes
    room = omega (arith, w.pass.slot_high, w.pass.table)

    route : (d : ℕ) → d < 32 → route_of brought.routes b.slot d ≡ cond (eqb d 1) (control_ring b) (route_of routes b.slot d)
    unfolding ring_for published route_index
    route d h =
        let q : List Queue = record { dci = 1; ring = control_ring b } ∷ [] in
        ap (λ r. route_of r b.slot d) w.table
        ∙ published_at routes b.slot q d (omega (arith, room))
        ∙ rw (eqb_turned 1 d) refl

    given_groups_lem : AgreeWith brought.device (given_groups b.rings)
    unfolding used_by in_doubt no_endpoints control_ring elem
    given_groups_lem =
        rw w.given
        (agree_given b.rings w.pass.rings (used_by brought.device) (in_doubt brought.device)
        (λ x. rw (w.endpoints, has_none x, w.control) refl) (λ x. rw w.quarantined refl))

    pub start_good : Good b.slot routes (start b (bring_up b l.ctx routes l.log l.outcomes))
    unfolding list_of start begun control_ring AllFit pairs is_up is_held_dci plain_route held_queues names ring_for
    start_good =
        record {
          phase = refl;
          long = bring_up_length b l.ctx routes l.log l.outcomes;
          room = room;
          others = bring_up_outside b l.ctx routes l.log l.outcomes;
          live = inr (record { is_sound = w.is_sound; place = w.slot; list = ap joined w.list; held = sym w.held; fits = tt; groups = given_groups_lem });
          on = refl;
          enabled = λ x d two h. ne_eqb d 1 (λ e. omega arith);
          parted = parted_given b.rings w.pass.rings;
          control = least_nonzero b.rings w.pass.rings;
          first = route 1 (omega arith);
          named = λ q h e. not_both false e refl;
          own = λ u d h. route d h ∙ rw (u d h) refl;
        }

-- From the table before it, where the slot had no routes, to one before that.
rebased :
    (slot : ℕ) (before routes : List ℕ) (s : State) → Untouched slot before routes → 32 * slot + 32 ≤ length before →
    Unrouted routes slot → Good slot routes s → Good slot before s
rebased slot before routes s t room none g =
    record {
      phase = g.phase;
      long = g.long ∙ t.long;
      room = room;
      others = λ k o. g.others k o ∙ t.words k o;
      live = g.live;
      parted = g.parted;
      on = g.on;
      enabled = g.enabled;
      control = g.control;
      first = g.first;
      named = g.named;
      own = λ u. g.own none;
    }

module _ (slot : ℕ) (before : List ℕ) (s : State) (buffers : Buffers) (a : BringUp) (same : a.slot ≡ slot) where
  abbrev l : Left
  l = bring_up a buffers.ctx s.routes buffers.log buffers.outcomes

  abbrev Cases : Type 0
  Cases = Refused buffers.ctx s.routes buffers.log l ⊎ Ran a buffers.ctx s.routes buffers.log buffers.outcomes l

  cases : Cases
  cases = bring_up_cases a buffers.ctx s.routes buffers.log buffers.outcomes

  now : Plain
  now =
      observed (begins a) buffers l.answer (take l.count l.log)
      (context_cut (record { asked = brings_up a; buffers = buffers }) s.device s.routes) s.plain

  -- by whether the caller keeps his record
  after : Bool → State
  after kept = record { device = cond kept s.device l.device; routes = l.routes; plain = now }

  -- what it returns is usable, and up, where it is accepted
  marks : Cases → (l.device.usable ≡ is_accepted l.answer) × (l.device.up ≡ is_accepted l.answer)
  unfolding no_device brought_left brought_record
  marks (inl r) = (ap (λ d. d.usable) r.device ∙ sym r.answer.accepted, ap (λ d. d.up) r.device ∙ sym r.answer.accepted)
  marks (inr r) = (
    ap (λ (x : Left). x.device.usable) r.left ∙ sym (ap (λ (x : Left). is_accepted x.answer) r.left),
    ap (λ (x : Left). x.device.up) r.left ∙ sym (ap (λ (x : Left). is_accepted x.answer) r.left),
  )

  returned_down : is_accepted l.answer ≡ false → Down l.device
  returned_down n = let m = marks cases in (m.0 ∙ n, m.1 ∙ n)

  module _ (r : Refused buffers.ctx s.routes buffers.log l) where
    plain_same : now ≡ s.plain
    unfolding now
    plain_same = rw r.count (observed_refused (begins a) buffers _ _ s.plain (r.answer.accepted, simp (r.answer.broken, r.answer.cut)))

    refused_stands : (kept : Bool) → Stands slot before s → Stands slot before (after kept)
    unfolding after
    refused_stands kept g = rw (plain_same, r.table) (go kept)
      where
        go : (b : Bool) → Stands slot before (record { device = cond b s.device l.device; routes = s.routes; plain = s.plain })
        go true = g
        go false = stands_down slot before s l.device (returned_down r.answer.accepted) g

  -- one that is accepted begins the slot anew
  begins_anew : is_accepted l.answer ≡ true → now ≡ begun a
  unfolding now observed anew
  begins_anew e = rw e

  begun_good : is_accepted l.answer ≡ true → Good slot s.routes (after false)
  unfolding after start
  begun_good e =
      let w = accepted_by_number a buffers.ctx s.routes buffers.log buffers.outcomes (eqb-true (number l.answer) 0 e) in
      rw (begins_anew e) (subst (λ x. Good x s.routes (start a l)) same (start_good a buffers s.routes w))

  module _ (r : Ran a buffers.ctx s.routes buffers.log buffers.outcomes l) (n : is_accepted l.answer ≡ false) where
    abbrev course : Course Brought
    course = bring_up_course a (spacing_of (length buffers.ctx)) buffers.ctx s.routes

    logged : length (take l.count l.log) ≡ 0 → ⊥
    unfolding brought_left bring_up_course played
    logged z =
        let c : l.count ≡ 0 + length (words buffers.outcomes 0 course) = ap (λ (x : Left). x.count) r.left in
        let m : length l.log ≡ length buffers.log = ap (λ (x : Left). length x.log) r.left ∙ length-sets buffers.log 0 (words buffers.outcomes 0 course) in
        omega (
          arith,
          c,
          m,
          r.pass.room,
          bring_up_sends buffers.outcomes buffers.ctx (with_route s.routes a.slot 1 (control_ring a)) a (spacing_of (length buffers.ctx)),
          length-take l.count l.log,
          z,
        )

    failed_now : (is_not_up now.phase ≡ true) × (now.groups ≡ given_groups a.rings)
    unfolding now observed anew failed is_not_up seen groups_after
    failed_now = rw (n, ne_eqb (length (take l.count l.log)) 0 logged) (refl, refl)

    control_there : route_of l.routes a.slot 1 ≡ control_ring a
    unfolding route_of with_route route_index
    control_there =
        rw (ran_table a buffers.ctx s.routes buffers.log buffers.outcomes l r)
        (get_or-set_same s.routes (32 * a.slot + 1) (control_ring a) 0 (omega (arith, r.pass.table, r.pass.slot_high)))

    failed_stands :
        (kept : Bool) → (kept ≡ true → Down s.device) → Untouched slot before s.routes → 32 * slot + 32 ≤ length before →
        Failed slot before (after kept)
    unfolding after control_ring
    failed_stands kept down table room =
        record {
          phase = failed_now.0;
          table =
              record {
                long = bring_up_length a buffers.ctx s.routes buffers.log buffers.outcomes ∙ table.long;
                words = λ k o.
                    bring_up_outside a buffers.ctx s.routes buffers.log buffers.outcomes k (rw same o) ∙ table.words k o;
              };
          room = room;
          down = go kept down;
          first = λ z. least_nonzero a.rings r.pass.rings (sym control_there ∙ ap (λ x. route_of l.routes x 1) same ∙ z);
          parted = rw failed_now.1 (parted_given a.rings r.pass.rings);
        }
      where
        go : (b : Bool) → (b ≡ true → Down s.device) → Down (cond b s.device l.device)
        go true f = f refl
        go false f = returned_down n

  module _ (g : Empty slot before s) where
    empty_stands : (kept : Bool) → Decided (is_accepted l.answer) → Cases → Stands slot before (after (kept && not (is_accepted l.answer)))
    empty_stands kept (inl e) c = inl (rw (e, and-false kept) (rebased slot before s.routes _ g.table g.room g.none (begun_good e)))
    empty_stands kept (inr e) (inl r) = refused_stands r (kept && not (is_accepted l.answer)) (inr (inl g))
    empty_stands kept (inr e) (inr r) =
        inr (inr (failed_stands r e (kept && not (is_accepted l.answer)) (λ t. g.down) g.table g.room))

  full : (route_of s.routes slot 1 ≡ 0 → ⊥) → Refused buffers.ctx s.routes buffers.log l
  full h = bring_up_full a buffers.ctx s.routes buffers.log buffers.outcomes (λ e. h (rw same at e))

  stands_after : (kept : Bool) → Stands slot before s → Stands slot before (after (kept && not (is_accepted l.answer)))
  stands_after kept (inl g) =
      refused_stands (full (λ e. g.control (sym g.first ∙ e))) (kept && not (is_accepted l.answer)) (inl g)
  stands_after kept (inr (inl g)) = empty_stands g kept (decided (is_accepted l.answer)) cases
  stands_after kept (inr (inr g)) = refused_stands (full g.first) (kept && not (is_accepted l.answer)) (inr (inr g))

  pub bring_up_stands :
      (keeps : Bool) → Stands slot before s →
      Stands slot before (called s (record { call = record { asked = brings_up a; buffers = buffers }; table = s.routes; keeps = keeps }))
  unfolding called record_after left effect_of now after
  bring_up_stands keeps g = stands_after keeps g

-- The record of a bring-up that ran, accepted or not, has these groups.
module _ (a : BringUp) (spacing : ℕ) (e : Brought) where
  brought_free : free_of (brought_record a spacing e) ≡ not_among (control_ring a ∷ []) a.rings
  unfolding free_of free_rings rings_of quarantined_of brought_record
  brought_free = ap (not_among (control_ring a ∷ [])) (record_given a spacing e)

  brought_live : live_rings (brought_record a spacing e) ≡ control_ring a ∷ []
  unfolding live_rings rings_of brought_record
  brought_live = refl

  of_brought : OfRecord (brought_record a spacing e) (given_groups a.rings)
  unfolding given_groups control_ring elem
  of_brought =
      record {
        given = sym (record_given a spacing e);
        free = λ x.
            rw brought_free
            (sym (elem_not_among x (control_ring a ∷ []) a.rings ∙ rw (or-false (eqb x (least a.rings))) refl));
        live = λ x.
            rw (brought_live, record_quarantined a spacing e)
            (sym (rw (or-false (eqb x (least a.rings))) (and_one (eqb x (least a.rings)))));
        quarantined = λ x. rw (record_quarantined a spacing e) refl;
      }

-- The first bring-up, whatever was before: it logs a command, so its checks have passed.
module _ (s : State) (buffers : Buffers) (a : BringUp) (routes : List ℕ) where
  abbrev here : State
  here = record { device = s.device; routes = routes; plain = s.plain }

  abbrev first : Left
  first = bring_up a buffers.ctx routes buffers.log buffers.outcomes

  first_begun :
      Decided (is_accepted first.answer) →
      Refused buffers.ctx routes buffers.log first ⊎ Ran a buffers.ctx routes buffers.log buffers.outcomes first → 1 ≤ first.count →
      Stands a.slot routes (after a.slot routes here buffers a refl false)
  first_begun d (inl r) c = absurd (omega (arith, r.count, c))
  first_begun (inl e) (inr r) c = inl (begun_good a.slot routes here buffers a refl e)
  first_begun (inr e) (inr r) c =
      inr
      (inr
      (failed_stands a.slot routes here buffers a refl r e false (λ t. not_both false t refl)
      (record { long = refl; words = λ k o. refl }) (omega (arith, r.pass.slot_high, r.pass.table))))

  pub first_stands :
      1 ≤ first.count →
      Stands a.slot routes (called s (record { call = record { asked = brings_up a; buffers = buffers }; table = routes; keeps = false }))
  unfolding called record_after left effect_of now after
  first_stands c =
      first_begun (decided (is_accepted first.answer)) (bring_up_cases a buffers.ctx routes buffers.log buffers.outcomes) c

  -- And it begins the groups anew.
  first_given :
      Decided (is_accepted first.answer) →
      Refused buffers.ctx routes buffers.log first ⊎ Ran a buffers.ctx routes buffers.log buffers.outcomes first → 1 ≤ first.count →
      ((now a.slot routes here buffers a refl).groups ≡ given_groups a.rings) × (given_ok a.rings ≡ true)
  unfolding begun
  first_given d (inl r) c = absurd (omega (arith, r.count, c))
  first_given (inl e) (inr r) c =
      (ap (λ (p : Plain). p.groups) (begins_anew a.slot routes here buffers a refl e), r.pass.rings)
  first_given (inr e) (inr r) c = ((failed_now a.slot routes here buffers a refl r e).1, r.pass.rings)

  pub first_groups :
      1 ≤ first.count →
      ((called s (record { call = record { asked = brings_up a; buffers = buffers }; table = routes; keeps = false })).plain.groups
      ≡ given_groups a.rings)
      × (given_ok a.rings ≡ true)
  unfolding called left effect_of now
  first_groups c =
      first_given (decided (is_accepted first.answer)) (bring_up_cases a buffers.ctx routes buffers.log buffers.outcomes) c

  first_record :
      Refused buffers.ctx routes buffers.log first ⊎ Ran a buffers.ctx routes buffers.log buffers.outcomes first → 1 ≤ first.count →
      OfRecord first.device (given_groups a.rings)
  unfolding brought_left
  first_record (inl r) c = absurd (omega (arith, r.count, c))
  first_record (inr r) c = rw (ap (λ (x : Left). x.device) r.left) (of_brought a (spacing_of (length buffers.ctx)) _)

  pub first_agrees :
      1 ≤ first.count →
      OfRecord (called s (record { call = record { asked = brings_up a; buffers = buffers }; table = routes; keeps = false })).device (given_groups a.rings)
  unfolding called record_after left
  first_agrees c = first_record (bring_up_cases a buffers.ctx routes buffers.log buffers.outcomes) c
