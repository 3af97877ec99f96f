-- What holds of the slot and its controller's rings before and after each call of a list.
use Prim.Native.Nat.{ℕ, ◌+◌, ◌*◌, ◌%◌, ◌^◌, ◌<◌, ◌≤◌}
use mathlib.Core.Path.{◌≡◌, refl, sym, ◌∙◌, ap, subst}
use mathlib.Core.Logic.{◌⊎◌, inl, inr, ⊎_elim}
use mathlib.Core.Bool.{Bool, true, false, not, cond, ◌&&◌, and-false}
use mathlib.Core.List.{List, [], ◌∷◌}
use native.Mathlib.Omega.{arith}
use borrow.Author.Tests.{eq-eqb, eqb-true}
use lib.ListN.{length, get_or, take, get_or-replicate}
use lib.Seq.{get_or-set_same}
use Rattle.laws.specs.Distinct.{elem}
use Rattle.laws.proofs.Tests.{not_both}
use Rattle.laws.proofs.Cases.{Decided, decided}
use Rattle.laws.proofs.Distinct.{elem_place}
use Rattle.answer.specs.Answer.{number, is_accepted}
use Rattle.answer.specs.Check.{Check, Pass}
use Rattle.std.proofs.Common.{Ok, Err}
use Rattle.command.specs.Course.{Course, words, played}
use Rattle.context.specs.Place.{spacing_of}
use Rattle.transfer.specs.Routes.{route_index, route_of, with_route}
use Rattle.record_ring.specs.Store.{least}
use Rattle.record_ring.proofs.Promises.{given_promise}
use Rattle.record_endpoint.specs.Order.{dci_at}
use Rattle.record_endpoint.specs.EndpointMap.{no_endpoints}
use Rattle.record_endpoint.specs.declared.endpoint_map.EndpointMap.{EndpointMap}
use Rattle.record_endpoint.proofs.Laws.{dci_low, dci_high}
use Rattle.descriptor_list.specs.Valid.{configurations}
use Rattle.descriptor_list.proofs.Companions.{listed}
use Rattle.theorem_controller.specs.Controller.{controlled}
use Rattle.theorem_controller.proofs.Followed.{followed}
use Rattle.course_init.specs.Reading.{BringUp, control_ring, Brought}
use Rattle.device.specs.declared.record.Device.{Device}
use Rattle.device.specs.Device.{endpoint_map_in, no_device}
use Rattle.device.specs.Left.{Left, refused}
use Rattle.device.specs.Calls.{on_check}
use Rattle.device_bring_up.specs.BringUp.{bring_up_check, bring_up_course, brought_record, brought_left, bring_up}
use Rattle.device_bring_up.proofs.Laws.{Refused, Ran, bring_up_cases, bring_up_full, bring_up_words, accepted_by_number, ran_table}
use Rattle.theorem_slot.specs.Call.{Buffers, Asked, brings_up, claims, commits, releases, configures, updates_hub, disconnects, Call, left, cut_at, context_cut, OfSlot}
use Rattle.theorem_slot.specs.Answers.{is_bring_up}
use Rattle.theorem_slot.specs.Groups.{Groups, given_groups}
use Rattle.theorem_slot.specs.Plain.{Plain, begins, effect_of, observed}
use Rattle.theorem_slot.specs.Rings.{first}
use Rattle.theorem_slot.specs.Theorem.{State, Turn, record_after, called, after, Between, Turns}
use Rattle.theorem_slot.proofs.BringUp.{first_stands, first_groups}
use Rattle.theorem_slot.proofs.Contexts.{bring_up_cuts}
use Rattle.theorem_slot.proofs.Demand3.{Sofar, at_table, stands_between, so_far_between, after_so_far}
use Rattle.theorem_slot.proofs.Ends.{bring_up_sends}
use Rattle.theorem_slot.proofs.Good.{Down, Good, Stands, stands_down, not_down, up_live}
use Rattle.theorem_slot.proofs.Matched.{stands_other}
use Rattle.theorem_slot.proofs.Parted.{given_least, least_nonzero}
use Rattle.theorem_slot.proofs.Refusing.{down_refuses, called_here_lem, down_same}
use Rattle.theorem_slot.proofs.Step.{observed_refused, called_here}
use Rattle.theorem_doubt.specs.Doubt.{rings_after, Watched, watched, watched_after, Given64, AllGiven64}
use Rattle.theorem_doubt.proofs.BringUp.{bring_up_bytes, brought_place, brought_outer, brought_first}
use Rattle.theorem_doubt.proofs.Calls.{rings_left, course_rings, each_leaves}
use Rattle.theorem_doubt.proofs.Held.{OrNone, Outer, Ringed, Gone, Leaves}
use Rattle.theorem_doubt.proofs.Outer.{kept_not_free, control_not_free, at_each}

-- No ring of some is free.
abbrev pub NoneFree : Plain → (ℕ → ℕ) → Type 0
NoneFree p rings = (d : ℕ) → (rings d ≡ 0 → ⊥) → p.groups.free (rings d) ≡ false

-- The lowest of given rings, control's, is not when they are given.
least_not_free : (rings : List ℕ) (x : ℕ) → x ≡ least rings → (given_groups rings).free x ≡ false
unfolding given_groups
least_not_free rings x e = rw (eq-eqb x (least rings) e) (and-false (elem x rings))

-- What a record that is up keeps is not.
up_none_free :
    (slot : ℕ) (base : List ℕ) (s : State) (rings : ℕ → ℕ) → Stands slot base s → s.device.up ≡ true → Ringed s.device rings → NoneFree s.plain rings
up_none_free slot base s rings g u r =
    let a = (up_live slot base s g u).groups in
    let groups = s.plain.groups in
    at_each (λ d. (rings d ≡ 0 → ⊥) → groups.free (rings d) ≡ false)
    (λ q h n. ⊎_elim (λ z. absurd (n z)) (λ k. kept_not_free s.device groups a (rings (dci_at q)) k) (r.safe q h))
    (λ d o n.
    ⊎_elim (λ z. absurd (n z)) (λ e. control_not_free s.device groups a (rings d) (eq-eqb (rings d) s.device.control e)) (r.outer d o))

-- Control's word is set.
abbrev Full : ℕ → List ℕ → Type 0
Full slot routes = route_of routes slot 1 ≡ 0 → ⊥

good_full : (slot : ℕ) (base : List ℕ) (s : State) → Good slot base s → Full slot s.routes
good_full slot base s g z = g.control (sym g.first ∙ z)

-- A slot whose bring-up sent a command, until its device is unplugged.
pub record Standing (slot : ℕ) (still : ℕ → Bool) (w : Watched) : Type 0 where
  pub before : List ℕ
  pub so_far : Sofar slot still before w.state
  pub full : route_of w.state.routes slot 1 ≡ 0 → ⊥
  pub never : NoneFree w.state.plain w.rings
  pub held : ((w.state.device.up ≡ true) × Ringed w.state.device w.rings) ⊎ Down w.state.device

-- Before that and after it the controller has no ring.
abbrev pub Doubts : ℕ → (ℕ → Bool) → Watched → Type 0
Doubts slot still w = Gone w.state.device w.rings ⊎ Standing slot still w

module _ (slot : ℕ) (still : ℕ → Bool) (took : Bool) (w : Watched) (buffers : Buffers) (table : List ℕ) (keeps : Bool)
    (between : Between slot still w.state.routes table) where
  abbrev d : Device
  d = w.state.device

  -- the state with the table that the call gets
  abbrev here : State
  here = at_table w.state table

  full_here : Full slot w.state.routes → Full slot table
  full_here f z = f (sym (between.own 1 (omega arith)) ∙ z)

  abbrev turn : Asked → Turn
  turn asked = record { call = record { asked = asked; buffers = buffers }; table = table; keeps = keeps }

  abbrev rings : Asked → ℕ → ℕ
  rings asked = rings_left took d table buffers w.rings asked

  so_far_next : (asked : Asked) (before : List ℕ) → OfSlot slot asked → Sofar slot still before w.state → Sofar slot still before (called w.state (turn asked))
  unfolding Turns after
  so_far_next asked before o f = after_so_far slot still before w.state (turn asked ∷ []) (o, (between, tt)) f

  -- A call on the record.
  module _ (asked : Asked) (o : OfSlot slot asked) (e : is_bring_up asked ≡ false) where
    abbrev c : Call
    c = record { asked = asked; buffers = buffers }

    same_state : called w.state (turn asked) ≡ called_here here c
    unfolding called
    same_state = called_here_lem here asked buffers keeps e

    watched_here : watched took w (turn asked) ≡ record { state = called_here here c; rings = rings asked }
    unfolding watched rings_left
    watched_here = ap (λ (s : State). record { state = s; rings = rings asked }) same_state

    down_rings : Down d → rings asked ≡ w.rings
    unfolding rings_left refused controlled
    down_rings n = rw (down_refuses asked buffers d table n e) refl

    down_after : Down d → watched took w (turn asked) ≡ record { state = here; rings = w.rings }
    down_after n =
        watched_here
        ∙ ap (λ (s : State). record { state = s; rings = rings asked }) (down_same here asked buffers n e)
        ∙ ap (λ (r : ℕ → ℕ). record { state = here; rings = r }) (down_rings n)

    up_after : Standing slot still w → Leaves (left asked buffers d table).device (rings asked) → Doubts slot still (record { state = called_here here c; rings = rings asked })
    unfolding called_here
    up_after s (inr g) = inl g
    up_after s (inl r) =
        let f : Sofar slot still s.before (called_here here c) = rw same_state at (so_far_next asked s.before o s.so_far) in
        let g : Good slot f.base (called_here here c) = not_down slot f.base (called_here here c) (λ n. not_both _ r.0 n.1) f.stands in
        inr
        (record {
          before = s.before;
          so_far = f;
          full = good_full slot f.base (called_here here c) g;
          never = up_none_free slot f.base (called_here here c) (rings asked) f.stands r.0 r.1;
          held = inl r;
        })

    on_record : Doubts slot still w → Doubts slot still (watched took w (turn asked))
    on_record (inl g) = rw (down_after g.0) (inl g)
    on_record (inr s) = go s.held
      where
        go : ((d.up ≡ true) × Ringed d w.rings) ⊎ Down d → Doubts slot still (watched took w (turn asked))
        go (inl u) =
            let n = stands_other slot _ here (stands_between slot still s.so_far.base w.state table between s.so_far.stands) asked buffers e in
            rw watched_here (up_after s (each_leaves d table buffers took w.rings u.0 u.1 slot asked o e n))
        go (inr n) =
            rw (down_after n)
            (inr
            (record {
              before = s.before;
              so_far = so_far_between slot still s.before w.state table between s.so_far;
              full = full_here s.full;
              never = s.never;
              held = inr n;
            }))

  -- A bring-up.
  module _ (a : BringUp) (same : a.slot ≡ slot) (given : (x : ℕ) → elem x a.rings ≡ true → x < 2 ^ 64) where
    abbrev l : Left
    l = bring_up a buffers.ctx table buffers.log buffers.outcomes

    abbrev kept : Bool
    kept = keeps && not (is_accepted l.answer)

    abbrev now : Plain
    now =
        observed (begins a) buffers l.answer (take l.count l.log)
        (context_cut (record { asked = brings_up a; buffers = buffers }) d table) w.state.plain

    abbrev next : Watched
    next = record { state = record { device = cond kept d l.device; routes = l.routes; plain = now }; rings = rings (brings_up a) }

    watched_next : watched took w (turn (brings_up a)) ≡ next
    unfolding watched called record_after left effect_of rings_left
    watched_next = refl

    so_far_here : (before : List ℕ) → Sofar slot still before w.state → Sofar slot still before next.state
    unfolding OfSlot called record_after left effect_of
    so_far_here before f = so_far_next (brings_up a) before same f

    returned : Down d → Down l.device → Down (cond kept d l.device)
    returned n m = go kept
      where
        go : (b : Bool) → Down (cond b d l.device)
        go true = n
        go false = m

    -- Refused, it changes nothing.
    module _ (r : Refused buffers.ctx table buffers.log l) where
      no_rings : rings (brings_up a) ≡ w.rings
      unfolding rings_left left controlled
      no_rings = rw r.count refl

      plain_same : now ≡ w.state.plain
      plain_same = rw r.count (observed_refused (begins a) buffers _ _ w.state.plain (r.answer.accepted, simp (r.answer.broken, r.answer.cut)))

      down_returned : Down l.device
      unfolding no_device
      down_returned = rw r.device (refl, refl)

      gone_refused : Gone d w.rings → Doubts slot still next
      gone_refused g = inl (rw no_rings (returned g.0 down_returned, g.1))

      standing_refused : (s : Standing slot still w) → Sofar slot still s.before next.state → Doubts slot still next
      standing_refused s f =
          inr
          (record {
            before = s.before;
            so_far = f;
            full = rw r.table (full_here s.full);
            never = rw (plain_same, no_rings) s.never;
            held = rw no_rings (go kept);
          })
        where
          go : (b : Bool) → (((cond b d l.device).up ≡ true) × Ringed (cond b d l.device) w.rings) ⊎ Down (cond b d l.device)
          go true = s.held
          go false = inr down_returned

    -- Run, the slot begins: its controller has control's ring, if any.
    module _ (r : Ran a buffers.ctx table buffers.log buffers.outcomes l) (g : Gone d w.rings) where
      abbrev spacing : ℕ
      spacing = spacing_of (length buffers.ctx)

      abbrev course : Course Brought
      course = bring_up_course a spacing buffers.ctx table

      sends : 1 ≤ length (words buffers.outcomes 0 course)
      unfolding bring_up_course
      sends = bring_up_sends buffers.outcomes buffers.ctx (with_route table a.slot 1 (control_ring a)) a spacing

      count : 1 ≤ l.count
      unfolding brought_left played
      count =
          let c : l.count ≡ 0 + length (words buffers.outcomes 0 course) = ap (λ (x : Left). x.count) r.left in
          omega (arith, c, sends)

      -- its checks have passed
      check : bring_up_check a (length buffers.ctx) table (length buffers.log) ≡ Pass
      unfolding bring_up on_check refused
      check = go (bring_up_check a (length buffers.ctx) table (length buffers.log)) refl
        where
          go : (k : Check) → bring_up_check a (length buffers.ctx) table (length buffers.log) ≡ k → k ≡ Pass
          go (Ok _) e = refl
          go (Err x) e =
              let z : l.count ≡ 0 =
              ap
              (λ y.
              (on_check y (brought_left a spacing (played buffers.outcomes 0 course buffers.log))
              (λ x. refused no_device x buffers.ctx table buffers.log)).count) e in
              absurd (omega (arith, count, z))

      few : configurations a.list ≤ 8
      few = (listed a.speed a.list r.pass.list).few

      even : control_ring a % 16 ≡ 0
      unfolding control_ring
      even =
          let t = elem_place (least a.rings) a.rings (given_least a.rings r.pass.rings) in
          subst (λ x. x % 16 ≡ 0) t.2 (((given_promise a.rings).0 r.pass.rings).multiple t.0 t.1)

      wide : control_ring a < 2 ^ 64
      unfolding control_ring
      wide = given (least a.rings) (given_least a.rings r.pass.rings)

      abbrev left_rings : ℕ → ℕ
      left_rings = followed (rings_after took) buffers.outcomes 0 course w.rings

      ran_rings : rings (brings_up a) ≡ left_rings
      unfolding rings_left left bring_up context_cut cut_at on_check brought_left played bring_up_course
      ran_rings =
          ap
          (λ k.
          controlled (rings_after took)
          (λ i.
          (on_check k (brought_left a spacing (played (take i buffers.outcomes) 0 course buffers.log))
          (λ x. refused no_device x buffers.ctx table buffers.log)).ctx)
          buffers.outcomes 0
          (take
          (on_check k (brought_left a spacing (played buffers.outcomes 0 course buffers.log))
          (λ x. refused no_device x buffers.ctx table buffers.log)).count
          (on_check k (brought_left a spacing (played buffers.outcomes 0 course buffers.log))
          (λ x. refused no_device x buffers.ctx table buffers.log)).log) w.rings) check
          ∙ course_rings took buffers.outcomes buffers.log w.rings (λ (b : Brought). b.ctx) course
          (omega (arith, few, bring_up_words a spacing buffers.ctx table buffers.outcomes, r.pass.room))
          (bring_up_cuts a spacing (with_route table a.slot 1 (control_ring a)) buffers.ctx)
          (bring_up_bytes a spacing (with_route table a.slot 1 (control_ring a)) buffers.ctx few)

      placed : (q : ℕ) → q < 30 → left_rings (dci_at q) ≡ 0
      unfolding bring_up_course
      placed q h =
          brought_place a spacing (with_route table a.slot 1 (control_ring a)) buffers.outcomes buffers.ctx r.pass.spaced refl few even wide took w.rings g.1
          (dci_at q) (dci_low q h) (dci_high q h)

      outer : (x : ℕ) → Outer x → OrNone (left_rings x) (control_ring a)
      unfolding bring_up_course
      outer =
          brought_outer a spacing (with_route table a.slot 1 (control_ring a)) buffers.outcomes buffers.ctx r.pass.spaced refl few even wide took w.rings g.1

      -- the groups begin: control's ring is not free
      abbrev begun : State
      begun = called w.state (first a buffers table)

      groups : now.groups ≡ given_groups a.rings
      unfolding called effect_of left
      groups = (first_groups w.state buffers a table count).0

      never : NoneFree now left_rings
      unfolding control_ring
      never =
          at_each (λ x. (left_rings x ≡ 0 → ⊥) → now.groups.free (left_rings x) ≡ false) (λ q h n. absurd (n (placed q h)))
          (λ x o n.
          ⊎_elim (λ z. absurd (n z))
          (λ e. ap (λ (g : Groups). g.free (left_rings x)) groups ∙ least_not_free a.rings (left_rings x) e) (outer x o))

      -- the slot stands, whichever record its caller has
      stands : (b : Bool) → Stands slot table (record { device = cond b d l.device; routes = l.routes; plain = now })
      unfolding called record_after left effect_of
      stands b = subst (λ x. Stands x table (record { device = cond b d l.device; routes = l.routes; plain = now })) same (go b)
        where
          go : (b : Bool) → Stands a.slot table (record { device = cond b d l.device; routes = l.routes; plain = now })
          go false = first_stands w.state buffers a table count
          go true = stands_down a.slot table begun d g.0 (first_stands w.state buffers a table count)

      full : Full slot l.routes
      unfolding route_of with_route route_index control_ring
      full z =
          least_nonzero a.rings r.pass.rings
          (sym (get_or-set_same table (32 * a.slot + 1) (control_ring a) 0 (omega (arith, r.pass.table, r.pass.slot_high)))
          ∙ ap (λ x. route_of x a.slot 1) (sym (ran_table a buffers.ctx table buffers.log buffers.outcomes l r))
          ∙ ap (λ x. route_of l.routes x 1) same ∙ z)

      -- accepted, its record is up and has no endpoint; else it is not up
      marks : (l.device.usable ≡ is_accepted l.answer) × (l.device.up ≡ is_accepted l.answer)
      unfolding brought_left brought_record
      marks = (
        ap (λ (x : Left). x.device.usable) r.left ∙ sym (ap (λ (x : Left). is_accepted x.answer) r.left),
        ap (λ (x : Left). x.device.up) r.left ∙ sym (ap (λ (x : Left). is_accepted x.answer) r.left),
      )

      control_first : is_accepted l.answer ≡ true → left_rings 1 ≡ control_ring a
      unfolding bring_up_course brought_left played
      control_first e =
          brought_first a spacing (with_route table a.slot 1 (control_ring a)) buffers.outcomes buffers.ctx r.pass.spaced refl few even wide took w.rings g.1
          (sym (ap (λ (x : Left). is_accepted x.answer) r.left) ∙ e)

      no_ring : (q : ℕ) → q < 30 → endpoint_map_in l.device ≡ no_endpoints → get_or (endpoint_map_in l.device).rings q 0 ≡ 0
      unfolding no_endpoints
      no_ring q h e = ap (λ (y : EndpointMap). get_or y.rings q 0) e ∙ get_or-replicate 30 q 0 0 h

      accepted_ringed : is_accepted l.answer ≡ true → Ringed l.device left_rings
      accepted_ringed e =
          let u = accepted_by_number a buffers.ctx table buffers.log buffers.outcomes (eqb-true (number l.answer) 0 e) in
          record {
            own = λ x q h. placed q h ∙ sym (no_ring q h u.endpoints);
            first = λ x. control_first e ∙ sym u.control;
            safe = λ q h. inl (placed q h);
            outer = λ x o. rw u.control (outer x o);
            wide = λ x i. given x (rw u.given at i);
          }

      held : Decided (is_accepted l.answer) → (((cond kept d l.device).up ≡ true) × Ringed (cond kept d l.device) left_rings) ⊎ Down (cond kept d l.device)
      held (inl e) = rw (e, and-false keeps) (inl (marks.1 ∙ e, accepted_ringed e))
      held (inr n) = inr (returned g.0 (marks.0 ∙ n, marks.1 ∙ n))

      gone_ran : Doubts slot still next
      gone_ran =
          inr
          (record {
            before = table;
            so_far = record { base = table; stands = stands kept; empty = λ u. u; long = refl; others = λ k x y. refl };
            full = full;
            never = rw ran_rings never;
            held = rw ran_rings (held (decided (is_accepted l.answer)));
          })

    brought : Doubts slot still w → Doubts slot still (watched took w (turn (brings_up a)))
    brought (inl g) = rw watched_next (go (bring_up_cases a buffers.ctx table buffers.log buffers.outcomes))
      where
        go : Refused buffers.ctx table buffers.log l ⊎ Ran a buffers.ctx table buffers.log buffers.outcomes l → Doubts slot still next
        go (inl r) = gone_refused r g
        go (inr r) = gone_ran r g
    brought (inr s) =
        let r = bring_up_full a buffers.ctx table buffers.log buffers.outcomes (λ z. full_here s.full (ap (λ x. route_of table x 1) (sym same) ∙ z)) in
        let f : Sofar slot still s.before next.state = so_far_here s.before s.so_far in
        rw watched_next (standing_refused r s f)

  -- One call.
  called_doubts : (asked : Asked) → OfSlot slot asked → Given64 asked → Doubts slot still w → Doubts slot still (watched took w (turn asked))
  unfolding OfSlot Given64 is_bring_up
  called_doubts (brings_up a) o g = brought a o g
  called_doubts (claims i a) o g = on_record (claims i a) o refl
  called_doubts (commits p) o g = on_record (commits p) o refl
  called_doubts (releases i) o g = on_record (releases i) o refl
  called_doubts (configures value) o g = on_record (configures value) o refl
  called_doubts (updates_hub ports multi ns) o g = on_record (updates_hub ports multi ns) o refl
  called_doubts disconnects o g = on_record disconnects o refl

-- Any list of calls.
pub all_doubts :
    (slot : ℕ) (still took : ℕ → Bool) (turns : List Turn) (w : Watched) → AllGiven64 turns → Turns slot still w.state turns →
    Doubts slot still w → Doubts slot still (watched_after took w turns)
unfolding AllGiven64 Turns watched watched_after
all_doubts slot still took [] w g o h = h
all_doubts slot still took (t ∷ ts) w g o h =
    all_doubts slot still (λ n. took (n + 1)) ts (watched (took 0) w t) g.1 o.1.1
    (called_doubts slot still (took 0) w t.call.buffers t.table t.keeps o.1.0 t.call.asked o.0 g.0 h)
