-- What holds of record, table and plain slot before and after each call.
use Prim.Native.Nat.{ℕ, zero, suc, ◌+◌, ◌*◌, ◌≤◌, ◌<◌}
use mathlib.Core.Path.{◌≡◌, refl, sym, ◌∙◌, ap}
use mathlib.Core.Bool.{true, false, not, cond}
use mathlib.Core.List.{List}
use mathlib.Core.Logic.{◌⊎◌, inl, inr}
use native.Mathlib.Omega.{arith}
use borrow.Author.Tests.{eq-eqb, ne_eqb, eqb-true, eqb-false}
use lib.Dec.{eqb}
use lib.ListN.{length, get_or}
use Rattle.laws.proofs.Tests.{not_both}
use Rattle.laws.proofs.Cases.{Decided, decided}
use Rattle.transfer.specs.Routes.{ring_for, names, route_of, OutsideSlot}
use Rattle.transfer.proofs.Laws.{ring_for_none}
use Rattle.record_endpoint.specs.Order.{dci_at}
use Rattle.record_endpoint.specs.EndpointMap.{owned_rings}
use Rattle.record_endpoint.specs.declared.endpoint_map.Owner.TheVariants.{Interface}
use Rattle.record_endpoint.specs.declared.endpoint_map.EndpointMap.{EndpointMap}
use Rattle.record_endpoint.proofs.Laws.{dci_low, dci_high}
use Rattle.record_settings.specs.Held.{is_held}
use Rattle.record_settings.proofs.Laws.{match_facts, match_unheld}
use Rattle.theorem_routing.specs.Routing.{RoutedBy, NamedBy}
use Rattle.theorem_routing.proofs.Laws.{each_dci}
use Rattle.device.specs.declared.record.Device.{Device}
use Rattle.device.specs.Device.{list_of, endpoint_map_in, held_of}
use Rattle.device.specs.Sound.{sound}
use Rattle.device.proofs.Facts.{sound_facts}
use Rattle.device.proofs.Made.{sound_clean}
use Rattle.theorem_slot.specs.Groups.{Parted}
use Rattle.theorem_slot.specs.Plain.{Plain, is_up, is_unplugged, is_not_up, plain_route, is_held_dci, held_queues, queues_of_one}
use Rattle.theorem_slot.specs.Theorem.{State, Untouched}
use Rattle.theorem_slot.proofs.Settings.{AllFit, held_at, held_low, held_names, held_ring, held_inside, pairs, pairs_setting, has_setting}
use Rattle.theorem_slot.proofs.Kept.{ByPlace}
use Rattle.theorem_slot.proofs.Owned.{one_by_place}
use Rattle.theorem_slot.proofs.Record.{AgreeWith, parted_record}

-- A sound record and the plain slot say the same, whether or not it is usable.
pub record Live (slot : ℕ) (d : Device) (p : Plain) : Type 0 where
  pub is_sound : sound d ≡ true
  pub place : d.slot.0 ≡ slot
  pub list : list_of d ≡ p.list
  pub held : pairs p.held ≡ held_of d
  pub fits : AllFit (endpoint_map_in d) p.held
  pub groups : AgreeWith d p.groups

-- So they part the given rings.
pub live_parted : (slot : ℕ) (d : Device) (p : Plain) → Live slot d p → Parted p.groups
live_parted slot d p l = parted_record d l.is_sound p.groups l.groups

-- A record of which every call is refused: a bring-up that was not accepted returns it, and an accepted unplugging.
abbrev pub Down : Device → Type 0
Down d = (d.usable ≡ false) × (d.up ≡ false)

-- A slot without routes.
abbrev pub Unrouted : List ℕ → ℕ → Type 0
Unrouted routes slot = (d : ℕ) → d < 32 → route_of routes slot d ≡ 0

-- While it is up.
pub record Good (slot : ℕ) (before : List ℕ) (s : State) : Type 0 where
  pub phase : is_up s.plain.phase ≡ true
  pub long : length s.routes ≡ length before
  pub room : 32 * slot + 32 ≤ length before
  pub others : (k : ℕ) → OutsideSlot slot k → get_or s.routes k 0 ≡ get_or before k 0
  pub live : Down s.device ⊎ Live slot s.device s.plain
  pub parted : Parted s.plain.groups
  pub on : s.plain.enabled 1 ≡ true
  pub enabled :
      s.plain.broken ≡ false → (d : ℕ) → 2 ≤ d → d < 32 →
      s.plain.enabled d ≡ is_held_dci s.plain d
  -- whatever the slot's words held before its bring-up, control and the held endpoints are routed
  pub control : s.plain.control ≡ 0 → ⊥
  pub first : route_of s.routes slot 1 ≡ s.plain.control
  pub named :
      (q : ℕ) → q < 30 → is_held_dci s.plain (dci_at q) ≡ true →
      route_of s.routes slot (dci_at q) ≡ ring_for (dci_at q) (held_queues s.plain.held) 0
  -- and nothing else, where they were all 0
  pub own : Unrouted before slot → (d : ℕ) → d < 32 → route_of s.routes slot d ≡ plain_route s.plain d

-- While it is unplugged.
pub record Empty (slot : ℕ) (before : List ℕ) (s : State) : Type 0 where
  pub phase : is_unplugged s.plain.phase ≡ true
  pub table : Untouched slot before s.routes
  pub room : 32 * slot + 32 ≤ length before
  pub down : Down s.device
  pub none : Unrouted s.routes slot
  pub plain : (d : ℕ) → plain_route s.plain d ≡ 0
  pub parted : Parted s.plain.groups
  pub off : (d : ℕ) → s.plain.enabled d ≡ false

-- After a bring-up that failed: control's word is set.
pub record Failed (slot : ℕ) (before : List ℕ) (s : State) : Type 0 where
  pub phase : is_not_up s.plain.phase ≡ true
  pub table : Untouched slot before s.routes
  pub room : 32 * slot + 32 ≤ length before
  pub down : Down s.device
  pub first : route_of s.routes slot 1 ≡ 0 → ⊥
  pub parted : Parted s.plain.groups

-- Wherever it stands.
abbrev pub Stands : ℕ → List ℕ → State → Type 0
Stands slot before s = Good slot before s ⊎ (Empty slot before s ⊎ Failed slot before s)

pub stands_table : (slot : ℕ) (before : List ℕ) (s : State) → Stands slot before s → Untouched slot before s.routes
stands_table slot before s (inl g) = record { long = g.long; words = g.others }
stands_table slot before s (inr (inl g)) = g.table
stands_table slot before s (inr (inr g)) = g.table

pub stands_room : (slot : ℕ) (before : List ℕ) (s : State) → Stands slot before s → 32 * slot + 32 ≤ length before
stands_room slot before s (inl g) = g.room
stands_room slot before s (inr (inl g)) = g.room
stands_room slot before s (inr (inr g)) = g.room

-- The same slot with another such record.
pub stands_down :
    (slot : ℕ) (before : List ℕ) (s : State) (d : Device) → Down d → Stands slot before s →
    Stands slot before (record { device = d; routes = s.routes; plain = s.plain })
stands_down slot before s d n (inl g) =
    inl
    (record {
      phase = g.phase;
      long = g.long;
      room = g.room;
      others = g.others;
      live = inl n;
      parted = g.parted;
      on = g.on;
      enabled = g.enabled;
      control = g.control;
      first = g.first;
      named = g.named;
      own = g.own;
    })
stands_down slot before s d n (inr (inl g)) =
    inr
    (inl
    (record {
      phase = g.phase;
      table = g.table;
      room = g.room;
      down = n;
      none = g.none;
      plain = g.plain;
      parted = g.parted;
      off = g.off;
    }))
stands_down slot before s d n (inr (inr g)) =
    inr (inr (record { phase = g.phase; table = g.table; room = g.room; down = n; first = g.first; parted = g.parted }))

-- The plain slot's queues are those of some endpoints.
pub record Tells (p : Plain) (c : EndpointMap) : Type 0 where
  pub ring : (q : ℕ) → q < 30 → ring_for (dci_at q) (held_queues p.held) 0 ≡ get_or c.rings q 0
  pub named : (q : ℕ) → q < 30 → names (dci_at q) (held_queues p.held) ≡ not (eqb (get_or c.rings q 0) 0)
  pub low : names 0 (held_queues p.held) ≡ false

-- A sound record's endpoints.
pub live_tells : (slot : ℕ) (d : Device) (p : Plain) → Live slot d p → Tells p (endpoint_map_in d)
live_tells slot d p l =
    record {
      ring = λ q h. held_ring (endpoint_map_in d) p.held q 0 l.fits h ∙ ring_all q h (decided (eqb (get_or (endpoint_map_in d).rings q 0) 0));
      named = λ q h. held_names (endpoint_map_in d) p.held q l.fits h ∙ name_all q h (decided (eqb (get_or (endpoint_map_in d).rings q 0) 0));
      low = held_low (endpoint_map_in d) p.held l.fits;
    }
  where
    owned : (q : ℕ) → q < 30 → eqb (get_or (endpoint_map_in d).rings q 0) 0 ≡ false → has_setting (get_or (endpoint_map_in d).owners q 0) p.held ≡ true
    owned q h e =
        pairs_setting (get_or (endpoint_map_in d).owners q 0) p.held
        ∙ ap (is_held (get_or (endpoint_map_in d).owners q 0)) l.held
        ∙ (match_facts (list_of d) (held_of d) (endpoint_map_in d) (sound_facts d l.is_sound).endpoints).held q h
        (eqb-false (get_or (endpoint_map_in d).rings q 0) 0 e)

    ring_all :
        (q : ℕ) → q < 30 → Decided (eqb (get_or (endpoint_map_in d).rings q 0) 0) →
        cond (held_at (endpoint_map_in d) q p.held) (get_or (endpoint_map_in d).rings q 0) 0 ≡ get_or (endpoint_map_in d).rings q 0
    ring_all q h (inl e) = rw e (sym (eqb-true (get_or (endpoint_map_in d).rings q 0) 0 e))
    ring_all q h (inr e) = rw (e, owned q h e)

    name_all :
        (q : ℕ) → q < 30 → Decided (eqb (get_or (endpoint_map_in d).rings q 0) 0) →
        held_at (endpoint_map_in d) q p.held ≡ not (eqb (get_or (endpoint_map_in d).rings q 0) 0)
    name_all q h (inl e) = rw e
    name_all q h (inr e) = rw (e, owned q h e)

-- The plain slot's queues are those of all its endpoints.
pub live_by_place : (slot : ℕ) (d : Device) (p : Plain) → Live slot d p → ByPlace (held_queues p.held) (endpoint_map_in d).rings
live_by_place slot d p l =
    let t = live_tells slot d p l in
    record {
      long = (sound_clean d l.is_sound).whole.rings;
      named = t.named;
      ring = t.ring;
      inside = held_inside (endpoint_map_in d) p.held l.fits;
    }

-- Those of one interface are those of its endpoints.
pub live_one :
    (slot : ℕ) (d : Device) (p : Plain) → Live slot d p → (i : ℕ) → ByPlace (queues_of_one i p.held) (owned_rings (Interface i) (endpoint_map_in d))
live_one slot d p l i =
    one_by_place (endpoint_map_in d) i p.held l.fits
    (λ q h n.
    match_unheld (list_of d) (held_of d) (endpoint_map_in d)
    (match_facts (list_of d) (held_of d) (endpoint_map_in d) (sound_facts d l.is_sound).endpoints) i q
    (sym (pairs_setting i p.held ∙ ap (is_held i) l.held) ∙ n) h)

-- The plain slot's routes.
pub route_zero : (p : Plain) → names 0 (held_queues p.held) ≡ false → plain_route p 0 ≡ 0
unfolding plain_route
route_zero p e = ring_for_none 0 (held_queues p.held) 0 e

pub route_one : (p : Plain) → plain_route p 1 ≡ p.control
unfolding plain_route
route_one p = refl

pub route_at : (p : Plain) (q : ℕ) → q < 30 → plain_route p (dci_at q) ≡ ring_for (dci_at q) (held_queues p.held) 0
unfolding plain_route
route_at p q h = rw (ne_eqb (dci_at q) 1 (λ e. omega (arith, dci_low q h)))

-- What holds of words 0 and 1 and of the word at each place holds of each word.
each_word : (P : ℕ → Type 0) → P 0 → P 1 → ((q : ℕ) → q < 30 → P (dci_at q)) → (d : ℕ) → d < 32 → P d
each_word P z o h zero l = z
each_word P z o h (suc zero) l = o
each_word P z o h (suc (suc d)) l = each_dci P h (suc (suc d)) (omega arith) l

-- The routes are the endpoints', where they are the plain slot's.
pub routed_from :
    (slot : ℕ) (routes : List ℕ) (p : Plain) (c : EndpointMap) →
    ((d : ℕ) → d < 32 → route_of routes slot d ≡ plain_route p d) → Tells p c → RoutedBy routes slot c
routed_from slot routes p c own t q h = own (dci_at q) (dci_high q h) ∙ route_at p q h ∙ t.ring q h

-- Each that is there is routed.
pub named_from :
    (slot : ℕ) (routes : List ℕ) (p : Plain) (c : EndpointMap) →
    ((q : ℕ) → q < 30 → is_held_dci p (dci_at q) ≡ true → route_of routes slot (dci_at q) ≡ ring_for (dci_at q) (held_queues p.held) 0) →
    Tells p c → NamedBy routes slot c
unfolding is_held_dci
named_from slot routes p c named t q h z =
    named q h (t.named q h ∙ ap not (ne_eqb (get_or c.rings q 0) 0 z)) ∙ t.ring q h

-- And the other way round.
pub own_from :
    (slot : ℕ) (routes : List ℕ) (p : Plain) (c : EndpointMap) → RoutedBy routes slot c → Tells p c →
    route_of routes slot 0 ≡ 0 → route_of routes slot 1 ≡ p.control →
    (d : ℕ) → d < 32 → route_of routes slot d ≡ plain_route p d
own_from slot routes p c r t z o =
    each_word (λ d. route_of routes slot d ≡ plain_route p d) (z ∙ sym (route_zero p t.low)) (o ∙ sym (route_one p))
    (λ q h. r q h ∙ sym (t.ring q h) ∙ sym (route_at p q h))

pub named_of :
    (slot : ℕ) (routes : List ℕ) (p : Plain) (c : EndpointMap) → NamedBy routes slot c → Tells p c →
    (q : ℕ) → q < 30 → is_held_dci p (dci_at q) ≡ true → route_of routes slot (dci_at q) ≡ ring_for (dci_at q) (held_queues p.held) 0
unfolding is_held_dci
named_of slot routes p c n t q h e =
    n q h (λ z. not_both (names (dci_at q) (held_queues p.held)) e (t.named q h ∙ ap not (eq-eqb (get_or c.rings q 0) 0 z)))
    ∙ sym (t.ring q h)

-- What a call leaves of the plain slot, an unplugging that is accepted and a bring-up apart.
pub record Upheld (s now : State) : Type 0 where
  pub phase : now.plain.phase ≡ s.plain.phase
  pub control : now.plain.control ≡ s.plain.control
  pub on : now.plain.enabled 1 ≡ s.plain.enabled 1

module _ (slot : ℕ) (before : List ℕ) (s now : State) (g : Good slot before s) (u : Upheld s now) where
  same : now.plain.control ≡ s.plain.control
  same = u.control

  -- A call that moves routes of the slot: words 0 and 1 stay, and the others are those of the endpoints that the plain slot tells of.
  pub good_moved :
      Untouched slot s.routes now.routes →
      (old c : EndpointMap) → Tells s.plain old → Tells now.plain c → NamedBy now.routes slot c →
      (Unrouted before slot → RoutedBy now.routes slot c) →
      ((d : ℕ) → d < 2 → route_of now.routes slot d ≡ route_of s.routes slot d) →
      (now.plain.broken ≡ false → (q : ℕ) → q < 30 →
      now.plain.enabled (dci_at q) ≡ not (eqb (get_or c.rings q 0) 0)) →
      Live slot now.device now.plain →
      Good slot before now
  unfolding is_held_dci
  good_moved w old c was t n r low e l =
      record {
        phase = ap is_up u.phase ∙ g.phase;
        on = u.on ∙ g.on;
        long = w.long ∙ g.long;
        room = g.room;
        others = λ k o. w.words k o ∙ g.others k o;
        live = inr l;
        parted = live_parted slot now.device now.plain l;
        enabled = λ b.
            each_dci (λ d. now.plain.enabled d ≡ names d (held_queues now.plain.held))
            (λ q h. e b q h ∙ sym (t.named q h));
        control = λ z. g.control (sym same ∙ z);
        first = low 1 (omega arith) ∙ g.first ∙ sym same;
        named = named_of slot now.routes now.plain c n t;
        own = λ x.
            own_from slot now.routes now.plain c (r x) t
            (low 0 (omega arith) ∙ g.own x 0 (omega arith) ∙ route_zero s.plain was.low)
            (low 1 (omega arith) ∙ g.first ∙ sym same);
      }

  -- A call that leaves routes and held settings.
  pub good_same :
      now.routes ≡ s.routes → now.plain.held ≡ s.plain.held →
      (now.plain.broken ≡ false → (d : ℕ) → 2 ≤ d → d < 32 →
      now.plain.enabled d ≡ is_held_dci s.plain d) →
      Live slot now.device now.plain →
      Good slot before now
  unfolding is_held_dci plain_route
  good_same r h e l =
      record {
        phase = ap is_up u.phase ∙ g.phase;
        on = u.on ∙ g.on;
        long = rw r g.long;
        room = g.room;
        others = λ k o. rw r (g.others k o);
        live = inr l;
        parted = live_parted slot now.device now.plain l;
        enabled = λ b d two k. rw h (e b d two k);
        control = λ z. g.control (sym same ∙ z);
        first = rw (r, same) g.first;
        named = λ q k. rw (r, h) (g.named q k);
        own = λ x d k. rw (r, same, h) (g.own x d k);
      }

-- While no answer was 14 or 15, the enabled endpoints are the record's.
pub enabled_was :
    (slot : ℕ) (before : List ℕ) (s : State) → Good slot before s → Live slot s.device s.plain →
    s.plain.broken ≡ false → (q : ℕ) → q < 30 →
    s.plain.enabled (dci_at q) ≡ not (eqb (get_or (endpoint_map_in s.device).rings q 0) 0)
unfolding is_held_dci
enabled_was slot before s g l b q h =
    g.enabled b (dci_at q) (dci_low q h) (dci_high q h) ∙ (live_tells slot s.device s.plain l).named q h

-- A record that passed its checks.
pub live_here :
    (slot : ℕ) (before : List ℕ) (s : State) → Good slot before s → s.device.usable ≡ true → Live slot s.device s.plain
live_here slot before s g t = go g.live
  where
    go : Down s.device ⊎ Live slot s.device s.plain → Live slot s.device s.plain
    go (inl n) = not_both s.device.usable t n.0
    go (inr l) = l

-- And one that is up.
pub live_up :
    (slot : ℕ) (before : List ℕ) (s : State) → Good slot before s → s.device.up ≡ true → Live slot s.device s.plain
live_up slot before s g t = go g.live
  where
    go : Down s.device ⊎ Live slot s.device s.plain → Live slot s.device s.plain
    go (inl n) = not_both s.device.up t n.1
    go (inr l) = l

-- A record that is not down is that of a slot that is up.
pub not_down : (slot : ℕ) (before : List ℕ) (s : State) → (Down s.device → ⊥) → Stands slot before s → Good slot before s
not_down slot before s n (inl g) = g
not_down slot before s n (inr (inl g)) = absurd (n g.down)
not_down slot before s n (inr (inr g)) = absurd (n g.down)

-- So a usable one says what the plain slot says,
pub usable_live : (slot : ℕ) (before : List ℕ) (s : State) → Stands slot before s → s.device.usable ≡ true → Live slot s.device s.plain
usable_live slot before s g u = live_here slot before s (not_down slot before s (λ d. not_both s.device.usable u d.0) g) u

-- and so is one that is up.
pub up_live : (slot : ℕ) (before : List ℕ) (s : State) → Stands slot before s → s.device.up ≡ true → Live slot s.device s.plain
up_live slot before s g u = live_up slot before s (not_down slot before s (λ d. not_both s.device.up u d.1) g) u
