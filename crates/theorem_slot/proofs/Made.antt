-- A call whose course has ended: what it makes of record, table and plain slot keeps the invariant.
use Prim.Native.Nat.{ℕ, zero, suc, ◌≤◌, ◌<◌}
use mathlib.Core.Path.{◌≡◌, sym, ◌∙◌, ap}
use mathlib.Core.Bool.{Bool, false, not}
use mathlib.Core.List.{List, [], ◌∷◌}
use native.Mathlib.Omega.{arith}
use lib.Dec.{eqb}
use lib.ListN.{get_or}
use Rattle.transfer.specs.Routes.{Queue, with_replaced, Small}
use Rattle.record_endpoint.specs.Order.{dci_at}
use Rattle.record_endpoint.specs.EndpointMap.{is_owned, with_active, queues_of, queue_dcis}
use Rattle.record_endpoint.specs.declared.endpoint_map.EndpointMap.{EndpointMap}
use Rattle.record_endpoint.specs.declared.endpoint_map.Owner.{Owner}
use Rattle.record_endpoint.proofs.Laws.{queues_small}
use Rattle.record_settings.specs.Held.{Held}
use Rattle.theorem_routing.specs.Routing.{RoutedBy, NamedBy}
use Rattle.theorem_routing.proofs.Laws.{low_kept, outside_kept, length_kept}
use Rattle.descriptor_list.specs.Companions.{joined}
use Rattle.device.specs.declared.record.Device.{Device}
use Rattle.device.specs.Device.{list_of, endpoint_map_in, quarantined_of, given_of}
use Rattle.device.proofs.Made.{Made}
use Rattle.theorem_slot.specs.Groups.{Groups}
use Rattle.theorem_slot.specs.Plain.{HeldSetting, Plain, is_held_dci}
use Rattle.theorem_slot.specs.Theorem.{State}
use Rattle.theorem_slot.proofs.Settings.{AllFit, fit_other, pairs}
use Rattle.theorem_slot.proofs.Record.{used_by, in_doubt, AgreeWith, used_same, doubt_same}
use Rattle.theorem_slot.proofs.Agree.{agree_same}
use Rattle.theorem_slot.proofs.Good.{Live, Unrouted, Good, Upheld, Tells, live_tells, good_moved, good_same}

-- Which endpoints are active does not matter.
pub fit_active : (who : Owner) (n : ℕ) (c : EndpointMap) (ss : List HeldSetting) → AllFit c ss → AllFit (with_active who n c) ss
unfolding with_active is_owned
fit_active who n c ss f =
    fit_other c (with_active who n c) ss
    (λ s x. record { named = x.named; ring = x.ring; inside = x.inside; byte = x.byte })
    f

-- The groups of a record that keeps its rings.
pub agree_made :
    (d e : Device) (hs : List Held) (c : EndpointMap) (lost : Bool) (g : Groups) → Made d e hs c lost →
    c.rings ≡ (endpoint_map_in d).rings → quarantined_of e ≡ quarantined_of d → AgreeWith d g → AgreeWith e g
agree_made d e hs c lost g m r q a =
    rw m.same.given
    (agree_same (given_of d) (used_by d) (in_doubt d) (used_by e) (in_doubt e) g a
    (used_same d e (ap (λ (k : EndpointMap). k.rings) m.endpoints ∙ r) m.same.control) (doubt_same d e q))

-- A record, lost or not, and a plain slot with its settings and endpoints.
pub made_live :
    (slot : ℕ) (d e : Device) (p q : Plain) (hs : List Held) (c : EndpointMap) (lost : Bool) → Made d e hs c lost → Live slot d p →
    q.list ≡ p.list → pairs q.held ≡ hs → AllFit c q.held → AgreeWith e q.groups → Live slot e q
unfolding list_of
made_live slot d e p q hs c lost m l same held fits groups =
    record {
      is_sound = m.is_sound;
      place = ap (λ x. x.0) m.same.slot ∙ l.place;
      list = ap joined m.same.list ∙ l.list ∙ sym same;
      held = held ∙ sym m.held;
      fits = rw m.endpoints fits;
      groups = groups;
    }

module _ (slot : ℕ) (before : List ℕ) (s now : State) (g : Good slot before s) (l : Live slot s.device s.plain)
    (hs : List Held) (c : EndpointMap) (lost : Bool) (m : Made s.device now.device hs c lost)
    (upheld : Upheld s now) (list : now.plain.list ≡ s.plain.list)
    (held : pairs now.plain.held ≡ hs) (fits : AllFit c now.plain.held) (groups : AgreeWith now.device now.plain.groups) where
  live_now : Live slot now.device now.plain
  live_now = made_live slot s.device now.device s.plain now.plain hs c lost m l list held fits groups

  now_tells : Tells now.plain c
  now_tells = rw (← m.endpoints) (live_tells slot now.device now.plain live_now)

  -- It moved routes of the slot.
  pub made_moved :
      (x y : List ℕ) → now.routes ≡ with_replaced s.routes slot (queues_of x) (queues_of y) →
      NamedBy (with_replaced s.routes slot (queues_of x) (queues_of y)) slot c →
      (Unrouted before slot → RoutedBy (with_replaced s.routes slot (queues_of x) (queues_of y)) slot c) →
      (now.plain.broken ≡ false → (q : ℕ) → q < 30 →
      now.plain.enabled (dci_at q) ≡ not (eqb (get_or c.rings q 0) 0)) →
      Good slot before now
  made_moved x y r n routed e =
      good_moved slot before s now g upheld
      (record {
        long = rw r (length_kept s.routes slot x y);
        words = λ k o. rw r (outside_kept s.routes slot x y k o);
      })
      (endpoint_map_in s.device) c (live_tells slot s.device s.plain l) now_tells (rw r n) (λ z. rw r (routed z))
      (λ d h. rw r (low_kept s.routes slot x y d h)) e live_now

  -- It left them.
  pub made_same :
      now.routes ≡ s.routes → now.plain.held ≡ s.plain.held →
      (now.plain.broken ≡ false → (d : ℕ) → 2 ≤ d → d < 32 →
      now.plain.enabled d ≡ is_held_dci s.plain d) →
      Good slot before now
  made_same r h e = good_same slot before s now g upheld r h e live_now

-- The Dcis of the queues of rings by place are bytes.
small_dcis : (qs : List Queue) (k : ℕ) → Small qs → get_or (queue_dcis qs) k 0 < 256
unfolding Small queue_dcis
small_dcis [] k f = omega arith
small_dcis (q ∷ qs) zero f = omega (arith, f.0)
small_dcis (q ∷ qs) (suc k) f = small_dcis qs k f.1

pub byte_dcis : (rings : List ℕ) (k : ℕ) → get_or (queue_dcis (queues_of rings)) k 0 < 256
byte_dcis rings k = small_dcis (queues_of rings) k (queues_small rings)
