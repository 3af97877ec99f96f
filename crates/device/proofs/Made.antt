-- The records that calls make of a sound one: what they hold, and that they are sound.
use Prim.Native.Nat.{ℕ, ◌≤◌}
use mathlib.Core.Path.{◌≡◌, refl, sym, ap, ◌∙◌}
use mathlib.Core.Bool.{Bool, true, false, not, cond, ◌&&◌}
use mathlib.Core.List.{List, [], ◌∷◌, ◌++◌}
use native.Mathlib.Omega.{arith}
use borrow.Author.Tests.{le-leb}
use lib.Dec.{leb}
use lib.ListN.{length, take, replicate}
use mathlib.Core.Logic.{⊎_elim}
use Rattle.laws.specs.Distinct.{elem}
use Rattle.laws.proofs.Tests.{and_left, and-true, not_both}
use Rattle.laws.proofs.Distinct.{elem_none, elem_here, elem_cases}
use Rattle.answer.specs.declared.Answer.{Answer}
use Rattle.answer.specs.Answer.{is_lost}
use Rattle.descriptor_list.specs.Companions.{valid_at}
use Rattle.record_ring.specs.Rings.{ring_ok, entered}
use Rattle.record_ring.proofs.Entered.{entered_none, elem_left, elem_right, elem_either}
use Rattle.record_endpoint.specs.declared.endpoint_map.EndpointMap.{EndpointMap}
use Rattle.record_endpoint.specs.declared.endpoint_map.Owner.{Owner}
use Rattle.record_endpoint.specs.Endpoint.{addresses, addresses_fit, rings_of}
use Rattle.record_endpoint.specs.EndpointMap.{endpoints_of, queues_of, queue_rings, with_active}
use Rattle.record_endpoint.proofs.Laws.{active_rings}
use Rattle.record_endpoint.proofs.Clean.{CleanMap, clean_active, endpoints_fit}
use Rattle.record_settings.specs.Held.{Held, settings_sound}
use Rattle.record_settings.specs.Match.{endpoints_match}
use Rattle.record_settings.proofs.Laws.{held_length, sound_fits, match_active}
use Rattle.record_checks.proofs.Laws.{Apart, placed_given, control_ok, clean_in, apart_in, apart_none, placed_rings, placed_few, placed_none, claim_sound, endpoint_rings, endpoints_few, queue_rings_lem}
use Rattle.record_checks.proofs.Together.{SoundRings, rings_sound as rings_sound_told}
use Rattle.record_checks.proofs.Stored.{SoundStore, store_sound as store_sound_told}
use Rattle.device.specs.declared.record.Device.{Device}
use Rattle.device.specs.Device.{words_of, list_of, endpoint_map_in, held_of, quarantined_of, given_of, Same, keep, put, lost, valued, endpoint_arrays, setting_arrays, ring_array, with_endpoints, with_held, with_configuration, with_quarantined, quarantines, unusable}
use Rattle.device.specs.Sound.{slot_sound, counts_fit, lists_sound, live_rings, rings_sound, store_sound, sound}
use Rattle.device.specs.Left.{marked}
use Rattle.device.proofs.Counts.{sound_counts_lem}
use Rattle.device.proofs.Facts.{SoundFacts, sound_facts, none_quarantined}
use Rattle.device.proofs.Updates.{same_self, same_then, same_list, rebuilt_same, live_of, with_endpoints_map, with_endpoints_live, with_held_held, with_quarantined_quarantined}

-- A sound record made of d: with d's own fields, these held settings and these endpoints; as up as it was, and usable where it is not lost.
pub record Made (d e : Device) (hs : List Held) (c : EndpointMap) (lost : Bool) : Type 0 where
  pub same : Same d e
  pub held : held_of e ≡ hs
  pub endpoints : endpoint_map_in e ≡ c
  pub up : e.up ≡ d.up
  pub usable : e.usable ≡ not lost
  pub is_sound : sound e ≡ true

-- It is usable unless it is lost.
pub made_usable : {d e : Device} {hs : List Held} {c : EndpointMap} {lost : Bool} → Made d e hs c lost → lost ≡ false → e.usable ≡ true
made_usable m l = m.usable ∙ rw l

-- What makes a record sound.

pub sound_if :
    (d : Device) → slot_sound d ≡ true → counts_fit d ≡ true → valid_at d.port_speed (words_of d) ≡ true → settings_sound (list_of d) (held_of d) ≡ true →
    addresses_fit (addresses (live_of d)) ≡ true → endpoints_match (list_of d) (held_of d) (endpoint_map_in d) ≡ true → rings_sound d ≡ true →
    store_sound d ≡ true → sound d ≡ true
unfolding sound lists_sound list_of live_of
sound_if d p q r s t u v w = rw (p, q, r, s, t, u, v, w)

rings_if : (d : Device) → SoundRings d.usable (live_rings d) (quarantined_of d) → rings_sound d ≡ true
unfolding rings_sound
rings_if d r = rings_sound_told d.usable (live_rings d) (quarantined_of d) r

store_if : (d : Device) → SoundStore (given_of d) (live_rings d) (quarantined_of d) → store_sound d ≡ true
unfolding store_sound
store_if d r = store_sound_told (given_of d) (live_rings d) (quarantined_of d) r

same_place : (d e : Device) → Same d e → slot_sound e ≡ slot_sound d
unfolding slot_sound
same_place d e s = rw (s.slot, s.max_slots, s.spacing, s.speed)

sound_place : (d : Device) → sound d ≡ true → slot_sound d ≡ true
unfolding sound
sound_place d s = and_left (slot_sound d) _ s

-- The mark keeps a record sound.
pub unusable_sound : (d : Device) → sound d ≡ true → sound (unusable d) ≡ true
unfolding slot_sound counts_fit words_of list_of held_of endpoint_map_in live_of live_rings quarantined_of given_of unusable
unusable_sound d s =
    let f : SoundFacts d = sound_facts d s in
    sound_if (unusable d) (sound_place d s) (sound_counts_lem d s) f.valid f.settings f.addresses_fit_lem f.endpoints
    (rings_if (unusable d)
    (record {
      few = f.rings.few;
      live_ok = f.rings.live_ok;
      live_distinct = f.rings.live_distinct;
      ok = f.rings.ok;
      apart = f.rings.apart;
      free = λ t. not_both false t refl;
    }))
    (store_if (unusable d) f.store)

-- Control's ring of a sound record is a nonzero multiple of 16.
pub sound_control : (d : Device) → sound d ≡ true → ring_ok d.control ≡ true
unfolding live_rings
sound_control d s = control_ok d.ep_count d.eps d.ep_interfaces d.control (sound_facts d s).rings.live_ok

-- A record of d's own fields, these settings, the endpoints in order, and rings that may stand together.
pub record Base (d e : Device) (hs : List Held) (c : EndpointMap) : Type 0 where
  pub same : Same d e
  pub held : held_of e ≡ hs
  pub endpoints : endpoint_map_in e ≡ c
  pub live : live_of e ≡ endpoints_of c
  pub count : e.ep_count ≡ length (endpoints_of c)
  pub few : e.quarantined_count ≤ 61
  pub rings : SoundRings e.usable (placed_rings c.rings ++ (d.control ∷ [])) (quarantined_of e)
  pub store : SoundStore (given_of d) (placed_rings c.rings ++ (d.control ∷ [])) (quarantined_of e)

-- Where its parts are sound, it is.
module _ (d e : Device) (hs : List Held) (c : EndpointMap) (s : sound d ≡ true) (b : Base d e hs c)
    (settings : settings_sound (list_of d) hs ≡ true) (match : endpoints_match (list_of d) hs c ≡ true) where
  held_count : e.held_count ≡ length hs
  unfolding held_of
  held_count = sym (held_length e.held_count e.interfaces e.alternates) ∙ ap length b.held

  counts_fit_lem : counts_fit e ≡ true
  unfolding counts_fit
  counts_fit_lem =
      let f : SoundFacts d = sound_facts d s in
      let h : length hs ≤ 32 = sound_fits (list_of d) hs f.list settings in
      and-true (leb e.list_len 256) _ (le-leb e.list_len 256 (omega (arith, b.same.list_length, f.counts.list)))
      (and-true (leb e.ep_count 30) _ (le-leb e.ep_count 30 (omega (arith, b.count, endpoints_few c)))
      (and-true (leb e.held_count 32) _ (le-leb e.held_count 32 (omega (arith, held_count)))
      (and-true (leb e.quarantined_count 61) _ (le-leb e.quarantined_count 61 b.few)
      (le-leb e.given_count 64 (omega (arith, b.same.given_count, f.counts.given))))))

  live_rings_lem : live_rings e ≡ placed_rings c.rings ++ (d.control ∷ [])
  unfolding live_rings live_of
  live_rings_lem = rw (b.live, endpoint_rings c, b.same.control)

  pub base_sound : sound e ≡ true
  base_sound =
      let f : SoundFacts d = sound_facts d s in
      sound_if e (same_place d e b.same ∙ sound_place d s) counts_fit_lem (rw (b.same.list, b.same.speed) f.valid)
      (rw (same_list d e b.same, b.held) settings) (rw b.live (endpoints_fit c)) (rw (same_list d e b.same, b.held, b.endpoints) match)
      (rings_if e (rw live_rings_lem b.rings)) (store_if e (rw (live_rings_lem, b.same.given) b.store))

-- A record with the mark that an answer leaves.
made_cond :
    (d e : Device) (hs : List Held) (c : EndpointMap) (lost : Bool) → Same d e → e.up ≡ d.up → e.usable ≡ true → held_of e ≡ hs → endpoint_map_in e ≡ c →
    sound (cond lost (unusable e) e) ≡ true → Made d (cond lost (unusable e) e) hs c lost
unfolding unusable held_of endpoint_map_in
made_cond d e hs c true s v u h f g =
    record {
      same = same_then d e (unusable e) s (rebuilt_same lost keep keep keep e);
      held = h;
      endpoints = f;
      up = v;
      usable = refl;
      is_sound = g;
    }
made_cond d e hs c false s v u h f g = record { same = s; held = h; endpoints = f; up = v; usable = u; is_sound = g }

sound_cond : (e : Device) (lost : Bool) → sound e ≡ true → sound (cond lost (unusable e) e) ≡ true
sound_cond e true s = unusable_sound e s
sound_cond e false s = s

made_marked :
    (d e : Device) (hs : List Held) (c : EndpointMap) (a : Answer) → Same d e → e.up ≡ d.up → e.usable ≡ true → held_of e ≡ hs → endpoint_map_in e ≡ c →
    sound e ≡ true → Made d (marked a e) hs c (is_lost a)
unfolding marked
made_marked d e hs c a s v u h f g = made_cond d e hs c (is_lost a) s v u h f (sound_cond e (is_lost a) g)

-- The endpoints of a sound record are clean.
pub sound_clean : (d : Device) → sound d ≡ true → CleanMap (endpoint_map_in d)
unfolding live_rings endpoint_map_in
sound_clean d s = clean_in d.ep_count d.eps d.ep_interfaces d.control (sound_facts d s).rings.live_ok

-- And their rings apart.
pub sound_apart : (d : Device) → sound d ≡ true → Apart (endpoint_map_in d).rings d.control (given_of d)
unfolding live_rings endpoint_map_in
sound_apart d s =
    let f = sound_facts d s in
    apart_in d.ep_count d.eps d.ep_interfaces d.control f.rings.live_ok f.addresses_fit_lem (given_of d) f.rings.live_distinct
    (λ x h. f.store.live_given x (elem_left x (rings_of (take d.ep_count d.eps)) (d.control ∷ []) h))

-- Control's ring is one of the given.
sound_control_given : (d : Device) → sound d ≡ true → elem d.control (given_of d) ≡ true
unfolding live_rings
sound_control_given d s =
    (sound_facts d s).store.live_given d.control
    (elem_right d.control (rings_of (take d.ep_count d.eps)) (d.control ∷ []) (elem_here d.control []))

-- Rings by place that are apart, with control's and others that are given.
pub given_store :
    (d : Device) (rings q : List ℕ) → sound d ≡ true → Apart rings d.control (given_of d) → ((x : ℕ) → elem x q ≡ true → elem x (given_of d) ≡ true) →
    SoundStore (given_of d) (placed_rings rings ++ (d.control ∷ [])) q
given_store d rings q s apart f =
    record {
      fit = (sound_facts d s).store.fit;
      live_given = λ x h.
          ⊎_elim (placed_given rings d.control (given_of d) apart x)
          (λ t. ⊎_elim (λ e. rw e (sound_control_given d s)) (λ n. elem_none x n) (elem_cases x d.control [] t))
          (elem_either x (placed_rings rings) (d.control ∷ []) h);
      kept_given = f;
    }

-- The records that the calls make of a sound and usable one.
module _ (d : Device) (u : d.usable ≡ true) (s : sound d ≡ true) where
  -- Only the mark.
  pub marked_made : (a : Answer) → Made d (marked a d) (held_of d) (endpoint_map_in d) (is_lost a)
  marked_made a = made_marked d d (held_of d) (endpoint_map_in d) a (same_self d) refl u refl refl s

  -- none is in quarantine before
  none_rings : (c : EndpointMap) → Apart c.rings d.control (given_of d) →
      SoundRings d.usable (placed_rings c.rings ++ (d.control ∷ [])) (quarantined_of d)
  none_rings c apart =
      rw (none_quarantined d u s ∙ sym placed_none)
      (claim_sound c.rings d.control (given_of d) (sound_control d s) apart (replicate 30 0) d.usable (apart_none d.control (given_of d))
      (λ t. ap length placed_none))

  map_base : (c : EndpointMap) → CleanMap c → Apart c.rings d.control (given_of d) → Base d (with_endpoints c d) (held_of d) c
  unfolding with_endpoints held_of quarantined_of given_of
  map_base c clean apart =
      record {
        same = rebuilt_same keep (put (endpoint_arrays c)) keep keep d;
        held = refl;
        endpoints = with_endpoints_map c d clean;
        live = with_endpoints_live c d;
        count = refl;
        few = (sound_facts d s).counts.quarantined;
        rings = none_rings c apart;
        store = given_store d c.rings (quarantined_of d) s apart (sound_facts d s).store.kept_given;
      }

  held_base : (hs : List Held) (c : EndpointMap) → CleanMap c → Apart c.rings d.control (given_of d) → Base d (with_held hs (with_endpoints c d)) hs c
  unfolding with_held endpoint_map_in live_of quarantined_of
  held_base hs c clean apart =
      let b = map_base c clean apart in
      let e = with_endpoints c d in
      record {
        same = same_then d e (with_held hs e) b.same (rebuilt_same keep keep (put (setting_arrays hs)) keep e);
        held = with_held_held hs e;
        endpoints = b.endpoints;
        live = b.live;
        count = b.count;
        few = b.few;
        rings = b.rings;
        store = b.store;
      }

  -- Other settings and endpoints.
  pub held_made : (hs : List Held) (c : EndpointMap) (a : Answer) → CleanMap c → settings_sound (list_of d) hs ≡ true →
      endpoints_match (list_of d) hs c ≡ true → Apart c.rings d.control (given_of d) →
      Made d (marked a (with_held hs (with_endpoints c d))) hs c (is_lost a)
  unfolding with_held with_endpoints
  held_made hs c a clean settings match apart =
      let b = held_base hs c clean apart in
      let e = with_held hs (with_endpoints c d) in
      made_marked d e hs c a b.same refl u b.held b.endpoints (base_sound d e hs c s b settings match)

  -- And a configuration value.
  pub configured_made : (value : ℕ) (hs : List Held) (c : EndpointMap) (a : Answer) → CleanMap c → settings_sound (list_of d) hs ≡ true →
      endpoints_match (list_of d) hs c ≡ true → Apart c.rings d.control (given_of d) →
      Made d (marked a (with_configuration value (with_held hs (with_endpoints c d)))) hs c (is_lost a)
  unfolding with_configuration with_held with_endpoints held_of endpoint_map_in live_of quarantined_of
  configured_made value hs c a clean settings match apart =
      let b = held_base hs c clean apart in
      let e = with_held hs (with_endpoints c d) in
      let v = with_configuration value e in
      let full : Base d v hs c =
      record {
        same = same_then d e v b.same (rebuilt_same (valued value) keep keep keep e);
        held = b.held;
        endpoints = b.endpoints;
        live = b.live;
        count = b.count;
        few = b.few;
        rings = b.rings;
        store = b.store;
      } in
      made_marked d v hs c a full.same refl u full.held full.endpoints (base_sound d v hs c s full settings match)

  -- Rings apart enter an empty quarantine as they are.
  pub pending_entered : (by : List ℕ) → Apart by d.control (given_of d) →
      entered (quarantined_of d) (queue_rings (queues_of by)) ≡ queue_rings (queues_of by)
  pending_entered by kept =
      let rings =
      claim_sound (endpoint_map_in d).rings d.control (given_of d) (sound_control d s) (sound_apart d s) by false kept (λ t. not_both false t refl) in
      rw (none_quarantined d u s) (entered_none (queue_rings (queues_of by)) (rw (queue_rings_lem by) rings.apart))

  -- A record made of d, where it is lost with rings in quarantine if they are in doubt.
  module _ (e : Device) (hs : List Held) (c : EndpointMap) (b : Base d e hs c) (v : e.up ≡ d.up) (w : e.usable ≡ true)
      (q : quarantined_of e ≡ quarantined_of d) (apart : Apart c.rings d.control (given_of d))
      (settings : settings_sound (list_of d) hs ≡ true) (match : endpoints_match (list_of d) hs c ≡ true)
      (by : List ℕ) (kept : Apart by d.control (given_of d)) where
    broken : Device
    broken = with_quarantined (queue_rings (queues_of by)) e

    broken_entered : entered (quarantined_of e) (queue_rings (queues_of by)) ≡ placed_rings by
    broken_entered = rw q (pending_entered by kept ∙ queue_rings_lem by)

    broken_rings : quarantined_of broken ≡ placed_rings by
    unfolding broken
    broken_rings = with_quarantined_quarantined (queue_rings (queues_of by)) e ∙ broken_entered

    broken_few : length (entered (quarantined_of e) (queue_rings (queues_of by))) ≤ 61
    broken_few = rw broken_entered (omega (arith, placed_few by))

    broken_same : Same d broken
    unfolding broken with_quarantined
    broken_same =
        same_then d e broken b.same
        (rebuilt_same keep keep keep (put (ring_array (entered (quarantined_of e) (queue_rings (queues_of by))))) e)

    broken_base : Base d (unusable broken) hs c
    unfolding broken with_quarantined unusable held_of endpoint_map_in live_of quarantined_of
    broken_base =
        record {
          same = same_then d broken (unusable broken) broken_same (rebuilt_same lost keep keep keep broken);
          held = b.held;
          endpoints = b.endpoints;
          live = b.live;
          count = b.count;
          few = broken_few;
          rings = rw broken_rings
              (claim_sound c.rings d.control (given_of d) (sound_control d s) apart by false kept (λ t. not_both false t refl));
          store = rw broken_rings (given_store d c.rings (placed_rings by) s apart (placed_given by d.control (given_of d) kept));
        }

    broken_sound : sound (unusable broken) ≡ true
    broken_sound = base_sound d (unusable broken) hs c s broken_base settings match

    whole_sound : sound e ≡ true
    whole_sound = base_sound d e hs c s b settings match

    lost_cond : (t k : Bool) → Made d (cond k (unusable (cond (t && k) broken e)) (cond (t && k) broken e)) hs c k
    unfolding broken with_quarantined held_of endpoint_map_in
    lost_cond true true = made_cond d broken hs c true broken_same v w b.held b.endpoints broken_sound
    lost_cond true false = made_cond d e hs c false b.same v w b.held b.endpoints whole_sound
    lost_cond false k = made_cond d e hs c k b.same v w b.held b.endpoints (sound_cond e k whole_sound)

    doubted_made : (t : Bool) (a : Answer) →
        Made d (marked a (quarantines (t && is_lost a) (queue_rings (queues_of by)) e)) hs c (is_lost a)
    unfolding marked quarantines broken
    doubted_made t a = lost_cond t (is_lost a)

  held_up : (hs : List Held) (c : EndpointMap) → (with_held hs (with_endpoints c d)).up ≡ d.up
  unfolding with_held with_endpoints
  held_up hs c = refl

  held_usable : (hs : List Held) (c : EndpointMap) → (with_held hs (with_endpoints c d)).usable ≡ true
  unfolding with_held with_endpoints
  held_usable hs c = u

  held_quarantined : (hs : List Held) (c : EndpointMap) → quarantined_of (with_held hs (with_endpoints c d)) ≡ quarantined_of d
  unfolding with_held with_endpoints quarantined_of
  held_quarantined hs c = refl

  -- Other settings and endpoints, and where it is lost rings in quarantine.
  pub ended_made : (hs : List Held) (c : EndpointMap) (a : Answer) → CleanMap c → settings_sound (list_of d) hs ≡ true →
      endpoints_match (list_of d) hs c ≡ true → Apart c.rings d.control (given_of d) → (by : List ℕ) → Apart by d.control (given_of d) →
      Made d (marked a (quarantines (is_lost a) (queue_rings (queues_of by)) (with_held hs (with_endpoints c d)))) hs c (is_lost a)
  ended_made hs c a clean settings match apart by kept =
      doubted_made (with_held hs (with_endpoints c d)) hs c (held_base hs c clean apart) (held_up hs c) (held_usable hs c) (held_quarantined hs c) apart
      settings match by kept true a

  module _ (who : Owner) (n : ℕ) where
    abbrev active : EndpointMap
    active = with_active who n (endpoint_map_in d)

    revoked : Device
    revoked = with_endpoints active d

    active_match : endpoints_match (list_of d) (held_of d) active ≡ true
    active_match = match_active (list_of d) (held_of d) who n (endpoint_map_in d) ∙ (sound_facts d s).endpoints

    active_apart : Apart active.rings d.control (given_of d)
    active_apart = rw (active_rings who (endpoint_map_in d) n) (sound_apart d s)

    revoked_base : Base d revoked (held_of d) active
    unfolding revoked
    revoked_base = map_base active (clean_active who n (endpoint_map_in d) (sound_clean d s)) active_apart

    revoked_up : revoked.up ≡ d.up
    unfolding revoked with_endpoints
    revoked_up = refl

    revoked_usable : revoked.usable ≡ true
    unfolding revoked with_endpoints
    revoked_usable = u

    revoked_quarantined : quarantined_of revoked ≡ quarantined_of d
    unfolding revoked with_endpoints quarantined_of
    revoked_quarantined = refl

    revoked_sound : sound revoked ≡ true
    revoked_sound = base_sound d revoked (held_of d) active s revoked_base (sound_facts d s).settings active_match

    -- Some endpoints of an owner active, the others revoked.
    pub active_made : (a : Answer) →
        Made d (marked a (with_endpoints (with_active who n (endpoint_map_in d)) d)) (held_of d) (with_active who n (endpoint_map_in d)) (is_lost a)
    unfolding revoked
    active_made a =
        let b = revoked_base in
        made_marked d revoked (held_of d) active a b.same revoked_up revoked_usable b.held b.endpoints revoked_sound

    -- The same, where it is lost with rings in quarantine if they are in doubt.
    pub quarantined_made : (by : List ℕ) → Apart by d.control (given_of d) → (t : Bool) (a : Answer) →
        Made d (marked a (quarantines (t && is_lost a) (queue_rings (queues_of by)) (with_endpoints (with_active who n (endpoint_map_in d)) d))) (held_of d)
        (with_active who n (endpoint_map_in d)) (is_lost a)
    unfolding revoked
    quarantined_made by kept t a =
        doubted_made revoked (held_of d) active revoked_base revoked_up revoked_usable revoked_quarantined active_apart (sound_facts d s).settings active_match
        by kept t a
