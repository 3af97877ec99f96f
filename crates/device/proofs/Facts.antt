-- What a sound record gives.
use Rattle.std.proofs.lemmas.Bool.{and_parts}
use Prim.Native.Nat.{ℕ, ◌≤◌}
use mathlib.Core.Path.{◌≡◌, refl, sym, ◌∙◌}
use mathlib.Core.Logic.{◌⊎◌, inl, inr, ⊎_elim}
use mathlib.Core.Bool.{Bool, true, false, ◌&&◌, ◌||◌}
use mathlib.Core.List.{List, [], ◌∷◌}
use native.Mathlib.Omega.{arith}
use borrow.Author.Tests.{eqb-true, leb-true}
use lib.Dec.{eqb, leb}
use lib.ListN.{length, take}
use Rattle.laws.proofs.Cases.{or_cases}
use Rattle.def.specs.Speed.{speed_known}
use Rattle.descriptor_list.specs.Valid.{valid_list}
use Rattle.descriptor_list.specs.Companions.{valid_at, Joinable}
use Rattle.descriptor_list.proofs.Companions.{valid_promise, joinable}
use Rattle.record_endpoint.specs.Endpoint.{addresses, addresses_fit}
use Rattle.record_endpoint.specs.EndpointMap.{endpoint_map_of}
use Rattle.record_endpoint.proofs.Clean.{front_of}
use Rattle.record_settings.specs.Held.{Held, settings_sound}
use Rattle.record_checks.specs.Sound.{sound_lists}
use Rattle.record_settings.specs.Match.{endpoints_match}
use Rattle.record_checks.proofs.Together.{SoundRings, rings_told}
use Rattle.record_checks.proofs.Stored.{SoundStore, store_told}
use Rattle.device.specs.declared.record.Device.{Device}
use Rattle.device.specs.Device.{words_of, list_of, endpoint_map_in, held_of, quarantined_of, given_of}
use Rattle.device.specs.Sound.{slot_sound, counts_fit, lists_sound, live_rings, rings_sound, store_sound, sound}

pub record PlaceFacts (d : Device) : Type 0 where
  pub slot_low : 1 ≤ d.slot.0
  pub slot_high : d.slot.0 ≤ d.max_slots
  pub n_high : d.max_slots ≤ 255
  pub spacing : (d.spacing ≡ 32) ⊎ (d.spacing ≡ 64)
  pub wide : 32 ≤ d.spacing
  pub narrow : d.spacing ≤ 64
  pub speed : speed_known d.port_speed ≡ true

pub record CountFacts (d : Device) : Type 0 where
  pub list : d.list_len ≤ 256
  pub endpoints : d.ep_count ≤ 30
  pub held : d.held_count ≤ 32
  pub quarantined : d.quarantined_count ≤ 61
  pub given : d.given_count ≤ 64

pub record SoundFacts (d : Device) : Type 0 where
  pub place : PlaceFacts d
  pub counts : CountFacts d
  pub valid : valid_at d.port_speed (words_of d) ≡ true
  pub list : valid_list (list_of d) ≡ true
  pub settings : settings_sound (list_of d) (held_of d) ≡ true
  pub addresses_fit_lem : addresses_fit (addresses (take d.ep_count d.eps)) ≡ true
  pub endpoints : endpoints_match (list_of d) (held_of d) (endpoint_map_in d) ≡ true
  pub rings : SoundRings d.usable (live_rings d) (quarantined_of d)
  pub store : SoundStore (given_of d) (live_rings d) (quarantined_of d)

-- one of two spacings
spaced : (s : ℕ) → (s ≡ 32) ⊎ (s ≡ 64) → (32 ≤ s) × (s ≤ 64)
spaced s (inl e) = omega arith
spaced s (inr e) = omega arith

-- what a sound place says
pub place_facts : (d : Device) → slot_sound d ≡ true → PlaceFacts d
unfolding slot_sound
place_facts d e =
    let s = d.slot.0 in
    let w = d.spacing in
    let e1 = and_parts (leb 1 s && (leb s d.max_slots && leb d.max_slots 255)) ((eqb w 32 || eqb w 64) && speed_known d.port_speed) e in
    let e2 = and_parts (leb 1 s) (leb s d.max_slots && leb d.max_slots 255) e1.0 in
    let e4 = and_parts (leb s d.max_slots) (leb d.max_slots 255) e2.1 in
    let e3 = and_parts (eqb w 32 || eqb w 64) (speed_known d.port_speed) e1.1 in
    let one : (w ≡ 32) ⊎ (w ≡ 64) =
    ⊎_elim (λ p. inl (eqb-true w 32 p)) (λ p. inr (eqb-true w 64 p)) (or_cases (eqb w 32) (eqb w 64) e3.0) in
    record {
      slot_low = leb-true 1 s e2.0;
      slot_high = leb-true s d.max_slots e4.0;
      n_high = leb-true d.max_slots 255 e4.1;
      spacing = one;
      wide = (spaced w one).0;
      narrow = (spaced w one).1;
      speed = e3.1;
    }

-- what counts that fit say
pub count_facts : (d : Device) → counts_fit d ≡ true → CountFacts d
unfolding counts_fit
count_facts d e =
    let l = d.list_len in
    let n = d.ep_count in
    let h = d.held_count in
    let q = d.quarantined_count in
    let g = d.given_count in
    let e1 = and_parts (leb l 256) (leb n 30 && (leb h 32 && (leb q 61 && leb g 64))) e in
    let e2 = and_parts (leb n 30) (leb h 32 && (leb q 61 && leb g 64)) e1.1 in
    let e3 = and_parts (leb h 32) (leb q 61 && leb g 64) e2.1 in
    let e4 = and_parts (leb q 61) (leb g 64) e3.1 in
    record {
      list = leb-true l 256 e1.0;
      endpoints = leb-true n 30 e2.0;
      held = leb-true h 32 e3.0;
      quarantined = leb-true q 61 e4.0;
      given = leb-true g 64 e4.1;
    }

-- what sound rings say
pub ring_facts : (d : Device) → rings_sound d ≡ true → SoundRings d.usable (live_rings d) (quarantined_of d)
unfolding rings_sound
ring_facts d e = rings_told d.usable (live_rings d) (quarantined_of d) e

-- what a sound store says
pub store_facts : (d : Device) → store_sound d ≡ true → SoundStore (given_of d) (live_rings d) (quarantined_of d)
unfolding store_sound
store_facts d e = store_told (given_of d) (live_rings d) (quarantined_of d) e

-- what a sound record says
pub sound_facts : (d : Device) → sound d ≡ true → SoundFacts d
unfolding sound lists_sound list_of
sound_facts d e =
    let list = valid_at d.port_speed (words_of d) in
    let settings = settings_sound (list_of d) (held_of d) in
    let fit = addresses_fit (addresses (take d.ep_count d.eps)) in
    let match = endpoints_match (list_of d) (held_of d) (endpoint_map_in d) in
    let rings = rings_sound d in
    let e1 = and_parts (slot_sound d) (counts_fit d && (lists_sound d && (rings && store_sound d))) e in
    let e2 = and_parts (counts_fit d) (lists_sound d && (rings && store_sound d)) e1.1 in
    let e3 = and_parts (lists_sound d) (rings && store_sound d) e2.1 in
    let e7 = and_parts rings (store_sound d) e3.1 in
    let e4 = and_parts list (settings && (fit && match)) e3.0 in
    let e5 = and_parts settings (fit && match) e4.1 in
    let e6 = and_parts fit match e5.1 in
    record {
      place = place_facts d e1.0;
      counts = count_facts d e2.0;
      valid = e4.0;
      list = valid_promise d.port_speed (words_of d) e4.0;
      settings = e5.0;
      addresses_fit_lem = e6.0;
      endpoints = e6.1;
      rings = ring_facts d e7.0;
      store = store_facts d e7.1;
    }

-- The code's test of the lists, on the endpoints in use alone, says whether the record is sound where its place and counts are.
module _ (d : Device) (room : length d.eps ≡ 30) (slot : slot_sound d ≡ true) (counts : counts_fit d ≡ true)
    (hs : List Held) (held : hs ≡ held_of d) (lists : Bool)
    (tested : lists ≡ sound_lists d.port_speed (words_of d) hs (addresses (take d.ep_count d.eps))
    (endpoint_map_of (length (take d.ep_count d.eps)) (take d.ep_count d.eps) (take d.ep_count d.ep_interfaces))) where
  lists_as : lists ≡ lists_sound d
  unfolding lists_sound endpoint_map_in
  lists_as =
      tested ∙ rw (held, front_of d.ep_count d.eps d.ep_interfaces (omega (arith, room, (count_facts d counts).endpoints)))

  pub sound_by_rings : lists ≡ true → (rings : Bool) → rings ≡ (rings_sound d && store_sound d) → rings ≡ sound d
  unfolding sound
  sound_by_rings e rings r = r ∙ sym (rw (slot, counts, ← lists_as, e))

  pub unsound_lists : lists ≡ false → lists ≡ sound d
  unfolding sound
  unsound_lists e = e ∙ sym (rw (slot, counts, ← lists_as, e))

-- what the code asks of its list where it looks words up
pub list_joinable : (d : Device) → sound d ≡ true → Joinable (words_of d)
list_joinable d e = joinable d.port_speed (words_of d) (sound_facts d e).valid

-- a usable sound record has no quarantined ring
pub none_quarantined : (d : Device) → d.usable ≡ true → sound d ≡ true → quarantined_of d ≡ []
none_quarantined d u e = go (quarantined_of d) ((sound_facts d e).rings.free u)
  where
    go : (l : List ℕ) → length l ≡ 0 → l ≡ []
    go [] h = refl
    go (x ∷ l) h = absurd (omega arith)
