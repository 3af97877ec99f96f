-- What an unplugging makes of a record that is up.
use Prim.Native.Nat.{ℕ, ◌+◌, ◌*◌, ◌≤◌}
use mathlib.Core.Path.{◌≡◌, refl, ap, ◌∙◌}
use mathlib.Core.Bool.{Bool, true, false, cond, ◌&&◌}
use mathlib.Core.List.{List, [], ◌∷◌, ◌++◌}
use mathlib.Core.Logic.{⊎_elim}
use native.Mathlib.Omega.{arith}
use borrow.Author.Tests.{eqb-true, leb-true}
use lib.Dec.{eqb, leb}
use lib.ListN.{length, take}
use Rattle.laws.specs.Distinct.{elem, distinct}
use Rattle.laws.proofs.Tests.{and_left, and_right, and-true, not_both}
use Rattle.laws.proofs.Distinct.{elem_none, elem_here, elem_cases, distinct_fits}
use Rattle.answer.specs.Check.{Pass}
use Rattle.answer.specs.Answer.{is_broken, is_lost}
use Rattle.record_ring.specs.Rings.{ring_ok, rings_ok, entered}
use Rattle.record_ring.proofs.Entered.{elem_left, elem_right, elem_either, entered_from, entered_distinct, entered_ok}
use Rattle.record_endpoint.specs.declared.endpoint_map.EndpointMap.{EndpointMap}
use Rattle.record_endpoint.specs.declared.endpoint_map.Owner.TheVariants.{Any}
use Rattle.record_endpoint.specs.Endpoint.{rings_of}
use Rattle.record_endpoint.specs.EndpointMap.{no_endpoints, with_active}
use Rattle.record_endpoint.proofs.Laws.{active_rings}
use Rattle.record_endpoint.proofs.Clean.{clean_none, clean_active}
use Rattle.record_settings.specs.Match.{endpoints_match}
use Rattle.record_settings.proofs.Laws.{sound_none, match_none, match_active}
use Rattle.record_checks.specs.Rings.{each_once}
use Rattle.record_checks.proofs.Laws.{Apart, apart_none, placed_rings, placed_none, placed_live, live_rings_ok, live_rings_distinct, queue_rings_lem}
use Rattle.record_checks.proofs.Together.{SoundRings, rings_ok_left, once_live, once_kept, once_from, once_fits}
use Rattle.course_steps.specs.End.{End}
use Rattle.device.specs.declared.record.Device.{Device}
use Rattle.device.specs.Device.{list_of, endpoint_map_in, held_of, quarantined_of, given_of, Same, keep, put, lost, control_revoked, gone, endpoint_arrays, setting_arrays, ring_array, with_endpoints, with_held, with_quarantined, unusable, quarantines}
use Rattle.device.specs.Sound.{live_rings, sound}
use Rattle.device.specs.Left.{marked}
use Rattle.device.specs.Check.{check_marked, disconnect_check}
use Rattle.device.specs.Disconnect.{all_revoked, unplugged, rings_in_doubt, disconnect_record}
use Rattle.device.proofs.Facts.{SoundFacts, sound_facts}
use Rattle.device.proofs.Laws.{pass_if}
use Rattle.device.proofs.Updates.{same_then, rebuilt_same, live_of, with_endpoints_map, with_endpoints_live, with_held_held, with_quarantined_quarantined}
use Rattle.device.proofs.Made.{Made, Base, base_sound, given_store, sound_control, sound_clean, sound_apart}

-- What a passed check says.
pub record UpPassed (d : Device) (ctx routes log : ℕ) : Type 0 where
  pub up : d.up ≡ true
  pub is_sound : sound d ≡ true
  pub table : routes ≡ 32 * (d.max_slots + 1)
  pub room : 64 ≤ log
  pub facts : SoundFacts d

pub up_passed : (d : Device) (ctx routes log : ℕ) → disconnect_check d ctx routes log ≡ Pass → UpPassed d ctx routes log
unfolding disconnect_check check_marked
up_passed d ctx routes log e =
    let s : ((d.up && sound d) ≡ true) × _ = pass_if _ _ _ e in
    let c : (eqb ctx (33 * d.spacing) ≡ true) × _ = pass_if _ _ _ s.1 in
    let right : sound d ≡ true = and_right d.up (sound d) s.0 in
    let r : (eqb routes (32 * (d.max_slots + 1)) ≡ true) × _ = pass_if _ _ _ c.1 in
    let l : (leb 64 log ≡ true) × _ = pass_if _ _ _ r.1 in
    record {
      up = and_left d.up (sound d) s.0;
      is_sound = right;
      table = eqb-true _ _ r.0;
      room = leb-true _ _ l.0;
      facts = sound_facts d right;
    }

module _ (d : Device) (s : sound d ≡ true) where
  abbrev rings : List ℕ
  rings = (endpoint_map_in d).rings

  abbrev placed : List ℕ
  placed = placed_rings rings

  facts : SoundFacts d
  facts = sound_facts d s

  abbrev All : List ℕ
  All = each_once (live_rings d) (quarantined_of d)

  -- The rings by place, and control's, are the record's.
  placed_all : (x : ℕ) → elem x placed ≡ true → elem x All ≡ true
  unfolding live_rings endpoint_map_in
  placed_all x h =
      once_live (live_rings d) (quarantined_of d) x
      (elem_left x _ (d.control ∷ [])
      (placed_live d.ep_count d.eps d.ep_interfaces d.control facts.rings.live_ok facts.addresses_fit_lem x h))

  control_all : (x : ℕ) → x ≡ d.control → elem x All ≡ true
  unfolding live_rings
  control_all x h = once_live (live_rings d) (quarantined_of d) x (elem_right x (rings_of (take d.ep_count d.eps)) (d.control ∷ []) (rw h (elem_here d.control [])))

  live_all : (x : ℕ) → elem x (placed ++ (d.control ∷ [])) ≡ true → elem x All ≡ true
  live_all x h =
      ⊎_elim (placed_all x) (λ t. ⊎_elim (control_all x) (λ n. elem_none x n) (elem_cases x d.control [] t))
      (elem_either x placed (d.control ∷ []) h)

  -- Rings that are all among the record's are sound together, in a record that is not usable.
  among_sound :
      (live q : List ℕ) → rings_ok live ≡ true → distinct live ≡ true → rings_ok q ≡ true → distinct q ≡ true →
      ((x : ℕ) → elem x live ≡ true → elem x All ≡ true) → ((x : ℕ) → elem x q ≡ true → elem x All ≡ true) → SoundRings false live q
  among_sound live q a b c e f g =
      record {
        few = omega (arith, once_fits (live_rings d) (quarantined_of d) live q b e f g, facts.rings.few);
        live_ok = a;
        live_distinct = b;
        ok = c;
        apart = e;
        free = λ t. not_both false t refl;
      }

  placed_ok : rings_ok (placed ++ (d.control ∷ [])) ≡ true
  placed_ok = live_rings_ok rings d.control (given_of d) (sound_control d s) (sound_apart d s)

  placed_distinct : distinct (placed ++ (d.control ∷ [])) ≡ true
  placed_distinct = live_rings_distinct rings d.control (given_of d) (sound_control d s) (sound_apart d s)

  -- The rings in doubt.
  doubt_is : rings_in_doubt d ≡ d.control ∷ placed
  unfolding rings_in_doubt
  doubt_is = ap (λ (l : List ℕ). d.control ∷ l) (queue_rings_lem rings)

  doubt_ok : rings_ok (rings_in_doubt d) ≡ true
  unfolding rings_ok
  doubt_ok = rw doubt_is (and-true (ring_ok d.control) (rings_ok placed) (sound_control d s) (rings_ok_left placed (d.control ∷ []) placed_ok))

  doubt_all : (x : ℕ) → elem x (rings_in_doubt d) ≡ true → elem x All ≡ true
  doubt_all x h = ⊎_elim (control_all x) (placed_all x) (elem_cases x d.control placed (rw doubt_is at h))

  kept_all : (x : ℕ) → elem x (quarantined_of d) ≡ true → elem x All ≡ true
  kept_all = once_kept (live_rings d) (quarantined_of d)

  abbrev more : List ℕ
  more = entered (quarantined_of d) (rings_in_doubt d)

  more_all : (x : ℕ) → elem x more ≡ true → elem x All ≡ true
  more_all x h = ⊎_elim (kept_all x) (doubt_all x) (entered_from (quarantined_of d) (rings_in_doubt d) x h)

  more_distinct : distinct more ≡ true
  more_distinct = entered_distinct (quarantined_of d) (rings_in_doubt d) facts.rings.apart

  -- With them quarantine has room.
  pub more_few : length more ≤ 61
  more_few = omega (arith, distinct_fits more All more_distinct more_all, facts.rings.few)

  -- Accepted: no endpoint, no setting.
  unplugged_rings : SoundRings false (placed_rings no_endpoints.rings ++ (d.control ∷ [])) (quarantined_of d)
  unfolding no_endpoints rings_ok distinct elem
  unplugged_rings =
      rw placed_none
      (among_sound (d.control ∷ []) (quarantined_of d) (rw (sound_control d s)) refl facts.rings.ok facts.rings.apart
      (λ x h. ⊎_elim (control_all x) (λ n. elem_none x n) (elem_cases x d.control [] h)) kept_all)

  none_apart : Apart no_endpoints.rings d.control (given_of d)
  unfolding no_endpoints
  none_apart = apart_none d.control (given_of d)

  -- The record's rings are given.
  all_given : (x : ℕ) → elem x All ≡ true → elem x (given_of d) ≡ true
  all_given x h = ⊎_elim (facts.store.live_given x) (facts.store.kept_given x) (once_from (live_rings d) (quarantined_of d) x h)

  more_given : (x : ℕ) → elem x more ≡ true → elem x (given_of d) ≡ true
  more_given x h = all_given x (more_all x h)

  unplugged_base : Base d (unplugged d) [] no_endpoints
  unfolding unplugged with_endpoints with_held held_of live_of quarantined_of endpoint_map_in
  unplugged_base =
      record {
        same = rebuilt_same gone (put (endpoint_arrays no_endpoints)) (put (setting_arrays [])) keep d;
        held = with_held_held [] d;
        endpoints = with_endpoints_map no_endpoints d clean_none;
        live = with_endpoints_live no_endpoints d;
        count = refl;
        few = facts.counts.quarantined;
        rings = unplugged_rings;
        store = given_store d no_endpoints.rings (quarantined_of d) s none_apart facts.store.kept_given;
      }

  unplugged_sound : sound (unplugged d) ≡ true
  unplugged_sound = base_sound d (unplugged d) [] no_endpoints s unplugged_base (sound_none (list_of d)) (match_none (list_of d))

  -- 14 and 15: all are revoked.
  abbrev active : EndpointMap
  active = with_active Any 0 (endpoint_map_in d)

  active_apart : Apart active.rings d.control (given_of d)
  active_apart = rw (active_rings Any (endpoint_map_in d) 0) (sound_apart d s)

  active_match : endpoints_match (list_of d) (held_of d) active ≡ true
  active_match = match_active (list_of d) (held_of d) Any 0 (endpoint_map_in d) ∙ facts.endpoints

  lost_rings :
      (q : List ℕ) → rings_ok q ≡ true → distinct q ≡ true → ((x : ℕ) → elem x q ≡ true → elem x All ≡ true) →
      SoundRings false (placed_rings active.rings ++ (d.control ∷ [])) q
  lost_rings q o t f = rw (active_rings Any (endpoint_map_in d) 0) (among_sound (placed ++ (d.control ∷ [])) q placed_ok placed_distinct o t live_all f)

  cut_base : Base d (unusable (all_revoked d)) (held_of d) active
  unfolding unusable all_revoked with_endpoints held_of live_of quarantined_of endpoint_map_in
  cut_base =
      record {
        same =
            same_then d (all_revoked d) (unusable (all_revoked d)) (rebuilt_same control_revoked (put (endpoint_arrays active)) keep keep d)
            (rebuilt_same lost keep keep keep (all_revoked d));
        held = refl;
        endpoints = with_endpoints_map active d (clean_active Any 0 (endpoint_map_in d) (sound_clean d s));
        live = with_endpoints_live active d;
        count = refl;
        few = facts.counts.quarantined;
        rings = lost_rings (quarantined_of d) facts.rings.ok facts.rings.apart kept_all;
        store = given_store d active.rings (quarantined_of d) s active_apart facts.store.kept_given;
      }

  broken : Device
  broken = with_quarantined (rings_in_doubt d) (all_revoked d)

  broken_rings : quarantined_of broken ≡ more
  unfolding broken all_revoked quarantined_of
  broken_rings = with_quarantined_quarantined (rings_in_doubt d) (all_revoked d)

  broken_base : Base d (unusable broken) (held_of d) active
  unfolding broken with_quarantined unusable all_revoked with_endpoints held_of live_of quarantined_of endpoint_map_in
  broken_base =
      record {
        same =
            same_then d (all_revoked d) (unusable broken) (rebuilt_same control_revoked (put (endpoint_arrays active)) keep keep d)
            (rebuilt_same lost keep keep (put (ring_array more)) (all_revoked d));
        held = refl;
        endpoints = cut_base.endpoints;
        live = cut_base.live;
        count = refl;
        few = more_few;
        store = rw broken_rings (given_store d active.rings more s active_apart more_given);
        rings = rw broken_rings (lost_rings more (entered_ok (quarantined_of d) (rings_in_doubt d) facts.rings.ok doubt_ok) more_distinct more_all);
      }

  lost_made : (b : Bool) → Made d (unusable (cond b broken (all_revoked d))) (held_of d) active true
  unfolding unusable broken with_quarantined all_revoked
  lost_made true =
      let b = broken_base in
      record {
        same = b.same;
        held = b.held;
        endpoints = b.endpoints;
        up = refl;
        usable = refl;
        is_sound = base_sound d (unusable broken) (held_of d) active s b facts.settings active_match;
      }
  lost_made false =
      let b = cut_base in
      record {
        same = b.same;
        held = b.held;
        endpoints = b.endpoints;
        up = refl;
        usable = refl;
        is_sound = base_sound d (unusable (all_revoked d)) (held_of d) active s b facts.settings active_match;
      }

-- The record of an accepted unplugging.
pub record Unplugged (d e : Device) : Type 0 where
  pub same : Same d e
  pub held : held_of e ≡ []
  pub endpoints : endpoint_map_in e ≡ no_endpoints
  pub quarantined : quarantined_of e ≡ quarantined_of d
  pub usable : e.usable ≡ false
  pub up : e.up ≡ false
  pub is_sound : sound e ≡ true

module _ (d : Device) (ctx routes log : ℕ) (k : disconnect_check d ctx routes log ≡ Pass) (e : End) where
  right : sound d ≡ true
  right = (up_passed d ctx routes log k).is_sound

  pub disconnect_moves : e.moved ≡ true → Unplugged d (disconnect_record d e)
  unfolding disconnect_record unplugged quarantined_of
  disconnect_moves t =
      let b = unplugged_base d right in
      rw t
      (record {
        same = b.same;
        held = b.held;
        endpoints = b.endpoints;
        quarantined = refl;
        usable = refl;
        up = refl;
        is_sound = unplugged_sound d right;
      })

  pub disconnect_stays : e.moved ≡ false → is_lost e.answer ≡ true →
      Made d (disconnect_record d e) (held_of d) (with_active Any 0 (endpoint_map_in d)) true
  unfolding disconnect_record marked quarantines broken
  disconnect_stays t l = rw (t, l) (lost_made d right (is_broken e.answer))

  -- After 14 the rings in doubt are in quarantine.
  pub disconnect_quarantined : e.moved ≡ false → is_broken e.answer ≡ true →
      quarantined_of (disconnect_record d e) ≡ entered (quarantined_of d) (rings_in_doubt d)
  unfolding disconnect_record marked quarantines unusable quarantined_of broken
  disconnect_quarantined t b = rw (t, b) (broken_rings d right)

  -- After 15 there are no more than before.
  pub disconnect_cut : e.moved ≡ false → is_broken e.answer ≡ false → is_lost e.answer ≡ true →
      quarantined_of (disconnect_record d e) ≡ quarantined_of d
  unfolding disconnect_record marked quarantines unusable all_revoked quarantined_of
  disconnect_cut t b l = rw (t, l, b)
