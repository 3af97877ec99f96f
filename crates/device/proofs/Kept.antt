-- What claim, release, set configuration and hub update make of a record.
use Prim.Native.Nat.{ℕ, ◌≤◌, ◌<◌}
use mathlib.Core.Path.{◌≡◌, refl, sym, ◌∙◌}
use mathlib.Core.Bool.{Bool, true, false, cond, ◌&&◌}
use mathlib.Core.List.{List, []}
use native.Mathlib.Omega.{arith}
use borrow.Author.Tests.{leb-true}
use lib.Dec.{leb}
use lib.ListN.{length, get_or, take, replicate, get_or-replicate}
use Rattle.laws.specs.Distinct.{elem}
use Rattle.laws.proofs.Cases.{false_if}
use Rattle.laws.proofs.Tests.{and_right, not_both}
use Rattle.laws.proofs.Distinct.{elem_place}
use Rattle.answer.specs.declared.Answer.{Answer}
use Rattle.answer.specs.declared.Answer.TheVariants as answer
use Rattle.answer.specs.Check.{Pass}
use Rattle.answer.specs.Answer.{number, is_accepted, is_lost}
use Rattle.descriptor_list.specs.Lookup.{find_endpoints}
use Rattle.record_ring.specs.Rings.{rings_ok, disjoint, entered}
use Rattle.record_ring.specs.Store.{given_ok, lowest, free_rings}
use Rattle.record_ring.proofs.Promises.{drawn_promise, drawn_given}
use Rattle.record_ring.proofs.Laws.{ring_at, ring_nonzero, disjoint_elem, disjoint_from, Offered, offered}
use Rattle.record_endpoint.specs.declared.endpoint_map.Owner.TheVariants.{Any, Interface}
use Rattle.record_endpoint.specs.Endpoint.{rings_of}
use Rattle.record_endpoint.specs.EndpointMap.{no_endpoints, queues_of, queue_rings, pending_rings, claimed_endpoints, with_active}
use Rattle.record_endpoint.proofs.Clean.{clean_none, clean_claimed}
use Rattle.record_settings.specs.Held.{with_setting, without_setting, setting_words, is_found}
use Rattle.record_settings.specs.Match.{addresses_free}
use Rattle.record_settings.proofs.Laws.{sound_with, sound_without, sound_none, pending_place, match_claimed, match_released, match_none}
use Rattle.course_steps.specs.End.{End}
use Rattle.record_checks.proofs.Together.{rings_ok_elem}
use Rattle.record_checks.proofs.Laws.{ring_live, apart_none, apart_offered, apart_claimed, apart_released}
use Rattle.device.specs.declared.record.Device.{Device}
use Rattle.device.specs.Device.{list_of, endpoint_map_in, held_of, quarantined_of, given_of, free_of, with_endpoints, with_held, with_configuration, quarantines, unusable}
use Rattle.device.specs.Sound.{live_rings, sound}
use Rattle.device.specs.Left.{marked}
use Rattle.device.specs.Check.{record_check}
use Rattle.device.specs.Claim.{claim_check, drawn, pending_of, claim_record}
use Rattle.device.specs.Release.{release_check, release_record}
use Rattle.device.specs.SetConfiguration.{bare, ended_by, set_record}
use Rattle.device.proofs.Facts.{SoundFacts, sound_facts}
use Rattle.device.proofs.Laws.{passed, pass_if}
use Rattle.device.proofs.Updates.{with_quarantined_quarantined}
use Rattle.device.proofs.Made.{Made, sound_clean, sound_apart, held_made, configured_made, pending_entered, active_made, quarantined_made, ended_made}

-- What a passed check of a claim says.
pub record ClaimPassed (d : Device) (i a : ℕ) : Type 0 where
  pub found : is_found (find_endpoints (list_of d) i a) ≡ true
  pub free : addresses_free (setting_words (list_of d) i a) i (endpoint_map_in d) ≡ true
  pub enough : length (setting_words (list_of d) i a) ≤ length (free_of d)
  pub offer : Offered (length (setting_words (list_of d) i a)) (drawn d i a) (endpoint_map_in d).rings d.control (quarantined_of d)
  pub from_given : (x : ℕ) → elem x (drawn d i a) ≡ true → elem x (given_of d) ≡ true

-- Rings that are not the arrays' stand at no place.
place_disjoint :
    (d : Device) → sound d ≡ true → (rings : List ℕ) → rings_ok rings ≡ true → disjoint rings (rings_of (take d.ep_count d.eps)) ≡ true →
    disjoint rings (endpoint_map_in d).rings ≡ true
unfolding endpoint_map_in live_rings
place_disjoint d s rings ok apart =
    let f = sound_facts d s in
    let live = rings_of (take d.ep_count d.eps) in
    disjoint_from rings (endpoint_map_in d).rings
    (λ x h.
    false_if (elem x (endpoint_map_in d).rings)
    (λ g.
    let t = elem_place x (endpoint_map_in d).rings g in
    let n : t.0 < 30 = omega (arith, t.1, (sound_clean d s).whole.rings) in
    let there = ring_live d.ep_count d.eps d.ep_interfaces d.control f.rings.live_ok f.addresses_fit_lem t.0 n
    (λ z. ring_nonzero x (rings_ok_elem rings ok x h) (sym t.2 ∙ z)) in
    not_both (elem x live) (rw (← t.2) there) (disjoint_elem rings live apart x h)))

-- The rings drawn are such as 01 asks of rings offered, and given.
pub claim_passed : (d : Device) (i a : ℕ) → sound d ≡ true → claim_check d i a Pass ≡ Pass → ClaimPassed d i a
unfolding claim_check drawn free_of
claim_passed d i a s e =
    let words = setting_words (list_of d) i a in
    let f : (is_found (find_endpoints (list_of d) i a) ≡ true) × _ = pass_if _ _ _ e in
    let g : (addresses_free words i (endpoint_map_in d) ≡ true) × _ = pass_if _ _ _ f.1 in
    let live = rings_of (take d.ep_count d.eps) in
    let free = free_rings (given_of d) live d.control (quarantined_of d) in
    let h : (leb (length words) (length free) ≡ true) × _ = pass_if _ _ _ g.1 in
    let enough : length words ≤ length free = leb-true (length words) (length free) h.0 in
    let fit : given_ok (given_of d) ≡ true = (sound_facts d s).store.fit in
    let o = offered (length words) (lowest (length words) free) live d.control (quarantined_of d)
    (drawn_promise (length words) (given_of d) live d.control (quarantined_of d) fit enough) in
    record {
      found = f.0;
      free = g.0;
      enough = enough;
      offer =
          record {
            counted = o.counted;
            ok = o.ok;
            apart = o.apart;
            not_live = place_disjoint d s (lowest (length words) free) o.ok o.not_live;
            not_control = o.not_control;
            not_quarantined = o.not_quarantined;
          };
      from_given = drawn_given (length words) (given_of d) live d.control (quarantined_of d) fit;
    }

-- A claim that moves its settings.
pub claim_moves :
    (d : Device) (ctx routes log i a : ℕ) → record_check d ctx routes log (claim_check d i a Pass) ≡ Pass →
    (e : End) → e.moved ≡ true →
    Made d (claim_record d i a (drawn d i a) e) (with_setting i a (held_of d)) (claimed_endpoints i (pending_of d i a (drawn d i a)) (endpoint_map_in d)) (is_lost e.answer)
unfolding claim_record pending_of
claim_moves d ctx routes log i a k e m =
    let t = passed d ctx routes log (claim_check d i a Pass) k in
    let rings = drawn d i a in
    let p : ClaimPassed d i a = claim_passed d i a t.0.is_sound t.1 in
    let f : SoundFacts d = t.0.facts in
    let words = setting_words (list_of d) i a in
    let pending = pending_rings words rings in
    let clean = sound_clean d t.0.is_sound in
    let nonzero : (j : ℕ) → j < length words → get_or rings j 0 ≡ 0 → ⊥ =
    λ j h. ring_nonzero (get_or rings j 0) (ring_at rings p.offer.ok j (omega (arith, p.offer.counted))) in
    rw m
    (held_made d t.0.usable t.0.is_sound (with_setting i a (held_of d)) (claimed_endpoints i pending (endpoint_map_in d)) e.answer
    (clean_claimed i pending (endpoint_map_in d) clean)
    (sound_with (list_of d) (held_of d) f.settings i a p.found)
    (match_claimed (list_of d) (held_of d) i pending (endpoint_map_in d) f.settings f.endpoints a p.free
    (λ q h. pending_place words rings q h nonzero))
    (apart_claimed i words rings (endpoint_map_in d) d.control (quarantined_of d) (given_of d) clean p.offer p.from_given (sound_apart d t.0.is_sound)))

-- A claim that does not.
pub claim_stays :
    (d : Device) (ctx routes log i a : ℕ) → record_check d ctx routes log (claim_check d i a Pass) ≡ Pass →
    (e : End) → e.moved ≡ false →
    Made d (claim_record d i a (drawn d i a) e) (held_of d) (with_active (Interface i) e.active (endpoint_map_in d)) (is_lost e.answer)
unfolding claim_record pending_of
claim_stays d ctx routes log i a k e m =
    let t = passed d ctx routes log (claim_check d i a Pass) k in
    let rings = drawn d i a in
    let p = claim_passed d i a t.0.is_sound t.1 in
    let words = setting_words (list_of d) i a in
    rw m
    (quarantined_made d t.0.usable t.0.is_sound (Interface i) e.active (pending_rings words rings)
    (apart_offered words rings (endpoint_map_in d).rings d.control (quarantined_of d) (given_of d) p.offer p.from_given) e.doubted e.answer)

-- A release that moves its setting.
pub release_moves :
    (d : Device) (ctx routes log i : ℕ) → record_check d ctx routes log (release_check d i) ≡ Pass → (e : End) → e.moved ≡ true →
    Made d (release_record d i e) (without_setting i (held_of d)) (claimed_endpoints i (replicate 30 0) (endpoint_map_in d)) (is_lost e.answer)
unfolding release_record
release_moves d ctx routes log i k e m =
    let t = passed d ctx routes log (release_check d i) k in
    let f : SoundFacts d = t.0.facts in
    rw m
    (held_made d t.0.usable t.0.is_sound (without_setting i (held_of d)) (claimed_endpoints i (replicate 30 0) (endpoint_map_in d)) e.answer
    (clean_claimed i (replicate 30 0) (endpoint_map_in d) (sound_clean d t.0.is_sound))
    (sound_without (list_of d) (held_of d) f.settings i)
    (match_released (list_of d) (held_of d) i (replicate 30 0) (endpoint_map_in d) f.settings f.endpoints (λ p h. get_or-replicate 30 p 0 0 h))
    (apart_released i (endpoint_map_in d) d.control (given_of d) (sound_apart d t.0.is_sound)))

-- A release that does not.
pub release_stays :
    (d : Device) (ctx routes log i : ℕ) → record_check d ctx routes log (release_check d i) ≡ Pass → (e : End) → e.moved ≡ false →
    Made d (release_record d i e) (held_of d) (with_active (Interface i) e.active (endpoint_map_in d)) (is_lost e.answer)
unfolding release_record
release_stays d ctx routes log i k e m =
    let t = passed d ctx routes log (release_check d i) k in
    rw m (active_made d t.0.usable t.0.is_sound (Interface i) e.active e.answer)

bare_made : (d : Device) → d.usable ≡ true → sound d ≡ true → (value : ℕ) (a : Answer) (b : Bool) →
    Made d
    (marked a
    (cond b (with_configuration value (with_held [] (with_endpoints no_endpoints d)))
    (quarantines (is_lost a) (queue_rings (queues_of (endpoint_map_in d).rings)) (with_held [] (with_endpoints no_endpoints d)))))
    [] no_endpoints (is_lost a)
unfolding no_endpoints
bare_made d u s value a true =
    configured_made d u s value [] no_endpoints a clean_none (sound_none (list_of d)) (match_none (list_of d)) (apart_none d.control (given_of d))
bare_made d u s value a false =
    ended_made d u s [] no_endpoints a clean_none (sound_none (list_of d)) (match_none (list_of d)) (apart_none d.control (given_of d))
    (endpoint_map_in d).rings (sound_apart d s)

-- A set configuration that ends the held settings.
pub set_moves :
    (d : Device) (ctx routes log value : ℕ) → record_check d ctx routes log Pass ≡ Pass → (e : End) → e.moved ≡ true →
    Made d (set_record d value e) [] no_endpoints (is_lost e.answer)
unfolding set_record bare ended_by
set_moves d ctx routes log value k e m =
    let t = passed d ctx routes log Pass k in
    rw m (bare_made d t.0.usable t.0.is_sound value e.answer (is_accepted e.answer))

-- One that does not.
pub set_stays :
    (d : Device) (ctx routes log value : ℕ) → record_check d ctx routes log Pass ≡ Pass → (e : End) → e.moved ≡ false →
    Made d (set_record d value e) (held_of d) (with_active Any e.active (endpoint_map_in d)) (is_lost e.answer)
unfolding set_record
set_stays d ctx routes log value k e m =
    let t = passed d ctx routes log Pass k in
    rw m (active_made d t.0.usable t.0.is_sound Any e.active e.answer)

-- The pending rings of a claim all enter quarantine, in their order: none is there, and none is twice among them.
pub claim_entered :
    (d : Device) (ctx routes log i a : ℕ) → record_check d ctx routes log (claim_check d i a Pass) ≡ Pass →
    entered (quarantined_of d) (queue_rings (queues_of (pending_of d i a (drawn d i a)))) ≡ queue_rings (queues_of (pending_of d i a (drawn d i a)))
unfolding pending_of
claim_entered d ctx routes log i a k =
    let t = passed d ctx routes log (claim_check d i a Pass) k in
    let words = setting_words (list_of d) i a in
    let rings = drawn d i a in
    let p = claim_passed d i a t.0.is_sound t.1 in
    pending_entered d t.0.usable t.0.is_sound (pending_rings words rings)
    (apart_offered words rings (endpoint_map_in d).rings d.control (quarantined_of d) (given_of d) p.offer p.from_given)

-- Lost with a Configure sent, they are quarantined.
pub claim_quarantined :
    (d : Device) (ctx routes log i a : ℕ) → record_check d ctx routes log (claim_check d i a Pass) ≡ Pass →
    (e : End) → e.moved ≡ false → (e.doubted && is_lost e.answer) ≡ true →
    quarantined_of (claim_record d i a (drawn d i a) e) ≡ queue_rings (queues_of (pending_of d i a (drawn d i a)))
unfolding claim_record marked quarantines unusable with_endpoints quarantined_of
claim_quarantined d ctx routes log i a k e m b =
    let c = with_active (Interface i) e.active (endpoint_map_in d) in
    rw (m, b, and_right e.doubted (is_lost e.answer) b)
    (with_quarantined_quarantined (queue_rings (queues_of (pending_of d i a (drawn d i a)))) (with_endpoints c d)
    ∙ claim_entered d ctx routes log i a k)

-- The rings of the settings that a set configuration ended are quarantined where it is lost.
pub set_quarantined :
    (d : Device) (ctx routes log value : ℕ) → record_check d ctx routes log Pass ≡ Pass →
    (e : End) → e.moved ≡ true → is_accepted e.answer ≡ false → is_lost e.answer ≡ true →
    quarantined_of (set_record d value e) ≡ queue_rings (queues_of (endpoint_map_in d).rings)
unfolding set_record bare ended_by quarantines marked unusable with_held with_endpoints quarantined_of
set_quarantined d ctx routes log value k e m n l =
    let t = passed d ctx routes log Pass k in
    rw (m, n, l)
    (with_quarantined_quarantined (queue_rings (queues_of (endpoint_map_in d).rings)) (with_held [] (with_endpoints no_endpoints d))
    ∙ pending_entered d t.0.usable t.0.is_sound (endpoint_map_in d).rings (sound_apart d t.0.is_sound))

-- An accepted set configuration keeps its value.
pub set_value :
    (d : Device) (value : ℕ) (e : End) → e.moved ≡ true → e.answer ≡ answer.Accepted →
    ((set_record d value e).configured ≡ true) × ((set_record d value e).current_config_value ≡ value)
unfolding set_record ended_by marked with_configuration number
set_value d value e m a = rw (m, a) (refl, refl)
