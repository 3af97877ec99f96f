-- The record of an accepted bring-up.
use Prim.Native.Nat.{ℕ, ◌-◌, ◌≤◌}
use mathlib.Core.Path.{◌≡◌, refl, ◌∙◌}
use mathlib.Core.Bool.{Bool, true, false, not, ◌||◌}
use mathlib.Core.List.{[], ◌∷◌}
use mathlib.Core.Logic.{⊎_elim}
use borrow.Author.Tests.{eq-eqb, eqb-true, le-leb}
use lib.Dec.{eqb}
use lib.ListN.{length, take, replicate}
use lib.Seq.{take-append_seam}
use Rattle.laws.specs.Distinct.{elem, distinct}
use Rattle.descriptor_list.specs.Companions.{valid_at}
use Rattle.descriptor_list.proofs.Companions.{listed}
use Rattle.laws.proofs.Tests.{and_left}
use Rattle.laws.proofs.Distinct.{elem_none, elem_cases}
use Rattle.record_ring.specs.Rings.{ring_ok, rings_ok, not_among}
use Rattle.record_ring.specs.Store.{given_ok}
use Rattle.record_ring.proofs.Promises.{given_promise, least_promise, given_fits}
use Rattle.record_checks.proofs.Together.{rings_ok_elem}
use Rattle.record_checks.proofs.Stored.{store_sound as store_sound_told}
use Rattle.answer.specs.Answer.{number}
use Rattle.context.specs.Place.{spacing_of}
use Rattle.record_endpoint.specs.EndpointMap.{endpoint_map_from, endpoint_map_of, no_endpoints}
use Rattle.record_endpoint.specs.Endpoint.{addresses, rings_of, addresses_fit, padded}
use Rattle.record_settings.specs.Held.{held_in, interfaces_of, each_setting, all_found, settings_sound}
use Rattle.record_settings.specs.Match.{endpoints_match}
use Rattle.record_settings.proofs.Laws.{match_none}
use Rattle.record_checks.specs.Rings.{each_once}
use Rattle.device.specs.declared.record.Device.{Device}
use Rattle.device.specs.Device.{words_of, list_of, endpoint_map_in, held_of, quarantined_of, given_of}
use Rattle.device.specs.Sound.{slot_sound, counts_fit, live_rings, rings_sound, store_sound, sound}
use Rattle.device.proofs.Made.{sound_if}
use Rattle.device.proofs.Updates.{live_of}
use Rattle.course_init.specs.Reading.{BringUp, control_ring, Brought}
use Rattle.device_bring_up.specs.BringUp.{brought_record}
use Rattle.device_bring_up.proofs.Checks.{Passed}

either_true : (b : Bool) → (not b || true) ≡ true
either_true true = refl
either_true false = refl

-- Control's ring is one of the given, so a ring.
control_given : (a : BringUp) → given_ok a.rings ≡ true → elem (control_ring a) a.rings ≡ true
unfolding control_ring
control_given a g = (least_promise a.rings).of_them ((given_promise a.rings).0 g).some

pub control_ok : (a : BringUp) → given_ok a.rings ≡ true → ring_ok (control_ring a) ≡ true
control_ok a g =
    rings_ok_elem a.rings (and_left (rings_ok a.rings) (distinct a.rings) (given_fits a.rings g)) (control_ring a) (control_given a g)

module _ (a : BringUp) (spacing : ℕ) (e : Brought) where
  -- it holds no setting and no endpoint, and no ring is quarantined
  pub record_held : held_of (brought_record a spacing e) ≡ []
  unfolding held_of held_in brought_record
  record_held = refl

  pub record_map : endpoint_map_in (brought_record a spacing e) ≡ no_endpoints
  unfolding endpoint_map_in endpoint_map_of endpoint_map_from brought_record
  record_map = refl

  pub record_quarantined : quarantined_of (brought_record a spacing e) ≡ []
  unfolding quarantined_of brought_record
  record_quarantined = refl

  -- its list is what was read
  pub record_words : words_of (brought_record a spacing e) ≡ e.read.list
  unfolding words_of padded brought_record
  record_words = take-append_seam e.read.list (replicate (256 - length e.read.list) 0)

  -- its given rings are those of the bring-up
  pub record_given : given_of (brought_record a spacing e) ≡ a.rings
  unfolding given_of padded brought_record
  record_given = take-append_seam a.rings (replicate (64 - length a.rings) 0)

  -- it is usable where the bring-up is accepted
  pub record_usable : number e.answer ≡ 0 → (brought_record a spacing e).usable ≡ true
  unfolding brought_record
  record_usable h = eq-eqb (number e.answer) 0 h

  -- and only there; it is up where it is usable
  pub usable_accepted : (brought_record a spacing e).usable ≡ true → number e.answer ≡ 0
  unfolding brought_record
  usable_accepted h = eqb-true (number e.answer) 0 h

  pub record_up : (brought_record a spacing e).up ≡ (brought_record a spacing e).usable
  unfolding brought_record
  record_up = refl

module _ (a : BringUp) (ctx routes log : ℕ) (p : Passed a ctx routes log) (e : Brought) (w : e.read.list ≡ a.list) where
  d : Device
  d = brought_record a (spacing_of ctx) e

  place : slot_sound d ≡ true
  unfolding d slot_sound brought_record
  place =
      rw (le-leb 1 a.slot p.slot_low, le-leb a.slot a.max_slots p.slot_high, le-leb a.max_slots 255 p.n_high, p.known, p.speed)

  counts : counts_fit d ≡ true
  unfolding d counts_fit brought_record
  counts =
      let few : length a.list ≤ 256 = (listed a.speed a.list p.list).short in
      let given : length a.rings ≤ 64 = ((given_promise a.rings).0 p.rings).room in
      rw (w, le-leb (length a.list) 256 few, le-leb (length a.rings) 64 given)

  list : words_of d ≡ a.list
  unfolding d
  list = record_words a (spacing_of ctx) e ∙ w

  settings : settings_sound (list_of d) (held_of d) ≡ true
  unfolding d settings_sound interfaces_of all_found each_setting distinct
  settings = rw (record_held a (spacing_of ctx) e)

  fit : addresses_fit (addresses (take d.ep_count d.eps)) ≡ true
  unfolding d brought_record addresses addresses_fit
  fit = refl

  match : endpoints_match (list_of d) (held_of d) (endpoint_map_in d) ≡ true
  unfolding d
  match = rw (record_held a (spacing_of ctx) e, record_map a (spacing_of ctx) e) (match_none (list_of d))

  rings : rings_sound d ≡ true
  unfolding d rings_sound live_rings each_once not_among rings_of quarantined_of rings_ok distinct elem brought_record
  rings = rw (control_ok a p.rings) (either_true (eqb (number e.answer) 0))

  live : live_rings d ≡ control_ring a ∷ []
  unfolding d live_rings rings_of brought_record
  live = refl

  store : store_sound d ≡ true
  unfolding d store_sound
  store =
      rw (record_given a (spacing_of ctx) e, live, record_quarantined a (spacing_of ctx) e)
      (store_sound_told a.rings (control_ring a ∷ []) []
      (record {
        fit = p.rings;
        live_given = λ x h. ⊎_elim (λ s. rw s (control_given a p.rings)) (λ n. elem_none x n) (elem_cases x (control_ring a) [] h);
        kept_given = λ x h. elem_none x h;
      }))

  valid : valid_at d.port_speed (words_of d) ≡ true
  unfolding d brought_record
  valid = rw list p.list

  -- it is sound
  pub record_sound : sound (brought_record a (spacing_of ctx) e) ≡ true
  unfolding d live_of
  record_sound = sound_if d place counts valid settings fit match rings store
