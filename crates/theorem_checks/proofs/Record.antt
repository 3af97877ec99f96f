-- A sound record is what specs/Record.antt says.
use Prim.Native.Nat.{ℕ, ◌%◌, ◌≤◌, ◌<◌}
use mathlib.Core.Path.{◌≡◌, refl, sym, ap, ◌∙◌}
use mathlib.Core.Logic.{◌⊎◌, inl, inr, ⊎_elim}
use mathlib.Core.Bool.{true, false, not, ◌&&◌, ◌||◌}
use mathlib.Core.List.{List, [], ◌∷◌, ◌++◌}
use native.Mathlib.Omega.{arith}
use borrow.Author.Tests.{eqb-true, eqb-false, eq-eqb, ne_eqb, le-leb, leb-true, not-true}
use lib.Dec.{eqb, leb}
use lib.ListN.{length, get_or, take, length-take, length-append, get_or-append}
use lib.Seq.{get_or-take}
use Rattle.laws.specs.Distinct.{elem, distinct}
use Rattle.laws.proofs.Tests.{and_left, and_right, and-true, not_both}
use Rattle.laws.proofs.Cases.{false_if, or_right}
use Rattle.laws.proofs.Distinct.{elem_none, elem_here, elem_cases, elem_at, elem_place, distinct_first, distinct_rest, distinct_append, distinct_place}
use Rattle.def.specs.Speed.{speed_known}
use Rattle.descriptor.specs.Word.{direction_in, endpoint_number, endpoint_descriptor}
use Rattle.descriptor_list.specs.Lookup.{find_endpoints}
use Rattle.descriptor_list.specs.Valid.{valid_list}
use Rattle.descriptor_list.specs.Companions.{list_ok, companions_fit, valid_at}
use Rattle.descriptor_list.proofs.Companions.{valid_promise}
use Rattle.record_ring.specs.Rings.{ring_ok, not_among}
use Rattle.record_ring.specs.Store.{given_ok}
use Rattle.record_ring.proofs.Laws.{ring_nonzero}
use Rattle.record_ring.proofs.Promises.{given_promise}
use Rattle.record_ring.proofs.Entered.{elem_left, elem_right, elem_either, not_among_from, not_among_distinct}
use Rattle.record_endpoint.specs.declared.endpoint_map.Owner.TheVariants.{Interface}
use Rattle.record_endpoint.specs.declared.endpoint_map.EndpointMap.{EndpointMap}
use Rattle.record_endpoint.specs.Order.{place_of}
use Rattle.record_endpoint.specs.Endpoint.{blank, addresses, addresses_fit, rings_of}
use Rattle.record_endpoint.specs.EndpointMap.{owns, is_owned, is_active}
use Rattle.record_endpoint.proofs.Laws.{place_same}
use Rattle.record_endpoint.proofs.Clean.{EntryIs, map_none, map_at}
use Rattle.record_settings.specs.Held.{interfaces_of, is_held, alternate_of, setting_words, is_found, all_found, settings_sound}
use Rattle.record_settings.specs.Match.{has_place, endpoints_match}
use Rattle.record_settings.proofs.Laws.{sound_distinct, sound_found, held_found, has_place_lem, place_word, setting_place, passed_if, Matches, match_facts, match_if}
use Rattle.record_checks.specs.Rings.{each_once}
use Rattle.record_checks.proofs.Together.{rings_ok_elem, rings_ok_each, once_live, once_kept, once_from, rings_sound as rings_make, both_ways}
use Rattle.record_checks.proofs.Stored.{store_sound as store_make}
use Rattle.device.specs.declared.record.Device.{Device}
use Rattle.device.specs.Device.{words_of, list_of, endpoint_map_in, held_of, quarantined_of, given_of}
use Rattle.device.specs.Sound.{slot_sound, counts_fit, lists_sound, live_rings, rings_sound, store_sound, sound}
use Rattle.device.proofs.Facts.{SoundFacts, sound_facts, none_quarantined}
use Rattle.theorem_checks.specs.Descriptors.{address_of, Listed}
use Rattle.theorem_checks.specs.Record.{words_in, list_in, EndpointAt, HasEndpoint, Holds, Stands, Belongs, IsRing, EndpointRing, Entry, Live, Quarantined, IsGiven, InUse, RingsFit, SoundRecord, SoundTells}
use Rattle.theorem_checks.proofs.Descriptors.{lookup_tells}
use Rattle.theorem_checks.proofs.Companions.{list_tells, companions_tell}
use Rattle.theorem_checks.proofs.Endpoints.{ring_at_lem, rings_count, rings_made, one_of, inside_lem, ring_elem, elem_ring, fit_place, fit_differ, fit_made}
use Rattle.theorem_checks.proofs.Numbers.{differ_distinct, distinct_differ, at_most_by, at_most_at}
use Rattle.theorem_checks.proofs.Settings.{HeldAt, held_read, held_made, apart_read, apart_made, held_one}

-- Rings.
pub ring_read : (r : ℕ) → ring_ok r ≡ true → IsRing r
unfolding ring_ok
ring_read r e =
    record { nonzero = ring_nonzero r e; multiple = eqb-true (r % 16) 0 (and_right (not (eqb r 0)) (eqb (r % 16) 0) e) }

pub ring_made : (r : ℕ) → IsRing r → ring_ok r ≡ true
unfolding ring_ok
ring_made r s = rw (ne_eqb r 0 s.nonzero, eq-eqb (r % 16) 0 s.multiple)

pub rings_fit_read : (rings : List ℕ) → given_ok rings ≡ true → RingsFit rings
rings_fit_read rings e =
    let g = (given_promise rings).0 e in
    record {
      some = g.some;
      few = g.room;
      rings_are = λ i h. record { nonzero = g.nonzero i h; multiple = g.multiple i h };
      differ = g.apart;
    }

pub rings_fit_made : (rings : List ℕ) → RingsFit rings → given_ok rings ≡ true
rings_fit_made rings g =
    (given_promise rings).1
    (record {
      some = g.some;
      room = g.few;
      nonzero = λ i h. (g.rings_are i h).nonzero;
      multiple = λ i h. (g.rings_are i h).multiple;
      apart = g.differ;
    })

entry_elem : (array : List ℕ) (n x : ℕ) → Entry array n x → elem x (take n array) ≡ true
entry_elem array n x t =
    rw (← t.same, ← get_or-take n array t.at 0 t.counted) (elem_at (take n array) t.at (omega (arith, length-take n array, t.counted, t.inside)))

elem_entry : (array : List ℕ) (n x : ℕ) → elem x (take n array) ≡ true → Entry array n x
elem_entry array n x e =
    let t = elem_place x (take n array) e in
    let c : t.0 < n = omega (arith, t.1, length-take n array) in
    record { at = t.0; counted = c; inside = omega (arith, t.1, length-take n array); same = sym (get_or-take n array t.0 0 c) ∙ t.2 }

-- The last of different numbers is none of the others.
last_apart : (x : ℕ) (l : List ℕ) → distinct (l ++ (x ∷ [])) ≡ true → elem x l ≡ false
unfolding elem distinct
last_apart x [] e = refl
last_apart x (y ∷ l) e =
    rw (
      ne_eqb x y (λ s. not_both (elem y (l ++ (x ∷ []))) (elem_right y l (x ∷ []) (rw s (elem_here y []))) (distinct_first y (l ++ (x ∷ [])) e)),
      last_apart x l (distinct_rest y (l ++ (x ∷ [])) e),
    )

none_elem : (l : List ℕ) → ((x : ℕ) → elem x l ≡ true → ⊥) → length l ≡ 0
none_elem [] n = refl
none_elem (x ∷ l) n = absurd (n x (elem_here x l))

-- Owners.
own_read : (i : ℕ) (c : EndpointMap) (p : ℕ) → is_owned (Interface i) c p ≡ true → (get_or c.rings p 0 ≡ 0 → ⊥) × (get_or c.owners p 0 ≡ i)
unfolding is_owned owns
own_read i c p e =
    let r = not (eqb (get_or c.rings p 0) 0) in
    let o = eqb (get_or c.owners p 0) i in
    (eqb-false (get_or c.rings p 0) 0 (not-true (eqb (get_or c.rings p 0) 0) (and_left r o e)), eqb-true (get_or c.owners p 0) i (and_right r o e))

own_made : (i : ℕ) (c : EndpointMap) (p : ℕ) → (get_or c.rings p 0 ≡ 0 → ⊥) → get_or c.owners p 0 ≡ i → is_owned (Interface i) c p ≡ true
unfolding is_owned owns
own_made i c p n s = rw (ne_eqb (get_or c.rings p 0) 0 n, eq-eqb (get_or c.owners p 0) i s)

pub word_address : (w : ℕ) → (endpoint_descriptor w).address ≡ address_of w
unfolding endpoint_descriptor direction_in endpoint_number
word_address w = refl

-- What stands at a place.
pub record At (d : Device) (p : ℕ) : Type 0 where
  pub at : ℕ
  pub counted : at < d.ep_count
  pub inside : at < length d.eps
  pub placed : place_of (get_or d.eps at blank).address ≡ p

module _ (d : Device) where
  pub at_or_none : (p : ℕ) → p < 30 → At d p ⊎ (get_or (endpoint_map_in d).rings p 0 ≡ 0)
  unfolding endpoint_map_in
  at_or_none p h = go (one_of (λ k. place_of (get_or d.eps k blank).address) p d.ep_count)
    where
      go : ((k : ℕ) × (k < d.ep_count) × (place_of (get_or d.eps k blank).address ≡ p))
          ⊎ ((k : ℕ) → k < d.ep_count → place_of (get_or d.eps k blank).address ≡ p → ⊥) → At d p ⊎ (get_or (endpoint_map_in d).rings p 0 ≡ 0)
      go (inl t) = inl (record { at = t.0; counted = t.1; inside = inside_lem d.ep_count d.eps t.0 (rw t.2 h); placed = t.2 })
      go (inr f) = inr (map_none d.ep_count d.eps d.ep_interfaces p h f).rings

  abbrev pub Fits : Type 0
  Fits = addresses_fit (addresses (take d.ep_count d.eps)) ≡ true

  pub entry : Fits → (k : ℕ) → k < d.ep_count → k < length d.eps →
      EntryIs (endpoint_map_in d) (place_of (get_or d.eps k blank).address) (get_or d.eps k blank).ring (get_or d.ep_interfaces k 0) (is_active (get_or d.eps k blank).handle)
  unfolding endpoint_map_in
  entry f k h l = map_at d.ep_count d.eps d.ep_interfaces k f h l

  -- Live rings.
  pub live_elem : (x : ℕ) → Live d x → elem x (live_rings d) ≡ true
  unfolding live_rings
  live_elem x (inl r) =
      let t = r.there in
      elem_left x (rings_of (take d.ep_count d.eps)) (d.control ∷ []) (rw (← t.ring_is) (ring_elem d.ep_count d.eps r.at t.counted t.inside))
  live_elem x (inr s) = elem_right x (rings_of (take d.ep_count d.eps)) (d.control ∷ []) (rw (← s) (elem_here d.control []))

  pub endpoint_ring : (k : ℕ) → k < d.ep_count → k < length d.eps → EndpointRing d (get_or d.eps k blank).ring
  endpoint_ring k h l =
      record {
        at = k;
        address = (get_or d.eps k blank).address;
        owner = get_or d.ep_interfaces k 0;
        there = record { counted = h; inside = l; address_is = refl; owner_is = refl; ring_is = refl };
      }

  pub elem_live : (x : ℕ) → elem x (live_rings d) ≡ true → Live d x
  unfolding live_rings
  elem_live x e = go (elem_either x (rings_of (take d.ep_count d.eps)) (d.control ∷ []) e)
    where
      one : (x ≡ d.control) ⊎ (elem x [] ≡ true) → Live d x
      one (inl s) = inr (sym s)
      one (inr n) = elem_none x n

      go : (elem x (rings_of (take d.ep_count d.eps)) ≡ true) ⊎ (elem x (d.control ∷ []) ≡ true) → Live d x
      go (inl r) = let t = elem_ring d.ep_count d.eps x r in inl (rw t.3 at (endpoint_ring t.0 t.1 t.2))
      go (inr r) = one (elem_cases x d.control [] r)

  pub quarantined_elem : (x : ℕ) → Quarantined d x → elem x (quarantined_of d) ≡ true
  unfolding quarantined_of
  quarantined_elem x t = entry_elem d.quarantined d.quarantined_count x t

  pub elem_quarantined : (x : ℕ) → elem x (quarantined_of d) ≡ true → Quarantined d x
  unfolding quarantined_of
  elem_quarantined x e = elem_entry d.quarantined d.quarantined_count x e

  pub given_elem : (x : ℕ) → IsGiven d x → elem x (given_of d) ≡ true
  unfolding given_of
  given_elem x t = entry_elem d.given d.given_count x t

  pub elem_given : (x : ℕ) → elem x (given_of d) ≡ true → IsGiven d x
  unfolding given_of
  elem_given x e = elem_entry d.given d.given_count x e

  -- Held settings.
  held_at : (i a : ℕ) → Holds d i a → HeldAt d.held_count d.interfaces d.alternates i a
  held_at i a h = record { at = h.at; counted = h.counted; interface_is = h.interface_is; alternate_is = h.alternate_is }

  pub holds_held : (i a : ℕ) → Holds d i a → is_held i (held_of d) ≡ true
  unfolding held_of
  holds_held i a h = held_made d.held_count d.interfaces d.alternates i a (held_at i a h)

  pub held_holds : (i : ℕ) → is_held i (held_of d) ≡ true → Holds d i (alternate_of i (held_of d))
  unfolding held_of
  held_holds i e =
      let h = held_read d.held_count d.interfaces d.alternates i e in
      record { at = h.at; counted = h.counted; interface_is = h.interface_is; alternate_is = h.alternate_is }

  pub holds_one : distinct (interfaces_of (held_of d)) ≡ true → (i a : ℕ) → Holds d i a → alternate_of i (held_of d) ≡ a
  unfolding held_of
  holds_one e i a h =
      held_one d.held_count d.interfaces d.alternates (apart_read d.held_count d.interfaces d.alternates e) i a (held_at i a h)

-- What soundness says.
module _ (d : Device) (e : sound d ≡ true) where
  f : SoundFacts d
  f = sound_facts d e

  ring_fits : (x : ℕ) → InUse d x → ring_ok x ≡ true
  ring_fits x (inl l) = rings_ok_elem (live_rings d) f.rings.live_ok x (live_elem d x l)
  ring_fits x (inr q) = rings_ok_elem (quarantined_of d) f.rings.ok x (quarantined_elem d x q)

  nonzero : (k : ℕ) → k < d.ep_count → k < length d.eps → (get_or d.eps k blank).ring ≡ 0 → ⊥
  nonzero k h l = ring_nonzero (get_or d.eps k blank).ring (ring_fits _ (inl (inl (endpoint_ring d k h l))))

  matches : Matches (list_of d) (held_of d) (endpoint_map_in d)
  matches = match_facts (list_of d) (held_of d) (endpoint_map_in d) f.endpoints

  -- The words of a held setting.
  pub held_listed : (i : ℕ) → is_held i (held_of d) ≡ true →
      Listed (list_in d) i (alternate_of i (held_of d)) (setting_words (list_of d) i (alternate_of i (held_of d)))
  unfolding list_of words_of
  held_listed i h =
      (lookup_tells (list_of d) i (alternate_of i (held_of d))).found
      (held_found (list_of d) (held_of d) (sound_found (list_of d) (held_of d) f.settings) i h)

  -- An endpoint of an interface where its setting has a word.
  word_endpoint : (i : ℕ) → is_held i (held_of d) ≡ true → (k : ℕ) →
      k < length (setting_words (list_of d) i (alternate_of i (held_of d))) →
      HasEndpoint d (address_of (get_or (setting_words (list_of d) i (alternate_of i (held_of d))) k 0)) i
  word_endpoint i h k l = go (at_or_none d p small)
    where
      w : ℕ
      w = get_or (setting_words (list_of d) i (alternate_of i (held_of d))) k 0

      p : ℕ
      p = place_of (endpoint_descriptor w).address

      small : p < 30
      small = setting_place (list_of d) f.list i (alternate_of i (held_of d)) k l

      own : (get_or (endpoint_map_in d).rings p 0 ≡ 0 → ⊥) × (get_or (endpoint_map_in d).owners p 0 ≡ i)
      own =
          own_read i (endpoint_map_in d) p
          (matches.owned i p h small ∙ has_place_lem (setting_words (list_of d) i (alternate_of i (held_of d))) k l)

      go : At d p ⊎ (get_or (endpoint_map_in d).rings p 0 ≡ 0) → HasEndpoint d (address_of w) i
      go (inl t) =
          let owner = (entry d f.addresses_fit_lem t.at t.counted t.inside).owners in
          record {
            at = t.at;
            ring = (get_or d.eps t.at blank).ring;
            there =
                record {
                  counted = t.counted;
                  inside = t.inside;
                  address_is = place_same (get_or d.eps t.at blank).address (endpoint_descriptor w).address (rw t.placed small) t.placed ∙ word_address w;
                  owner_is = sym (rw t.placed at owner) ∙ own.1;
                  ring_is = refl;
                };
          }
      go (inr z) = absurd (own.0 z)

  setting_stands : (i a : ℕ) → Holds d i a → Stands d i a
  setting_stands i a h =
      let held = holds_held d i a h in
      let same : alternate_of i (held_of d) ≡ a = holds_one d (sound_distinct (list_of d) (held_of d) f.settings) i a h in
      let t : Stands d i (alternate_of i (held_of d)) =
      record {
        words = setting_words (list_of d) i (alternate_of i (held_of d));
        listed = held_listed i held;
        endpoints = word_endpoint i held;
      } in
      rw same at t

  endpoint_belongs : (k address owner ring : ℕ) → EndpointAt d k address owner ring → Belongs d address owner
  endpoint_belongs k address owner ring t =
      let en = entry d f.addresses_fit_lem k t.counted t.inside in
      let p = place_of (get_or d.eps k blank).address in
      let small : p < 30 = fit_place d.ep_count d.eps f.addresses_fit_lem k t.counted t.inside in
      let some : get_or (endpoint_map_in d).rings p 0 ≡ 0 → ⊥ = λ z. nonzero k t.counted t.inside (sym en.rings ∙ z) in
      let own : get_or (endpoint_map_in d).owners p 0 ≡ owner = en.owners ∙ t.owner_is in
      let held : is_held owner (held_of d) ≡ true = rw own at (matches.held p small some) in
      let words = setting_words (list_of d) owner (alternate_of owner (held_of d)) in
      let has : has_place p words ≡ true =
      sym (matches.owned owner p held small) ∙ own_made owner (endpoint_map_in d) p some own in
      let w = place_word p words has in
      record {
        alternate = alternate_of owner (held_of d);
        held = held_holds d owner held;
        words = words;
        listed = held_listed owner held;
        at = w.0;
        inside = w.1;
        same =
            sym (word_address (get_or words w.0 0))
            ∙ place_same (endpoint_descriptor (get_or words w.0 0)).address (get_or d.eps k blank).address (rw w.2 small) w.2
            ∙ t.address_is;
      }

  in_use_once : (x : ℕ) → InUse d x → elem x (each_once (live_rings d) (quarantined_of d)) ≡ true
  in_use_once x (inl l) = once_live (live_rings d) (quarantined_of d) x (live_elem d x l)
  in_use_once x (inr q) = once_kept (live_rings d) (quarantined_of d) x (quarantined_elem d x q)

  in_use_given : (x : ℕ) → InUse d x → IsGiven d x
  in_use_given x (inl l) = elem_given d x (f.store.live_given x (live_elem d x l))
  in_use_given x (inr q) = elem_given d x (f.store.kept_given x (quarantined_elem d x q))

  live_index : (k : ℕ) → k < d.ep_count → k < length d.eps → (k < length (live_rings d)) × (get_or (live_rings d) k 0 ≡ (get_or d.eps k blank).ring)
  unfolding live_rings
  live_index k h l =
      let m = rings_count d.ep_count d.eps k h l in
      (omega (arith, m, length-append (rings_of (take d.ep_count d.eps)) (d.control ∷ [])), get_or-append (rings_of (take d.ep_count d.eps)) (d.control ∷ []) 0 k m ∙ ring_at_lem d.ep_count d.eps k h)

  rings_differ : (j k : ℕ) → j < d.ep_count → j < length d.eps → k < d.ep_count → k < length d.eps →
      (get_or d.eps j blank).ring ≡ (get_or d.eps k blank).ring → j ≡ k
  rings_differ j k h l g m s =
      let a = live_index j h l in
      let b = live_index k g m in
      distinct_place (live_rings d) f.rings.live_distinct j k a.0 b.0 (a.1 ∙ s ∙ sym b.1)

  control_apart : EndpointRing d d.control → ⊥
  unfolding live_rings
  control_apart r =
      let t = r.there in
      not_both (elem d.control (rings_of (take d.ep_count d.eps))) (rw t.ring_is at (ring_elem d.ep_count d.eps r.at t.counted t.inside))
      (last_apart d.control (rings_of (take d.ep_count d.eps)) f.rings.live_distinct)

  speed_is : (1 ≤ d.port_speed) × (d.port_speed ≤ 5)
  unfolding speed_known
  speed_is = (leb-true 1 d.port_speed (and_left (leb 1 d.port_speed) (leb d.port_speed 5) f.place.speed), leb-true d.port_speed 5 (and_right (leb 1 d.port_speed) (leb d.port_speed 5) f.place.speed))

  interfaces_apart : (j k : ℕ) → j < d.held_count → k < d.held_count → get_or d.interfaces j 0 ≡ get_or d.interfaces k 0 → j ≡ k
  unfolding held_of
  interfaces_apart = apart_read d.held_count d.interfaces d.alternates (sound_distinct (list_of d) (held_of d) f.settings)

  sound_read : SoundRecord d
  unfolding words_of valid_at quarantined_of given_of elem
  sound_read =
      record {
        slot_low = f.place.slot_low;
        slot_high = f.place.slot_high;
        slots = f.place.n_high;
        spacing = f.place.spacing;
        speed_low = speed_is.0;
        speed_high = speed_is.1;
        words_fit = f.counts.list;
        endpoints_fit = f.counts.endpoints;
        settings_fit = f.counts.held;
        quarantined_fit = f.counts.quarantined;
        given_fit = f.counts.given;
        list = (list_tells d.port_speed (words_of d)).0 (and_left (list_ok d.port_speed (words_of d)) _ f.valid);
        companions = (companions_tell d.port_speed (words_of d)).0 (and_right (list_ok d.port_speed (words_of d)) _ f.valid);
        interfaces = interfaces_apart;
        settings = setting_stands;
        one = λ j k address owner ring other_owner other_ring t u.
            fit_differ d.ep_count d.eps f.addresses_fit_lem j k t.counted t.inside u.counted u.inside (t.address_is ∙ sym u.address_is);
        no_others = endpoint_belongs;
        rings = λ x u. ring_read x (ring_fits x u);
        live = λ j k address owner ring other_address other_owner t u.
            rings_differ j k t.counted t.inside u.counted u.inside (t.ring_is ∙ sym u.ring_is);
        control = control_apart;
        quarantine = distinct_differ (quarantined_of d) f.rings.apart;
        together = at_most_by 61 (InUse d) (each_once (live_rings d) (quarantined_of d)) in_use_once f.rings.few;
        clear = λ u x q. not_both (elem x []) (rw (none_quarantined d u e) at (quarantined_elem d x q)) refl;
        given = rings_fit_read (given_of d) f.store.fit;
        from_given = in_use_given;
      }

-- And what makes a record sound.
module _ (d : Device) (s : SoundRecord d) where
  spacing_ok : (w : ℕ) → (w ≡ 32) ⊎ (w ≡ 64) → (eqb w 32 || eqb w 64) ≡ true
  spacing_ok w (inl e) = rw (eq-eqb w 32 e)
  spacing_ok w (inr e) = or_right (eqb w 32) (eqb w 64) (eq-eqb w 64 e)

  slot_ok : slot_sound d ≡ true
  unfolding slot_sound speed_known
  slot_ok =
      and-true (leb 1 d.slot.0 && (leb d.slot.0 d.max_slots && leb d.max_slots 255)) _
      (rw (le-leb 1 d.slot.0 s.slot_low, le-leb d.slot.0 d.max_slots s.slot_high, le-leb d.max_slots 255 s.slots))
      (and-true (eqb d.spacing 32 || eqb d.spacing 64) _ (spacing_ok d.spacing s.spacing)
      (rw (le-leb 1 d.port_speed s.speed_low, le-leb d.port_speed 5 s.speed_high)))

  counts_ok : counts_fit d ≡ true
  unfolding counts_fit
  counts_ok =
      rw (
        le-leb d.list_len 256 s.words_fit,
        le-leb d.ep_count 30 s.endpoints_fit,
        le-leb d.held_count 32 s.settings_fit,
        le-leb d.quarantined_count 61 s.quarantined_fit,
        le-leb d.given_count 64 s.given_fit,
      )

  listed : valid_at d.port_speed (words_of d) ≡ true
  unfolding words_of valid_at
  listed = rw ((list_tells d.port_speed (words_of d)).1 s.list, (companions_tell d.port_speed (words_of d)).1 s.companions)

  valid : valid_list (list_of d) ≡ true
  unfolding list_of
  valid = valid_promise d.port_speed (words_of d) listed

  held_distinct : distinct (interfaces_of (held_of d)) ≡ true
  unfolding held_of
  held_distinct = apart_made d.held_count d.interfaces d.alternates s.interfaces

  setting_is : (i a : ℕ) (words : List ℕ) → Listed (list_in d) i a words →
      (is_found (find_endpoints (list_of d) i a) ≡ true) × (setting_words (list_of d) i a ≡ words)
  unfolding list_of words_of
  setting_is i a words l = (lookup_tells (list_of d) i a).listed words l

  held_stands : (i : ℕ) → is_held i (held_of d) ≡ true → Stands d i (alternate_of i (held_of d))
  held_stands i h = s.settings i (alternate_of i (held_of d)) (held_holds d i h)

  settings_ok : settings_sound (list_of d) (held_of d) ≡ true
  unfolding settings_sound all_found
  settings_ok =
      and-true (distinct (interfaces_of (held_of d))) _ held_distinct
      (passed_if _ (held_of d) held_distinct
      (λ i h. let t = held_stands i h in (setting_is i (alternate_of i (held_of d)) t.words t.listed).0))

  there : (k : ℕ) → k < d.ep_count → k < length d.eps →
      EndpointAt d k (get_or d.eps k blank).address (get_or d.ep_interfaces k 0) (get_or d.eps k blank).ring
  there k h l = record { counted = h; inside = l; address_is = refl; owner_is = refl; ring_is = refl }

  some_ring : (k : ℕ) → k < d.ep_count → k < length d.eps → (get_or d.eps k blank).ring ≡ 0 → ⊥
  some_ring k h l = (s.rings (get_or d.eps k blank).ring (inl (inl (endpoint_ring d k h l)))).nonzero

  has_room : (k : ℕ) → k < d.ep_count → k < length d.eps → place_of (get_or d.eps k blank).address < 30
  has_room k h l =
      let b = s.no_others k _ _ _ (there k h l) in
      let owner = get_or d.ep_interfaces k 0 in
      let same : setting_words (list_of d) owner b.alternate ≡ b.words = (setting_is owner b.alternate b.words b.listed).1 in
      let n : b.at < length (setting_words (list_of d) owner b.alternate) = rw same b.inside in
      let p : place_of (endpoint_descriptor (get_or (setting_words (list_of d) owner b.alternate) b.at 0)).address < 30 =
      setting_place (list_of d) valid owner b.alternate b.at n in
      let q : place_of (endpoint_descriptor (get_or b.words b.at 0)).address < 30 = rw same at p in
      let a : (endpoint_descriptor (get_or b.words b.at 0)).address ≡ (get_or d.eps k blank).address =
      word_address (get_or b.words b.at 0) ∙ b.same in
      rw a at q

  fits : Fits d
  fits =
      fit_made d.ep_count d.eps has_room
      (λ j k h l g m e.
      s.one j k (get_or d.eps j blank).address _ _ _ _ (there j h l)
      (record { counted = g; inside = m; address_is = sym e; owner_is = refl; ring_is = refl }))

  owns_word : (i p : ℕ) → is_held i (held_of d) ≡ true → p < 30 → is_owned (Interface i) (endpoint_map_in d) p ≡ true →
      has_place p (setting_words (list_of d) i (alternate_of i (held_of d))) ≡ true
  owns_word i p h small e = go (at_or_none d p small)
    where
      own : (get_or (endpoint_map_in d).rings p 0 ≡ 0 → ⊥) × (get_or (endpoint_map_in d).owners p 0 ≡ i)
      own = own_read i (endpoint_map_in d) p e

      go : At d p ⊎ (get_or (endpoint_map_in d).rings p 0 ≡ 0) → has_place p (setting_words (list_of d) i (alternate_of i (held_of d))) ≡ true
      go (inr z) = absurd (own.0 z)
      go (inl t) =
          let owner = (entry d fits t.at t.counted t.inside).owners in
          let is : get_or d.ep_interfaces t.at 0 ≡ i = sym (rw t.placed at owner) ∙ own.1 in
          let b =
          s.no_others t.at (get_or d.eps t.at blank).address i (get_or d.eps t.at blank).ring
          (record { counted = t.counted; inside = t.inside; address_is = refl; owner_is = is; ring_is = refl }) in
          let alternate : alternate_of i (held_of d) ≡ b.alternate = holds_one d held_distinct i b.alternate b.held in
          let words : setting_words (list_of d) i b.alternate ≡ b.words = (setting_is i b.alternate b.words b.listed).1 in
          let place : place_of (endpoint_descriptor (get_or b.words b.at 0)).address ≡ p =
          ap place_of (word_address (get_or b.words b.at 0) ∙ b.same) ∙ t.placed in
          ap (has_place p) (ap (setting_words (list_of d) i) alternate ∙ words) ∙ (rw place at (has_place_lem b.words b.at b.inside))

  word_owns : (i p : ℕ) → is_held i (held_of d) ≡ true → p < 30 →
      has_place p (setting_words (list_of d) i (alternate_of i (held_of d))) ≡ true → is_owned (Interface i) (endpoint_map_in d) p ≡ true
  word_owns i p h small e =
      let w = place_word p (setting_words (list_of d) i (alternate_of i (held_of d))) e in
      let st = held_stands i h in
      let same : setting_words (list_of d) i (alternate_of i (held_of d)) ≡ st.words = (setting_is i (alternate_of i (held_of d)) st.words st.listed).1 in
      let inside : w.0 < length st.words = rw (← same) w.1 in
      let x = st.endpoints w.0 inside in
      let t = x.there in
      let en = entry d fits x.at t.counted t.inside in
      let placed : place_of (endpoint_descriptor (get_or st.words w.0 0)).address ≡ p = rw (← same) w.2 in
      let place : place_of (get_or d.eps x.at blank).address ≡ p = ap place_of (t.address_is ∙ sym (word_address (get_or st.words w.0 0))) ∙ placed in
      own_made i (endpoint_map_in d) p
      (λ z. some_ring x.at t.counted t.inside (sym (rw place at en.rings) ∙ z))
      ((rw place at en.owners) ∙ t.owner_is)

  owner_is_held : (p : ℕ) → p < 30 → (get_or (endpoint_map_in d).rings p 0 ≡ 0 → ⊥) →
      is_held (get_or (endpoint_map_in d).owners p 0) (held_of d) ≡ true
  owner_is_held p small n = go (at_or_none d p small)
    where
      go : At d p ⊎ (get_or (endpoint_map_in d).rings p 0 ≡ 0) → is_held (get_or (endpoint_map_in d).owners p 0) (held_of d) ≡ true
      go (inr z) = absurd (n z)
      go (inl t) =
          let owner = (entry d fits t.at t.counted t.inside).owners in
          let b = s.no_others t.at _ _ _ (there t.at t.counted t.inside) in
          ap (λ o. is_held o (held_of d)) (rw t.placed at owner) ∙ holds_held d (get_or d.ep_interfaces t.at 0) b.alternate b.held

  endpoints_ok : endpoints_match (list_of d) (held_of d) (endpoint_map_in d) ≡ true
  endpoints_ok =
      match_if (list_of d) (held_of d) (endpoint_map_in d) held_distinct
      (record { owned = λ i p h small. both_ways _ _ (owns_word i p h small) (word_owns i p h small); held = owner_is_held })

  lists_ok : lists_sound d ≡ true
  unfolding lists_sound list_of
  lists_ok = rw (listed, settings_ok, fits, endpoints_ok)

  live_distinct : distinct (live_rings d) ≡ true
  unfolding live_rings distinct elem
  live_distinct =
      distinct_append (rings_of (take d.ep_count d.eps)) (d.control ∷ [])
      (rings_made d.ep_count d.eps
      (λ j k h l g m e.
      s.live j k _ _ (get_or d.eps j blank).ring _ _ (there j h l)
      (record { counted = g; inside = m; address_is = refl; owner_is = refl; ring_is = sym e })))
      refl
      (λ x h. false_if (elem x (d.control ∷ [])) (λ g. apart x h (elem_cases x d.control [] g)))
    where
      apart : (x : ℕ) → elem x (rings_of (take d.ep_count d.eps)) ≡ true → (x ≡ d.control) ⊎ (elem x [] ≡ true) → ⊥
      apart x h (inl e) = let t = elem_ring d.ep_count d.eps x h in s.control (rw (t.3 ∙ e) at (endpoint_ring d t.0 t.1 t.2))
      apart x h (inr n) = elem_none x n

  elem_in_use : (x : ℕ) → elem x (each_once (live_rings d) (quarantined_of d)) ≡ true → InUse d x
  elem_in_use x e = ⊎_elim (λ l. inl (elem_live d x l)) (λ q. inr (elem_quarantined d x q)) (once_from (live_rings d) (quarantined_of d) x e)

  quarantine_distinct : distinct (quarantined_of d) ≡ true
  unfolding quarantined_of
  quarantine_distinct = differ_distinct (quarantined_of d) s.quarantine

  once_apart : distinct (each_once (live_rings d) (quarantined_of d)) ≡ true
  unfolding each_once
  once_apart =
      distinct_append (live_rings d) (not_among (live_rings d) (quarantined_of d)) live_distinct
      (not_among_distinct (live_rings d) (quarantined_of d) quarantine_distinct)
      (λ x h. false_if _ (λ g. not_both (elem x (live_rings d)) h (not_among_from (live_rings d) (quarantined_of d) x g).1))

  rings_ok_now : rings_sound d ≡ true
  unfolding rings_sound
  rings_ok_now =
      rings_make d.usable (live_rings d) (quarantined_of d)
      (record {
        few = at_most_at 61 (InUse d) (each_once (live_rings d) (quarantined_of d)) s.together once_apart elem_in_use;
        live_ok = rings_ok_each (live_rings d) (λ x e. ring_made x (s.rings x (inl (elem_live d x e))));
        live_distinct = live_distinct;
        ok = rings_ok_each (quarantined_of d) (λ x e. ring_made x (s.rings x (inr (elem_quarantined d x e))));
        apart = quarantine_distinct;
        free = λ u. none_elem (quarantined_of d) (λ x e. s.clear u x (elem_quarantined d x e));
      })

  given_fits : given_ok (given_of d) ≡ true
  unfolding given_of
  given_fits = rings_fit_made (given_of d) s.given

  store_ok : store_sound d ≡ true
  unfolding store_sound
  store_ok =
      store_make (given_of d) (live_rings d) (quarantined_of d)
      (record {
        fit = given_fits;
        live_given = λ x e. given_elem d x (s.from_given x (inl (elem_live d x e)));
        kept_given = λ x e. given_elem d x (s.from_given x (inr (elem_quarantined d x e)));
      })

  sound_made : sound d ≡ true
  unfolding sound
  sound_made = rw (slot_ok, counts_ok, lists_ok, rings_ok_now, store_ok)

pub sound_tells : SoundTells
sound_tells d = (sound_read d, sound_made d)
