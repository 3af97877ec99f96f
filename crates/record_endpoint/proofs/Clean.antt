-- Endpoint maps that say nothing where there is no endpoint, and the way from them to arrays and back.
use Prim.Native.Nat.{ℕ, zero, suc, ◌+◌, ◌-◌, ◌≤◌, ◌<◌}
use mathlib.Core.Path.{◌≡◌, refl, sym, ap, ◌∙◌}
use mathlib.Core.Logic.{inl, inr}
use mathlib.Core.Bool.{Bool, true, false, not, cond, ◌&&◌}
use mathlib.Core.List.{List, [], ◌∷◌, ◌++◌, append-nil}
use native.Mathlib.Decide.{dec_lt}
use native.Mathlib.Omega.{arith}
use native.Mathlib.Numerals.{add-one}
use borrow.Author.Tests.{eq-eqb, ne_eqb, eqb-true, eqb-false, lt-ltb, ltb-true, not-true}
use lib.Dec.{eqb, ltb}
use lib.ListN.{length, get_or, set, take, drop, replicate, length-take, get_or-eq_default, length-append, length-replicate, get_or-replicate}
use lib.Seq.{take-suc, take_all, append_snoc, set_at, get_or-set_same, get_or-set_other, length-take-le, get_or-take}
use Rattle.std.proofs.lemmas.List.{drop-take}
use Rattle.laws.proofs.Tests.{and_left, and_right, not_both}
use Rattle.laws.proofs.Cases.{Decided, decided}
use Rattle.laws.specs.Distinct.{elem}
use Rattle.laws.proofs.Distinct.{elem_at}
use Rattle.record_endpoint.proofs.Laws.{no_place_low, place_address, place_same, address_rises, claimed_whole, claimed_ring_lem, claimed_owner_lem, claimed_active_lem, active_length, active_other}
use Rattle.record_endpoint.proofs.Steps.{get_d_set, whole_none, whole_entry, addresses_at, addresses_length, take_filled}
use Rattle.record_endpoint.specs.Order.{address_at, place_of}
use Rattle.record_endpoint.specs.Endpoint.{blank, addresses, addresses_fit, padded}
use Rattle.record_endpoint.specs.EndpointMap.{Whole, no_endpoints, with_endpoint, is_active, handle_of, endpoint_map_from, endpoint_map_of, gathered, endpoint_at, endpoints_of, owners_of, is_owned, claimed_ring, claimed_owner, claimed_active, claimed_endpoints, with_active, EndpointsAs}
use Rattle.record_endpoint.specs.declared.entry.Endpoint.{Endpoint}
use Rattle.record_endpoint.specs.declared.entry.Endpoints.{Endpoints}
use Rattle.record_endpoint.specs.declared.endpoint_map.EndpointMap.{EndpointMap}
use Rattle.record_endpoint.specs.declared.endpoint_map.Owner.{Owner}
use Rattle.record_endpoint.specs.declared.endpoint_map.Owner.TheVariants.{Interface}

-- An entry for each place; one without a ring has no owner and is not active.
pub record CleanMap (c : EndpointMap) : Type 0 where
  pub whole : Whole c
  pub owner : (p : ℕ) → p < 30 → get_or c.rings p 0 ≡ 0 → get_or c.owners p 0 ≡ 0
  pub active : (p : ℕ) → p < 30 → get_or c.rings p 0 ≡ 0 → get_or c.active p false ≡ false

-- No endpoints are clean.
pub clean_none : CleanMap no_endpoints
unfolding no_endpoints
clean_none =
    record {
      whole = whole_none;
      owner = λ p h z. get_or-replicate 30 p 0 0 h;
      active = λ p h z. get_or-replicate 30 p false false h;
    }

claimed_gone :
    {A : Type 0} (pending ring : ℕ) (owned : Bool) (none was new : A) →
    cond (eqb pending 0) (cond owned 0 ring) pending ≡ 0 → (ring ≡ 0 → was ≡ none) →
    cond (eqb pending 0) (cond owned none was) new ≡ none
claimed_gone {A = A} pending ring owned none was new z f = go (decided (eqb pending 0)) owned z
  where
    go :
        Decided (eqb pending 0) → (o : Bool) → cond (eqb pending 0) (cond o 0 ring) pending ≡ 0 →
        cond (eqb pending 0) (cond o none was) new ≡ none
    go (inl e) true s = rw e
    go (inl e) false s = rw e (f (rw e at s))
    go (inr e) o s = absurd (eqb-false pending 0 e (rw e at s))

-- A claim keeps a map clean.
pub clean_claimed : (i : ℕ) (pending : List ℕ) (c : EndpointMap) → CleanMap c → CleanMap (claimed_endpoints i pending c)
unfolding claimed_ring claimed_owner claimed_active
clean_claimed i pending c clean =
    record {
      whole = claimed_whole i pending c;
      owner = λ p h z. claimed_owner_lem i pending c p h ∙ claimed_gone (get_or pending p 0) (get_or c.rings p 0) (is_owned (Interface i) c p) 0 _ i (sym (claimed_ring_lem i pending c p h) ∙ z) (clean.owner p h);
      active = λ p h z. claimed_active_lem i pending c p h ∙ claimed_gone (get_or pending p 0) (get_or c.rings p 0) (is_owned (Interface i) c p) false _ true (sym (claimed_ring_lem i pending c p h) ∙ z) (clean.active p h);
    }

-- Activity keeps a map clean.
pub clean_active : (who : Owner) (n : ℕ) (c : EndpointMap) → CleanMap c → CleanMap (with_active who n c)
unfolding with_active is_owned
clean_active who n c clean =
    record {
      whole = record { rings = clean.whole.rings; owners = clean.whole.owners; active = active_length who c n };
      owner = clean.owner;
      active = λ p h z. active_other who c p h n (rw (eq-eqb (get_or c.rings p 0) 0 z)) ∙ clean.active p h z;
    }

-- An endpoint with a ring keeps a map clean.
clean_entry :
    (c : EndpointMap) (place ring owner : ℕ) (on : Bool) → CleanMap c → (ring ≡ 0 → ⊥) →
    CleanMap (with_endpoint c place ring owner on)
unfolding with_endpoint
clean_entry c place ring owner on clean r =
    record {
      whole = whole_entry c place ring owner on clean.whole;
      owner = λ p h z. get_d_set c.owners place p owner 0 (rw clean.whole.owners h) ∙ kept p h z owner (get_or c.owners p 0) 0 (clean.owner p h);
      active = λ p h z. get_d_set c.active place p on false (rw clean.whole.active h) ∙ kept p h z on (get_or c.active p false) false (clean.active p h);
    }
  where
    kept :
        {A : Type 0} (p : ℕ) → p < 30 → get_or (set c.rings place ring) p 0 ≡ 0 → (new was none : A) →
        (get_or c.rings p 0 ≡ 0 → was ≡ none) → cond (eqb place p) new was ≡ none
    kept {A = A} p h z new was none f =
        go (decided (eqb place p)) (sym (get_d_set c.rings place p ring 0 (rw clean.whole.rings h)) ∙ z)
      where
        go :
            Decided (eqb place p) → cond (eqb place p) ring (get_or c.rings p 0) ≡ 0 → cond (eqb place p) new was ≡ none
        go (inl e) s = absurd (r (rw e at s))
        go (inr e) s = rw e (f (rw e at s))

second : {A : Type 0} (l : List A) (i : ℕ) (d : A) → get_or l (suc i) d ≡ get_or (drop 1 l) i d
second [] i d = refl
second (x ∷ l) i d = refl

clean_from :
    (n : ℕ) (eps : List Endpoint) (owners : List ℕ) (c : EndpointMap) → CleanMap c →
    ((k : ℕ) → k < n → (get_or eps k blank).ring ≡ 0 → ⊥) → CleanMap (endpoint_map_from n eps owners c)
unfolding endpoint_map_from
clean_from zero eps owners c clean h = clean
clean_from (suc n) eps owners c clean h =
    clean_from n (drop 1 eps) (drop 1 owners) _ (clean_entry c _ _ _ _ clean (h 0 (omega arith)))
    (λ k l z. h (suc k) (omega arith) (rw (second eps k blank) z))

-- The map of endpoints with rings are clean.
pub clean_of :
    (n : ℕ) (eps : List Endpoint) (owners : List ℕ) → ((k : ℕ) → k < n → (get_or eps k blank).ring ≡ 0 → ⊥) →
    CleanMap (endpoint_map_of n eps owners)
unfolding endpoint_map_of
clean_of n eps owners h = clean_from n eps owners no_endpoints clean_none h

-- The first n of two arrays have the map that the arrays have.
rest_taken : {A : Type 0} (n : ℕ) (l : List A) → drop 1 (take (suc n) l) ≡ take n (drop 1 l)
rest_taken n l = let e : 1 + n ≡ suc n = omega arith in rw e at (drop-take 1 n l)

first_taken : {A : Type 0} (n : ℕ) (l : List A) (d : A) → get_or (take (suc n) l) 0 d ≡ get_or l 0 d
first_taken n l d = get_or-take (suc n) l 0 d (omega arith)

front_from :
    (n : ℕ) (eps : List Endpoint) (owners : List ℕ) (c : EndpointMap) →
    endpoint_map_from n (take n eps) (take n owners) c ≡ endpoint_map_from n eps owners c
unfolding endpoint_map_from
front_from zero eps owners c = refl
front_from (suc n) eps owners c =
    rw (rest_taken n eps, rest_taken n owners, first_taken n eps blank, first_taken n owners 0) (front_from n (drop 1 eps) (drop 1 owners) _)

pub front_of :
    (n : ℕ) (eps : List Endpoint) (owners : List ℕ) → n ≤ length eps →
    endpoint_map_of (length (take n eps)) (take n eps) (take n owners) ≡ endpoint_map_of n eps owners
unfolding endpoint_map_of
front_of n eps owners h = rw (length-take-le n eps h) (front_from n eps owners no_endpoints)

-- To arrays and back.

-- An array has its length.
pub padded_length : {A : Type 0} (n : ℕ) (b : A) (l : List A) → length l ≤ n → length (padded n b l) ≡ n
unfolding padded
padded_length n b l h = simp (length-append, length-replicate) (omega arith)

more_taken :
    {A : Type 0} (l : List A) (z : A) (a m : ℕ) → a < length l →
    take (a + 1) l ++ replicate m z ≡ take a l ++ (get_or l a z ∷ replicate m z)
more_taken l z a m h = rw (add-one a, take-suc l a z h, append_snoc)

put_taken :
    {A : Type 0} (l : List A) (z : A) (a m : ℕ) → a < length l →
    set (take a l ++ (z ∷ replicate m z)) a (get_or l a z) ≡ take (a + 1) l ++ replicate m z
put_taken l z a m h =
    set_at (take a l) z (replicate m z) (get_or l a z) a (length-take-le a l (omega arith)) ∙ sym (more_taken l z a m h)

-- The map of the first a places.
front : ℕ → EndpointMap → EndpointMap
front a c =
    record {
      rings = take a c.rings ++ replicate (30 - a) 0;
      owners = take a c.owners ++ replicate (30 - a) 0;
      active = take a c.active ++ replicate (30 - a) false;
    }

handle_back : (b : Bool) → is_active (handle_of b) ≡ b
unfolding is_active handle_of
handle_back true = refl
handle_back false = refl

module _ (c : EndpointMap) (clean : CleanMap c) where
  front_put :
      (a : ℕ) → a < 30 →
      with_endpoint (front a c) a (get_or c.rings a 0) (get_or c.owners a 0) (get_or c.active a false) ≡ front (a + 1) c
  unfolding front with_endpoint
  front_put a h =
      let m = 30 - (a + 1) in
      let e : 30 - a ≡ suc m = omega arith in
      let w : Whole c = clean.whole in
      rw (
        e,
        put_taken c.rings 0 a m (omega arith),
        put_taken c.owners 0 a m (omega arith),
        put_taken c.active false a m (omega arith),
      )

  front_skip : (a : ℕ) → a < 30 → get_or c.rings a 0 ≡ 0 → front a c ≡ front (a + 1) c
  unfolding front
  front_skip a h z =
      let m = 30 - (a + 1) in
      let e : 30 - a ≡ suc m = omega arith in
      let w : Whole c = clean.whole in
      rw (
        e,
        more_taken c.rings 0 a m (omega arith),
        more_taken c.owners 0 a m (omega arith),
        more_taken c.active false a m (omega arith),
        z,
        clean.owner a h z,
        clean.active a h z,
      )

  front_none : front 0 c ≡ no_endpoints
  unfolding front no_endpoints
  front_none = refl

  front_all : front 30 c ≡ c
  unfolding front
  front_all =
      let w : Whole c = clean.whole in
      rw (
        append-nil (take 30 c.rings),
        append-nil (take 30 c.owners),
        append-nil (take 30 c.active),
        take_all 30 c.rings (omega arith),
        take_all 30 c.owners (omega arith),
        take_all 30 c.active (omega arith),
      )

  owner_at : ℕ → ℕ
  owner_at p = get_or c.owners p 0

  entry_back :
      (a : ℕ) → a < 30 →
      with_endpoint (front a c) (place_of (endpoint_at c a).address) (endpoint_at c a).ring (owner_at a) (is_active (endpoint_at c a).handle) ≡ front (a + 1) c
  unfolding endpoint_at owner_at
  entry_back a h = rw (place_address a h, handle_back (get_or c.active a false)) (front_put a h)

  back_from :
      (k a : ℕ) (xs : List Endpoint) (ys : List ℕ) → a + k ≡ 30 →
      endpoint_map_from (length (gathered (endpoint_at c) c.rings k a)) (gathered (endpoint_at c) c.rings k a ++ xs) (gathered owner_at c.rings k a ++ ys) (front a c)
      ≡ front 30 c
  unfolding gathered endpoint_map_from
  back_from zero a xs ys h = let e : a ≡ 30 = omega arith in ap (λ (b : ℕ). front b c) e
  back_from (suc k) a xs ys h =
      go (eqb (get_or c.rings a 0) 0) refl (gathered (endpoint_at c) c.rings k (a + 1)) (gathered owner_at c.rings k (a + 1))
      (back_from k (a + 1) xs ys (omega arith))
    where
      go :
          (t : Bool) → eqb (get_or c.rings a 0) 0 ≡ t → (es : List Endpoint) (os : List ℕ) →
          endpoint_map_from (length es) (es ++ xs) (os ++ ys) (front (a + 1) c) ≡ front 30 c →
          endpoint_map_from (length (cond t es (endpoint_at c a ∷ es))) (cond t es (endpoint_at c a ∷ es) ++ xs) (cond t os (owner_at a ∷ os) ++ ys) (front a c)
          ≡ front 30 c
      go true e es os f = rw (front_skip a (omega arith) (eqb-true (get_or c.rings a 0) 0 e)) f
      go false e es os f = ap (endpoint_map_from (length es) (es ++ xs) (os ++ ys)) (entry_back a (omega arith)) ∙ f

  -- A clean map comes back from its arrays.
  pub map_back : endpoint_map_of (length (endpoints_of c)) (padded 30 blank (endpoints_of c)) (padded 30 0 (owners_of c)) ≡ c
  unfolding endpoint_map_of endpoints_of owners_of padded owner_at
  map_back =
      rw (← front_none)
      (back_from 30 0 (replicate (30 - length (endpoints_of c)) blank) (replicate (30 - length (owners_of c)) 0) refl)
      ∙ front_all

  -- And so from what `endpoints_of` gives.
  pub endpoints_back : (r : Endpoints) → EndpointsAs r c → endpoint_map_of r.count r.eps r.owners ≡ c
  endpoints_back r a = rw (a.eps, a.owners, a.count) map_back

-- The addresses of the arrays.
module _ (c : EndpointMap) where
  elem_outside :
      (x k a : ℕ) → ((p : ℕ) → a ≤ p → x ≡ address_at p → ⊥) →
      elem x (addresses (gathered (endpoint_at c) c.rings k a)) ≡ false
  unfolding gathered addresses elem endpoint_at
  elem_outside x zero a h = refl
  elem_outside x (suc k) a h =
      go (eqb (get_or c.rings a 0) 0) (gathered (endpoint_at c) c.rings k (a + 1))
      (elem_outside x k (a + 1) (λ p l. h p (omega arith)))
    where
      go :
          (t : Bool) (l : List Endpoint) → elem x (addresses l) ≡ false →
          elem x (addresses (cond t l (endpoint_at c a ∷ l))) ≡ false
      go true l e = e
      go false l e = rw (ne_eqb x (address_at a) (h a (omega arith)), e)

  fit_from : (k a : ℕ) → a + k ≤ 30 → addresses_fit (addresses (gathered (endpoint_at c) c.rings k a)) ≡ true
  unfolding gathered addresses addresses_fit endpoint_at
  fit_from zero a h = refl
  fit_from (suc k) a h =
      go (eqb (get_or c.rings a 0) 0) (gathered (endpoint_at c) c.rings k (a + 1)) (fit_from k (a + 1) (omega arith))
      (elem_outside (address_at a) k (a + 1) (λ p l e. omega (arith, address_rises a p (omega arith))))
    where
      go :
          (t : Bool) (l : List Endpoint) → addresses_fit (addresses l) ≡ true → elem (address_at a) (addresses l) ≡ false →
          addresses_fit (addresses (cond t l (endpoint_at c a ∷ l))) ≡ true
      go true l e f = e
      go false l e f = rw (place_address a (omega arith), lt-ltb a 30 (omega arith), f, e)

  -- They have places and do not repeat.
  pub endpoints_fit : addresses_fit (addresses (endpoints_of c)) ≡ true
  unfolding endpoints_of
  endpoints_fit = fit_from 30 0 (omega arith)

  -- And so for what `endpoints_of` gives.
  pub endpoints_as_fit : (r : Endpoints) → EndpointsAs r c → addresses_fit (addresses (take r.count r.eps)) ≡ true
  endpoints_as_fit r a = rw (take_filled 30 blank r.eps r.count (endpoints_of c) a.eps a.count) endpoints_fit

-- What a map holds at a place.
pub record EntryIs (c : EndpointMap) (p ring owner : ℕ) (on : Bool) : Type 0 where
  pub rings : get_or c.rings p 0 ≡ ring
  pub owners : get_or c.owners p 0 ≡ owner
  pub active : get_or c.active p false ≡ on

entry_other :
    (c : EndpointMap) (place r o : ℕ) (b : Bool) (p ring owner : ℕ) (on : Bool) → (place ≡ p → ⊥) → EntryIs c p ring owner on →
    EntryIs (with_endpoint c place r o b) p ring owner on
unfolding with_endpoint
entry_other c place r o b p ring owner on n i =
    record {
      rings = get_or-set_other c.rings place p r 0 (λ e. n (sym e)) ∙ i.rings;
      owners = get_or-set_other c.owners place p o 0 (λ e. n (sym e)) ∙ i.owners;
      active = get_or-set_other c.active place p b false (λ e. n (sym e)) ∙ i.active;
    }

entry_same : (c : EndpointMap) (p r o : ℕ) (b : Bool) → Whole c → p < 30 → EntryIs (with_endpoint c p r o b) p r o b
unfolding with_endpoint
entry_same c p r o b w h =
    record {
      rings = get_or-set_same c.rings p r 0 (rw w.rings h);
      owners = get_or-set_same c.owners p o 0 (rw w.owners h);
      active = get_or-set_same c.active p b false (rw w.active h);
    }

map_kept :
    (n : ℕ) (eps : List Endpoint) (owners : List ℕ) (c : EndpointMap) (p ring owner : ℕ) (on : Bool) →
    ((k : ℕ) → k < n → place_of (get_or eps k blank).address ≡ p → ⊥) → EntryIs c p ring owner on →
    EntryIs (endpoint_map_from n eps owners c) p ring owner on
unfolding endpoint_map_from
map_kept zero eps owners c p ring owner on h i = i
map_kept (suc n) eps owners c p ring owner on h i =
    map_kept n (drop 1 eps) (drop 1 owners) _ p ring owner on
    (λ k l e. h (suc k) (omega arith) (rw (second eps k blank) e))
    (entry_other c _ _ _ _ p ring owner on (h 0 (omega arith)) i)

-- A place that is none of the endpoints' has none.
pub map_none :
    (n : ℕ) (eps : List Endpoint) (owners : List ℕ) (p : ℕ) → p < 30 →
    ((k : ℕ) → k < n → place_of (get_or eps k blank).address ≡ p → ⊥) → EntryIs (endpoint_map_of n eps owners) p 0 0 false
unfolding endpoint_map_of no_endpoints
map_none n eps owners p h f =
    map_kept n eps owners no_endpoints p 0 0 false f
    (record { rings = get_or-replicate 30 p 0 0 h; owners = get_or-replicate 30 p 0 0 h; active = get_or-replicate 30 p false false h })

-- What fitting addresses tell of the first one and of the rest.
pub fit_cons :
    (a : ℕ) (rest : List ℕ) → addresses_fit (a ∷ rest) ≡ true →
    (place_of a < 30) × (elem a rest ≡ false) × (addresses_fit rest ≡ true)
unfolding addresses_fit
fit_cons a rest e =
    let one = ltb (place_of a) 30 in
    let two = not (elem a rest) in
    let both : (one && two) ≡ true = and_left (one && two) (addresses_fit rest) e in (
      ltb-true (place_of a) 30 (and_left one two both),
      not-true (elem a rest) (and_right one two both),
      and_right (one && two) (addresses_fit rest) e,
    )

-- An address that is not among the first n has another place than they.
apart :
    (eps : List Endpoint) (n a : ℕ) → place_of a < 30 → elem a (addresses (take n eps)) ≡ false →
    (k : ℕ) → k < n → place_of (get_or eps k blank).address ≡ place_of a → ⊥
apart eps n a h e k l s = go (dec_lt k (length eps))
  where
    go : Dec (k < length eps) → ⊥
    go (yes g) =
        let l' : k < length (addresses (take n eps)) = rw (addresses_length (take n eps), length-take n eps) (omega arith) in
        let at : get_or (addresses (take n eps)) k 0 ≡ (get_or eps k blank).address = addresses_at (take n eps) k ∙ rw (get_or-take n eps k blank l) in
        let same : a ≡ (get_or eps k blank).address = place_same a (get_or eps k blank).address h (sym s) in
        not_both (elem a (addresses (take n eps))) (rw (same, ← at) (elem_at (addresses (take n eps)) k l')) e
    go (no g) =
        let z : get_or eps k blank ≡ blank = get_or-eq_default eps blank (omega arith) in
        let t : place_of (get_or eps k blank).address ≡ 30 = rw z (no_place_low 0 (omega arith)) in
        omega arith

map_from :
    (n : ℕ) (eps : List Endpoint) (owners : List ℕ) (c : EndpointMap) (k : ℕ) → Whole c →
    addresses_fit (addresses (take n eps)) ≡ true → k < n → k < length eps →
    EntryIs (endpoint_map_from n eps owners c) (place_of (get_or eps k blank).address) (get_or eps k blank).ring (get_or owners k 0) (is_active (get_or eps k blank).handle)
unfolding endpoint_map_from addresses
map_from zero eps owners c k w f h r = absurd (omega arith)
map_from (suc n) [] owners c k w f h r = absurd (omega arith)
map_from (suc n) (e ∷ eps) owners c zero w f h r =
    let t = fit_cons e.address (addresses (take n eps)) f in
    map_kept n eps (drop 1 owners) _ (place_of e.address) e.ring (get_or owners 0 0) (is_active e.handle)
    (apart eps n e.address t.0 t.1)
    (entry_same c (place_of e.address) e.ring (get_or owners 0 0) (is_active e.handle) w t.0)
map_from (suc n) (e ∷ eps) owners c (suc k) w f h r =
    let t = fit_cons e.address (addresses (take n eps)) f in
    rw (second owners k 0)
    (map_from n eps (drop 1 owners) _ k (whole_entry c _ _ _ _ w) t.2 (omega arith) (omega arith))

-- Each endpoint of arrays whose addresses fit is at its place, with its ring, its owner and its handle.
pub map_at :
    (n : ℕ) (eps : List Endpoint) (owners : List ℕ) (k : ℕ) →
    addresses_fit (addresses (take n eps)) ≡ true → k < n → k < length eps →
    EntryIs (endpoint_map_of n eps owners) (place_of (get_or eps k blank).address) (get_or eps k blank).ring (get_or owners k 0) (is_active (get_or eps k blank).handle)
unfolding endpoint_map_of
map_at n eps owners k f h r = map_from n eps owners no_endpoints k whole_none f h r
