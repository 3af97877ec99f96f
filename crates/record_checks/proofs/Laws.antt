-- The rings of a record, by place.
use Prim.Native.Nat.{ℕ, zero, suc, ◌+◌, ◌≤◌, ◌<◌}
use mathlib.Core.Path.{◌≡◌, refl, sym, ap, ◌∙◌}
use mathlib.Core.Logic.{◌⊎◌, inl, inr, ⊎_elim}
use mathlib.Core.Bool.{Bool, true, false, cond, ◌||◌}
use mathlib.Core.List.{List, [], ◌∷◌, ◌++◌}
use native.Mathlib.Decide.{dec_lt}
use native.Mathlib.Omega.{arith}
use borrow.Author.Tests.{eqb-true, eqb-false}
use lib.Dec.{eqb}
use lib.ListN.{length, get_or, set, take, drop, replicate, length-append, length-set, length-take, get_or-eq_default, get_or-replicate}
use lib.Seq.{get_or-take, get_or-set_same, get_or-set_other, set_out, take-nil}
use Rattle.laws.proofs.Tests.{and-true, not_both}
use Rattle.laws.proofs.Cases.{Decided, decided, false_if, or_right}
use Rattle.laws.specs.Distinct.{elem, distinct}
use Rattle.laws.proofs.Distinct.{elem_none, elem_here, elem_there, elem_cases, elem_at, elem_place, elem_append, distinct_first, distinct_rest, distinct_cons, distinct_place, distinct_append}
use Rattle.descriptor.specs.Word.{endpoint_descriptor}
use Rattle.record_ring.specs.Rings.{ring_ok, rings_ok}
use Rattle.record_ring.specs.Store.{free_rings}
use Rattle.record_ring.proofs.Sorted.{not_among_alike}
use Rattle.record_ring.proofs.Laws.{ring_at, ring_nonzero, disjoint_elem, Offered}
use Rattle.record_ring.proofs.Entered.{rings_ok_append, not_among_short}
use Rattle.transfer.specs.Routes.{Queue}
use Rattle.record_endpoint.specs.declared.entry.Endpoint.{Endpoint}
use Rattle.record_endpoint.specs.declared.endpoint_map.EndpointMap.{EndpointMap}
use Rattle.record_endpoint.specs.declared.endpoint_map.Owner.TheVariants.{Interface}
use Rattle.record_endpoint.specs.Order.{place_of, dci_at}
use Rattle.record_endpoint.specs.Endpoint.{blank, addresses, rings_of, addresses_fit}
use Rattle.record_endpoint.specs.EndpointMap.{Whole, no_endpoints, with_endpoint, is_active, endpoint_map_from, endpoint_map_of, gathered, endpoint_at, endpoints_of, is_owned, pending_from, pending_rings, claimed_ring, claimed_endpoints, queues_of, queue_rings}
use Rattle.record_endpoint.proofs.Laws.{no_place_low, claimed_ring_lem}
use Rattle.record_endpoint.proofs.Clean.{CleanMap, clean_none, clean_of, map_none, map_at}
use Rattle.record_checks.specs.Rings.{each_once}
use Rattle.record_checks.proofs.Together.{SoundRings, rings_ok_elem, rings_ok_left, distinct_left}
use Rattle.record_checks.proofs.Steps.{rings_length}

-- Rings by place: each a nonzero multiple of 16, no two the same, none of them control's, each of them given.
pub record Apart (rings : List ℕ) (control : ℕ) (given : List ℕ) : Type 0 where
  pub ok : (p : ℕ) → p < 30 → (get_or rings p 0 ≡ 0 → ⊥) → ring_ok (get_or rings p 0) ≡ true
  pub different : (p q : ℕ) → p < 30 → q < 30 → (get_or rings p 0 ≡ 0 → ⊥) → get_or rings p 0 ≡ get_or rings q 0 → p ≡ q
  pub other : (p : ℕ) → p < 30 → (get_or rings p 0 ≡ 0 → ⊥) → get_or rings p 0 ≡ control → ⊥
  pub from_given : (p : ℕ) → p < 30 → (get_or rings p 0 ≡ 0 → ⊥) → elem (get_or rings p 0) given ≡ true

-- No place of one list has the ring of a place of another.
abbrev pub Disjoint : List ℕ → List ℕ → Type 0
Disjoint rings by = (p q : ℕ) → p < 30 → q < 30 → (get_or rings p 0 ≡ 0 → ⊥) → get_or rings p 0 ≡ get_or by q 0 → ⊥

-- What a list reads as is in it, but for 0.
elem_nonzero : (l : List ℕ) (k x : ℕ) → get_or l k 0 ≡ x → (x ≡ 0 → ⊥) → elem x l ≡ true
elem_nonzero [] k x e z = absurd (z (sym e))
elem_nonzero (y ∷ l) zero x e z = rw (← e) (elem_here y l)
elem_nonzero (y ∷ l) (suc k) x e z = elem_there x y l (elem_nonzero l k x e z)

same_if : (a b : Bool) → (a ≡ true → b ≡ true) → (b ≡ true → a ≡ true) → a ≡ b
same_if true b f g = sym (f refl)
same_if false true f g = g refl
same_if false false f g = refl

-- Endpoints of arrays.

rings_at : (es : List Endpoint) (k : ℕ) → get_or (rings_of es) k 0 ≡ (get_or es k blank).ring
unfolding rings_of
rings_at [] k = refl
rings_at (e ∷ es) zero = refl
rings_at (e ∷ es) (suc k) = rings_at es k

-- Past the end of an array there is no place.
place_blank : (eps : List Endpoint) (k : ℕ) → length eps ≤ k → place_of (get_or eps k blank).address ≡ 30
place_blank eps k h = rw (get_or-eq_default eps blank h) (no_place_low 0 (omega arith))

whole_entry : (c : EndpointMap) (place ring owner : ℕ) (on : Bool) → Whole c → Whole (with_endpoint c place ring owner on)
unfolding with_endpoint
whole_entry c place ring owner on w =
    record {
      rings = length-set c.rings place ring ∙ w.rings;
      owners = length-set c.owners place owner ∙ w.owners;
      active = length-set c.active place on ∙ w.active;
    }

entry_out : (c : EndpointMap) (ring owner : ℕ) (on : Bool) → Whole c → with_endpoint c 30 ring owner on ≡ c
unfolding with_endpoint
entry_out c ring owner on w =
    rw (
      set_out c.rings 30 ring (omega (arith, w.rings)),
      set_out c.owners 30 owner (omega (arith, w.owners)),
      set_out c.active 30 on (omega (arith, w.active)),
    )

-- Endpoints past the end of the arrays say nothing.
map_short :
    (n : ℕ) (eps : List Endpoint) (owners : List ℕ) (c : EndpointMap) → Whole c →
    endpoint_map_from n eps owners c ≡ endpoint_map_from (length (take n eps)) eps owners c
unfolding endpoint_map_from
map_short zero eps owners c w = refl
map_short (suc n) [] owners c w =
    rw (no_place_low 0 (omega arith), entry_out c 0 (get_or owners 0 0) (is_active blank.handle) w)
    (map_short n [] (drop 1 owners) c w ∙ rw (take-nil n))
map_short (suc n) (e ∷ eps) owners c w =
    map_short n eps (drop 1 owners) _ (whole_entry c _ _ _ _ w)

-- Either one of n numbers is p, or none is.
one_of : (f : ℕ → ℕ) (p n : ℕ) → ((k : ℕ) × (k < n) × (f k ≡ p)) ⊎ ((k : ℕ) → k < n → f k ≡ p → ⊥)
one_of f p zero = inr (λ k h e. omega arith)
one_of f p (suc n) = go (decided (eqb (f n) p)) (one_of f p n)
  where
    go :
        Decided (eqb (f n) p) → ((k : ℕ) × (k < n) × (f k ≡ p)) ⊎ ((k : ℕ) → k < n → f k ≡ p → ⊥) →
        ((k : ℕ) × (k < suc n) × (f k ≡ p)) ⊎ ((k : ℕ) → k < suc n → f k ≡ p → ⊥)
    go (inl e) r = inl (n, omega arith, eqb-true (f n) p e)
    go (inr e) (inl t) = inl (t.0, omega (arith, t.1), t.2)
    go (inr e) (inr g) = inr (λ k h q. last k q (dec_lt k n) h)
      where
        last : (k : ℕ) → f k ≡ p → Dec (k < n) → k < suc n → ⊥
        last k q (yes l) h = g k l q
        last k q (no l) h = let s : n ≡ k = omega arith in eqb-false (f n) p e (rw s q)

distinct_apart : (l m : List ℕ) → distinct (l ++ m) ≡ true → (x : ℕ) → elem x l ≡ true → elem x m ≡ true → ⊥
distinct_apart [] m e x h g = elem_none x h
distinct_apart (y ∷ l) m e x h g =
    go (elem_cases x y l h) (λ s. distinct_apart l m (distinct_rest y (l ++ m) e) x s g)
  where
    go : (x ≡ y) ⊎ (elem x l ≡ true) → (elem x l ≡ true → ⊥) → ⊥
    go (inl s) f =
        not_both (elem y (l ++ m)) (rw (elem_append y l m, ← s, g) (or_right (elem x l) true refl)) (distinct_first y (l ++ m) e)
    go (inr s) f = f s

-- Rings by place as a list, by rising address.
module _ (rings : List ℕ) where
  placed_from : ℕ → ℕ → List ℕ
  placed_from k a = gathered (λ p. get_or rings p 0) rings k a

  -- Where a ring of the list stands.
  record Placed (k a x : ℕ) : Type 0 where
    pub at : ℕ
    pub low : a ≤ at
    pub high : at < a + k
    pub nonzero : get_or rings at 0 ≡ 0 → ⊥
    pub same : x ≡ get_or rings at 0

  placed_next :
      (k a : ℕ) → placed_from (suc k) a ≡ cond (eqb (get_or rings a 0) 0) (placed_from k (a + 1)) (get_or rings a 0 ∷ placed_from k (a + 1))
  unfolding placed_from gathered
  placed_next k a = refl

  placed_last : (a : ℕ) → placed_from zero a ≡ []
  unfolding placed_from gathered
  placed_last a = refl

  later : (k a x : ℕ) → Placed k (a + 1) x → Placed (suc k) a x
  later k a x t =
      record { at = t.at; low = omega (arith, t.low); high = omega (arith, t.high); nonzero = t.nonzero; same = t.same }

  from_elem : (k a x : ℕ) → elem x (placed_from k a) ≡ true → Placed k a x
  from_elem zero a x h = elem_none x (rw (placed_last a) at h)
  from_elem (suc k) a x h =
      go (decided (eqb (get_or rings a 0) 0)) (from_elem k (a + 1) x) (rw (placed_next k a) at h)
    where
      here : eqb (get_or rings a 0) 0 ≡ false → x ≡ get_or rings a 0 → Placed (suc k) a x
      here e s =
          record { at = a; low = omega arith; high = omega arith; nonzero = eqb-false (get_or rings a 0) 0 e; same = s }

      go :
          Decided (eqb (get_or rings a 0) 0) → (elem x (placed_from k (a + 1)) ≡ true → Placed k (a + 1) x) →
          elem x (cond (eqb (get_or rings a 0) 0) (placed_from k (a + 1)) (get_or rings a 0 ∷ placed_from k (a + 1))) ≡ true →
          Placed (suc k) a x
      go (inl e) f g = later k a x (f (rw e at g))
      go (inr e) f g =
          ⊎_elim (λ s. here e s) (λ s. later k a x (f s))
          (elem_cases x (get_or rings a 0) (placed_from k (a + 1)) (rw e at g))

  from_few : (k a : ℕ) → length (placed_from k a) ≤ k
  from_few zero a = rw (placed_last a) (omega arith)
  from_few (suc k) a =
      rw (placed_next k a) (go (eqb (get_or rings a 0) 0) (placed_from k (a + 1)) (from_few k (a + 1)))
    where
      go : (t : Bool) (l : List ℕ) → length l ≤ k → length (cond t l (get_or rings a 0 ∷ l)) ≤ suc k
      go true l h = omega arith
      go false l h = omega arith

  unfoldable pub placed_rings : List ℕ
  placed_rings = gathered (λ p. get_or rings p 0) rings 30 0

  -- There are at most 30.
  pub placed_few : length placed_rings ≤ 30
  unfolding placed_rings placed_from
  placed_few = from_few 30 0

  placed_elem : (x : ℕ) → elem x placed_rings ≡ true → Placed 30 0 x
  unfolding placed_rings placed_from
  placed_elem x h = from_elem 30 0 x h

  module _ (control : ℕ) (given : List ℕ) (apart : Apart rings control given) where
    from_ok : (k a : ℕ) → a + k ≤ 30 → rings_ok (placed_from k a) ≡ true
    unfolding rings_ok
    from_ok zero a h = rw (placed_last a)
    from_ok (suc k) a h =
        rw (placed_next k a) (go (decided (eqb (get_or rings a 0) 0)) (from_ok k (a + 1) (omega arith)))
      where
        go :
            Decided (eqb (get_or rings a 0) 0) → rings_ok (placed_from k (a + 1)) ≡ true →
            rings_ok (cond (eqb (get_or rings a 0) 0) (placed_from k (a + 1)) (get_or rings a 0 ∷ placed_from k (a + 1))) ≡ true
        go (inl e) f = rw e f
        go (inr e) f =
            rw e
            (and-true (ring_ok (get_or rings a 0)) (rings_ok (placed_from k (a + 1)))
            (apart.ok a (omega arith) (eqb-false (get_or rings a 0) 0 e)) f)

    from_distinct : (k a : ℕ) → a + k ≤ 30 → distinct (placed_from k a) ≡ true
    unfolding distinct
    from_distinct zero a h = rw (placed_last a)
    from_distinct (suc k) a h =
        rw (placed_next k a) (go (decided (eqb (get_or rings a 0) 0)) (from_distinct k (a + 1) (omega arith)))
      where
        again : eqb (get_or rings a 0) 0 ≡ false → elem (get_or rings a 0) (placed_from k (a + 1)) ≡ true → ⊥
        again e g =
            let t = from_elem k (a + 1) (get_or rings a 0) g in
            omega (
              arith,
              t.low,
              apart.different a t.at (omega arith) (omega (arith, t.high)) (eqb-false (get_or rings a 0) 0 e) t.same,
            )

        go :
            Decided (eqb (get_or rings a 0) 0) → distinct (placed_from k (a + 1)) ≡ true →
            distinct (cond (eqb (get_or rings a 0) 0) (placed_from k (a + 1)) (get_or rings a 0 ∷ placed_from k (a + 1))) ≡ true
        go (inl e) f = rw e f
        go (inr e) f =
            rw e
            (distinct_cons (get_or rings a 0) (placed_from k (a + 1)) (false_if (elem (get_or rings a 0) (placed_from k (a + 1))) (again e)) f)

    placed_ok : rings_ok placed_rings ≡ true
    unfolding placed_rings placed_from
    placed_ok = from_ok 30 0 (omega arith)

    placed_distinct : distinct placed_rings ≡ true
    unfolding placed_rings placed_from
    placed_distinct = from_distinct 30 0 (omega arith)

    placed_control : (x : ℕ) → elem x placed_rings ≡ true → x ≡ control → ⊥
    placed_control x h e = let t = placed_elem x h in apart.other t.at t.high t.nonzero (sym t.same ∙ e)

    pub placed_given : (x : ℕ) → elem x placed_rings ≡ true → elem x given ≡ true
    placed_given x h = let t = placed_elem x h in rw t.same (apart.from_given t.at t.high t.nonzero)

-- The rings of n endpoints of arrays, with control's.
module _ (n : ℕ) (eps : List Endpoint) (owners : List ℕ) (control : ℕ)
    (rings-ok : rings_ok (rings_of (take n eps) ++ (control ∷ [])) ≡ true) where
  live : List ℕ
  live = rings_of (take n eps)

  live_ok : rings_ok live ≡ true
  unfolding live
  live_ok = rings_ok_left (rings_of (take n eps)) (control ∷ []) rings-ok

  pub control_ok : ring_ok control ≡ true
  control_ok =
      let l = rings_of (take n eps) in
      let m = control ∷ [] in
      rings_ok_elem (l ++ m) rings-ok control
      (rw (elem_append control l m) (or_right (elem control l) (elem control m) (elem_here control [])))

  live_at : (k : ℕ) → k < n → get_or live k 0 ≡ (get_or eps k blank).ring
  unfolding live
  live_at k h = rings_at (take n eps) k ∙ rw (get_or-take n eps k blank h)

  live_length : length live ≡ length (take n eps)
  unfolding live
  live_length = rings_length (take n eps)

  -- Endpoints whose rings are nonzero are clean.
  pub clean_in : CleanMap (endpoint_map_of n eps owners)
  unfolding endpoint_map_of
  clean_in =
      let m = length (take n eps) in
      let few : m ≤ n = omega (arith, length-take n eps) in
      let e : endpoint_map_from n eps owners no_endpoints ≡ endpoint_map_from m eps owners no_endpoints = map_short n eps owners no_endpoints clean_none.whole in
      rw e
      (clean_of m eps owners
      (λ k h z. ring_nonzero (get_or live k 0) (ring_at live live_ok k (omega (arith, live_length))) (live_at k (omega arith) ∙ z)))

  -- Where a nonzero ring of a place stands in the arrays.
  record Stands (p : ℕ) : Type 0 where
    pub at : ℕ
    pub counted : at < n
    pub inside : at < length live
    pub placed : place_of (get_or eps at blank).address ≡ p
    pub same : get_or (endpoint_map_of n eps owners).rings p 0 ≡ get_or live at 0

  module _ (fit : addresses_fit (addresses (take n eps)) ≡ true) where
    stands : (p : ℕ) → p < 30 → (get_or (endpoint_map_of n eps owners).rings p 0 ≡ 0 → ⊥) → Stands p
    stands p h z = go (one_of (λ k. place_of (get_or eps k blank).address) p n)
      where
        found : (k : ℕ) → k < n → place_of (get_or eps k blank).address ≡ p → Dec (k < length eps) → Stands p
        found k l e (yes r) =
            record {
              at = k;
              counted = l;
              inside = omega (arith, live_length, length-take n eps);
              placed = e;
              same =
                  ap (λ q. get_or (endpoint_map_of n eps owners).rings q 0) (sym e)
                  ∙ (map_at n eps owners k fit l r).rings
                  ∙ sym (live_at k l);
            }
        found k l e (no r) = absurd (omega (arith, place_blank eps k (omega arith)))

        go :
            ((k : ℕ) × (k < n) × (place_of (get_or eps k blank).address ≡ p))
            ⊎ ((k : ℕ) → k < n → place_of (get_or eps k blank).address ≡ p → ⊥) → Stands p
        go (inl t) = found t.0 t.1 t.2 (dec_lt t.0 (length eps))
        go (inr f) = absurd (z (map_none n eps owners p h f).rings)

    -- Distinct rings, by place.
    pub apart_in : (given : List ℕ) → distinct (rings_of (take n eps) ++ (control ∷ [])) ≡ true →
        ((x : ℕ) → elem x (rings_of (take n eps)) ≡ true → elem x given ≡ true) → Apart (endpoint_map_of n eps owners).rings control given
    unfolding live
    apart_in given different all =
        let m = control ∷ [] in
        let one : distinct live ≡ true = distinct_left live m different in
        record {
          ok = λ p h z. let t = stands p h z in rw t.same (ring_at live live_ok t.at t.inside);
          different = λ p q h g z e.
              let t = stands p h z in
              let u = stands q g (λ w. z (e ∙ w)) in
              let s : t.at ≡ u.at =
              distinct_place live one t.at u.at t.inside u.inside (sym t.same ∙ e ∙ u.same) in
              sym t.placed ∙ ap (λ k. place_of (get_or eps k blank).address) s ∙ u.placed;
          other = λ p h z e.
              let t = stands p h z in
              distinct_apart live m different control (rw (← e, t.same) (elem_at live t.at t.inside))
              (elem_here control []);
          from_given = λ p h z. let t = stands p h z in rw t.same (all (get_or live t.at 0) (elem_at live t.at t.inside));
        }

    pub ring_live : (p : ℕ) → p < 30 → (get_or (endpoint_map_of n eps owners).rings p 0 ≡ 0 → ⊥) →
        elem (get_or (endpoint_map_of n eps owners).rings p 0) (rings_of (take n eps)) ≡ true
    unfolding live
    ring_live p h z = let t = stands p h z in rw t.same (elem_at live t.at t.inside)

    -- A ring is by place where it is in the arrays.
    pub live_placed : (x : ℕ) → (x ≡ 0 → ⊥) → elem x (endpoint_map_of n eps owners).rings ≡ elem x (rings_of (take n eps))
    unfolding live
    live_placed x nonzero = same_if (elem x (endpoint_map_of n eps owners).rings) (elem x (rings_of (take n eps))) to from
      where
        to : elem x (endpoint_map_of n eps owners).rings ≡ true → elem x (rings_of (take n eps)) ≡ true
        to h =
            let t = elem_place x (endpoint_map_of n eps owners).rings h in
            let p : t.0 < 30 = omega (arith, t.1, clean_in.whole.rings) in
            ap (λ y. elem y (rings_of (take n eps))) (sym t.2) ∙ ring_live t.0 p (λ z. nonzero (sym t.2 ∙ z))

        from : elem x (rings_of (take n eps)) ≡ true → elem x (endpoint_map_of n eps owners).rings ≡ true
        from h =
            let t = elem_place x (rings_of (take n eps)) h in
            let k = t.0 in
            let l : k < n = omega (arith, t.1, rings_length (take n eps), length-take n eps) in
            let r : k < length eps = omega (arith, t.1, rings_length (take n eps), length-take n eps) in
            let p = place_of (get_or eps k blank).address in
            let at : get_or (endpoint_map_of n eps owners).rings p 0 ≡ x = (map_at n eps owners k fit l r).rings ∙ sym (live_at k l) ∙ t.2 in
            elem_nonzero (endpoint_map_of n eps owners).rings p x at nonzero

    -- So the same rings are free.
    pub free_placed : (given : List ℕ) → rings_ok given ≡ true →
        free_rings given (endpoint_map_of n eps owners).rings control [] ≡ free_rings given (rings_of (take n eps)) control []
    unfolding free_rings
    free_placed given ok =
        not_among_alike _ _ given
        (λ x g. elem_append x (endpoint_map_of n eps owners).rings (control ∷ [])
        ∙ ap (λ b. b || elem x (control ∷ [])) (live_placed x (ring_nonzero x (rings_ok_elem given ok x g)))
        ∙ sym (elem_append x (rings_of (take n eps)) (control ∷ [])))

    -- The rings by place are the arrays'.
    pub placed_live : (x : ℕ) → elem x (placed_rings (endpoint_map_of n eps owners).rings) ≡ true → elem x (rings_of (take n eps)) ≡ true
    unfolding live
    placed_live x h =
        let p = placed_elem (endpoint_map_of n eps owners).rings x h in
        let t = stands p.at p.high p.nonzero in
        rw (p.same, t.same) (elem_at live t.at t.inside)

-- Rings drawn for words.

-- The ring at a place is that of a word with that place, or none.
record From (words rings : List ℕ) (p ring : ℕ) : Type 0 where
  pub at : ℕ
  pub inside : at < length words
  pub placed : place_of (endpoint_descriptor (get_or words at 0)).address ≡ p
  pub same : ring ≡ get_or rings at 0

second : (l : List ℕ) (k : ℕ) → get_or (drop 1 l) k 0 ≡ get_or l (suc k) 0
second [] k = refl
second (x ∷ l) k = refl

pending_source :
    (words rings by : List ℕ) (p : ℕ) → p < 30 → length by ≡ 30 →
    (get_or (pending_from words rings by) p 0 ≡ get_or by p 0) ⊎ From words rings p (get_or (pending_from words rings by) p 0)
unfolding pending_from
pending_source [] rings by p h l = inl refl
pending_source (w ∷ ws) rings by p h l =
    go (pending_source ws (drop 1 rings) (set by place (get_or rings 0 0)) p h (length-set by place (get_or rings 0 0) ∙ l))
    (decided (eqb place p))
  where
    place : ℕ
    place = place_of (endpoint_descriptor w).address

    x : ℕ
    x = get_or (pending_from ws (drop 1 rings) (set by place (get_or rings 0 0))) p 0

    go :
        (x ≡ get_or (set by place (get_or rings 0 0)) p 0) ⊎ From ws (drop 1 rings) p x → Decided (eqb place p) →
        (x ≡ get_or by p 0) ⊎ From (w ∷ ws) rings p x
    go (inr t) e =
        inr (record { at = suc t.at; inside = omega (arith, t.inside); placed = t.placed; same = t.same ∙ second rings t.at })
    go (inl s) (inl e) =
        let q : place ≡ p = eqb-true place p e in
        inr
        (record {
          at = 0;
          inside = omega arith;
          placed = q;
          same = s ∙ ap (λ k. get_or (set by k (get_or rings 0 0)) p 0) q ∙ get_or-set_same by p (get_or rings 0 0) 0 (omega arith);
        })
    go (inl s) (inr e) =
        inl (s ∙ get_or-set_other by place p (get_or rings 0 0) 0 (λ q. eqb-false place p e (sym q)))

pending_from_lem : (words rings : List ℕ) (p : ℕ) → p < 30 → (get_or (pending_rings words rings) p 0 ≡ 0 → ⊥) →
    From words rings p (get_or (pending_rings words rings) p 0)
unfolding pending_rings
pending_from_lem words rings p h z = go (pending_source words rings (replicate 30 0) p h refl)
  where
    x : ℕ
    x = get_or (pending_from words rings (replicate 30 0)) p 0

    go : (x ≡ get_or (replicate 30 0) p 0) ⊎ From words rings p x → From words rings p x
    go (inl e) = absurd (z (e ∙ get_or-replicate 30 p 0 0 h))
    go (inr t) = t

-- The rings drawn, by place.
pub apart_offered :
    (words rings live : List ℕ) (control : ℕ) (quarantined given : List ℕ) →
    Offered (length words) rings live control quarantined → ((x : ℕ) → elem x rings ≡ true → elem x given ≡ true) →
    Apart (pending_rings words rings) control given
apart_offered words rings live control quarantined given o all =
    record {
      ok = λ p h z. let t = pending_from_lem words rings p h z in rw t.same (ring_at rings o.ok t.at (inside p t));
      different = λ p q h g z e.
          let t = pending_from_lem words rings p h z in
          let u = pending_from_lem words rings q g (λ w. z (e ∙ w)) in
          let s : t.at ≡ u.at =
          distinct_place rings o.apart t.at u.at (inside p t) (inside q u) (sym t.same ∙ e ∙ u.same) in
          sym t.placed ∙ ap (λ k. place_of (endpoint_descriptor (get_or words k 0)).address) s ∙ u.placed;
      other = λ p h z e.
          let t = pending_from_lem words rings p h z in
          not_both (elem control rings) (rw (← e, t.same) (elem_at rings t.at (inside p t))) o.not_control;
      from_given = λ p h z.
          let t = pending_from_lem words rings p h z in rw t.same (all (get_or rings t.at 0) (elem_at rings t.at (inside p t)));
    }
  where
    inside : {x : ℕ} (p : ℕ) (t : From words rings p x) → t.at < length rings
    inside p t = omega (arith, t.inside, o.counted)

-- None of them is live.
pub offered_live :
    (words rings live : List ℕ) (control : ℕ) (quarantined : List ℕ) →
    Offered (length words) rings live control quarantined → length live ≡ 30 →
    Disjoint (pending_rings words rings) live
offered_live words rings live control quarantined o l p q h g z e =
    let t = pending_from_lem words rings p h z in
    let r : elem (get_or live q 0) rings ≡ true =
    rw (← e, t.same) (elem_at rings t.at (omega (arith, t.inside, o.counted))) in
    not_both (elem (get_or live q 0) live) (elem_at live q (omega arith))
    (disjoint_elem rings live o.not_live (get_or live q 0) r)

-- No rings.
pub apart_none : (control : ℕ) (given : List ℕ) → Apart (replicate 30 0) control given
apart_none control given =
    record {
      ok = λ p h z. absurd (z (get_or-replicate 30 p 0 0 h));
      different = λ p q h g z e. absurd (z (get_or-replicate 30 p 0 0 h));
      other = λ p h z e. z (get_or-replicate 30 p 0 0 h);
      from_given = λ p h z. absurd (z (get_or-replicate 30 p 0 0 h));
    }

-- The rings after a claim: the pending ones, and the others' as before.
module _ (i : ℕ) (pending : List ℕ) (c : EndpointMap) (control : ℕ) (given : List ℕ)
    (new : Apart pending control given) (old : Apart c.rings control given)
    (cross : Disjoint pending c.rings) where
  after : ℕ → ℕ
  after p = get_or (claimed_endpoints i pending c).rings p 0

  Source : ℕ → Type 0
  Source p =
      ((get_or pending p 0 ≡ 0 → ⊥) × (after p ≡ get_or pending p 0))
      ⊎ ((get_or c.rings p 0 ≡ 0 → ⊥) × (after p ≡ get_or c.rings p 0))

  source : (p : ℕ) → p < 30 → (after p ≡ 0 → ⊥) → Source p
  unfolding after Source claimed_ring
  source p h z = go (decided (eqb (get_or pending p 0) 0)) (is_owned (Interface i) c p) (claimed_ring_lem i pending c p h)
    where
      go :
          Decided (eqb (get_or pending p 0) 0) → (own : Bool) →
          after p ≡ cond (eqb (get_or pending p 0) 0) (cond own 0 (get_or c.rings p 0)) (get_or pending p 0) → Source p
      go (inl e) true s = absurd (z (rw e at s))
      go (inl e) false s = let t : after p ≡ get_or c.rings p 0 = rw e at s in inr (λ y. z (t ∙ y), t)
      go (inr e) own s = inl (eqb-false (get_or pending p 0) 0 e, rw e at s)

  source_ok : (p : ℕ) → p < 30 → Source p → ring_ok (after p) ≡ true
  unfolding Source
  source_ok p h (inl t) = rw t.1 (new.ok p h t.0)
  source_ok p h (inr t) = rw t.1 (old.ok p h t.0)

  source_different : (p q : ℕ) → p < 30 → q < 30 → after p ≡ after q → Source p → Source q → p ≡ q
  unfolding Source
  source_different p q h g e (inl t) (inl u) = new.different p q h g t.0 (sym t.1 ∙ e ∙ u.1)
  source_different p q h g e (inl t) (inr u) = absurd (cross p q h g t.0 (sym t.1 ∙ e ∙ u.1))
  source_different p q h g e (inr t) (inl u) = absurd (cross q p g h u.0 (sym u.1 ∙ sym e ∙ t.1))
  source_different p q h g e (inr t) (inr u) = old.different p q h g t.0 (sym t.1 ∙ e ∙ u.1)

  source_other : (p : ℕ) → p < 30 → after p ≡ control → Source p → ⊥
  unfolding Source
  source_other p h e (inl t) = new.other p h t.0 (sym t.1 ∙ e)
  source_other p h e (inr t) = old.other p h t.0 (sym t.1 ∙ e)

  source_given : (p : ℕ) → p < 30 → Source p → elem (after p) given ≡ true
  unfolding Source
  source_given p h (inl t) = rw t.1 (new.from_given p h t.0)
  source_given p h (inr t) = rw t.1 (old.from_given p h t.0)

  apart_after : Apart (claimed_endpoints i pending c).rings control given
  unfolding after
  apart_after =
      record {
        ok = λ p h z. source_ok p h (source p h z);
        different = λ p q h g z e. source_different p q h g e (source p h z) (source q g (λ y. z (e ∙ y)));
        other = λ p h z e. source_other p h e (source p h z);
        from_given = λ p h z. source_given p h (source p h z);
      }

-- A claim with rings that were drawn keeps them apart.
pub apart_claimed :
    (i : ℕ) (words rings : List ℕ) (c : EndpointMap) (control : ℕ) (quarantined given : List ℕ) → CleanMap c →
    Offered (length words) rings c.rings control quarantined → ((x : ℕ) → elem x rings ≡ true → elem x given ≡ true) →
    Apart c.rings control given → Apart (claimed_endpoints i (pending_rings words rings) c).rings control given
apart_claimed i words rings c control quarantined given clean o all old =
    apart_after i (pending_rings words rings) c control given (apart_offered words rings c.rings control quarantined given o all) old
    (offered_live words rings c.rings control quarantined o clean.whole.rings)

-- A release does.
pub apart_released :
    (i : ℕ) (c : EndpointMap) (control : ℕ) (given : List ℕ) → Apart c.rings control given →
    Apart (claimed_endpoints i (replicate 30 0) c).rings control given
apart_released i c control given old =
    apart_after i (replicate 30 0) c control given (apart_none control given) old (λ p q h g z e. z (get_or-replicate 30 p 0 0 h))

-- Live rings by place, and control's, beside quarantined ones.
module _ (rings : List ℕ) (control : ℕ) (given : List ℕ) (ok : ring_ok control ≡ true) (apart : Apart rings control given) where
  abbrev pub live_rings : List ℕ
  live_rings = placed_rings rings ++ (control ∷ [])

  pub live_rings_ok : rings_ok live_rings ≡ true
  unfolding rings_ok
  live_rings_ok = rings_ok_append (placed_rings rings) (control ∷ []) (placed_ok rings control given apart) (rw ok)

  pub live_rings_distinct : distinct live_rings ≡ true
  unfolding distinct elem
  live_rings_distinct =
      distinct_append (placed_rings rings) (control ∷ []) (placed_distinct rings control given apart) refl
      (λ x h. false_if (elem x (control ∷ [])) (λ g. ⊎_elim (placed_control rings control given apart x h) (λ s. elem_none x s) (elem_cases x control [] g)))

  -- Those of a claim that broke are sound, whatever else is live.
  pub claim_sound : (by : List ℕ) (usable : Bool) → Apart by control given → (usable ≡ true → length (placed_rings by) ≡ 0) →
      SoundRings usable live_rings (placed_rings by)
  unfolding each_once
  claim_sound by usable kept free =
      record {
        few =
            let n = not_among_short (placed_rings rings ++ (control ∷ [])) (placed_rings by) in
            simp length-append (omega (arith, n, placed_few rings, placed_few by));
        live_ok = live_rings_ok;
        live_distinct = live_rings_distinct;
        ok = placed_ok by control given kept;
        apart = placed_distinct by control given kept;
        free = free;
      }

-- No rings are none.
pub placed_none : placed_rings (replicate 30 0) ≡ []
unfolding placed_rings gathered
placed_none = refl

-- The rings of the arrays that a map makes.
module _ (c : EndpointMap) where
  from_rings : (k a : ℕ) → rings_of (gathered (endpoint_at c) c.rings k a) ≡ gathered (λ p. get_or c.rings p 0) c.rings k a
  unfolding gathered rings_of endpoint_at
  from_rings zero a = refl
  from_rings (suc k) a = go (eqb (get_or c.rings a 0) 0) _ _ (from_rings k (a + 1))
    where
      go :
          (t : Bool) (l : List Endpoint) (m : List ℕ) → rings_of l ≡ m →
          rings_of (cond t l (endpoint_at c a ∷ l)) ≡ cond t m (get_or c.rings a 0 ∷ m)
      go true l m e = e
      go false l m e = rw e

  pub endpoint_rings : rings_of (endpoints_of c) ≡ placed_rings c.rings
  unfolding endpoints_of placed_rings
  endpoint_rings = from_rings 30 0

  -- There are at most 30 endpoints.
  pub endpoints_few : length (endpoints_of c) ≤ 30
  endpoints_few = rw (← rings_length (endpoints_of c), endpoint_rings) (placed_few c.rings)

-- The rings of queues by place.
queue_from :
    (by : List ℕ) (k a : ℕ) →
    queue_rings (gathered (λ p. record { dci = dci_at p; ring = get_or by p 0 }) by k a) ≡ gathered (λ p. get_or by p 0) by k a
unfolding gathered queue_rings
queue_from by zero a = refl
queue_from by (suc k) a = go (eqb (get_or by a 0) 0) _ _ (queue_from by k (a + 1))
  where
    go :
        (t : Bool) (l : List Queue) (m : List ℕ) → queue_rings l ≡ m →
        queue_rings (cond t l (record { dci = dci_at a; ring = get_or by a 0 } ∷ l)) ≡ cond t m (get_or by a 0 ∷ m)
    go true l m e = e
    go false l m e = rw e

pub queue_rings_lem : (by : List ℕ) → queue_rings (queues_of by) ≡ placed_rings by
unfolding queues_of placed_rings
queue_rings_lem by = queue_from by 30 0
