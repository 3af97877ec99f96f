-- What a claim, a release and a set configuration do to the routes of a slot.
use Prim.Native.Nat.{ℕ, zero, suc, ◌+◌, ◌≤◌, ◌<◌}
use mathlib.Core.Path.{◌≡◌, refl, sym, ap, ◌∙◌}
use mathlib.Core.Logic.{inl, inr}
use mathlib.Core.Bool.{Bool, true, false, not, cond, ◌||◌}
use mathlib.Core.List.{List, [], ◌∷◌, ◌++◌}
use native.Mathlib.Omega.{arith}
use borrow.Author.Tests.{eq-eqb, ne_eqb, eqb-true, eqb-false, not-true, not-false}
use lib.Dec.{eqb}
use lib.ListN.{length, get_or, drop, replicate, get_or-replicate}
use Rattle.laws.proofs.Tests.{and-true, not_both}
use Rattle.laws.proofs.Cases.{Decided, decided, or_left, or_right}
use Rattle.record_ring.specs.Rings.{offer_ok}
use Rattle.record_ring.proofs.Laws.{ring_at, ring_nonzero, offered}
use Rattle.descriptor.specs.Word.{ENDPOINT, kind, word_ok, endpoint_descriptor}
use Rattle.descriptor.specs.Endpoint.{dci_of}
use Rattle.descriptor.proofs.Laws.{endpoint_word_lem, dci_word}
use Rattle.context_block.specs.Blocks.{word_dci, some_dci}
use Rattle.context.specs.Steps.{word_dcis}
use Rattle.std.specs.Prelude.{Ok}
use Rattle.transfer.specs.Routes.{Queue, queues, names, route_index, route_of, old_match, is_free, new_free, replaced, with_replaced, ring_for, OutsideSlot}
use Rattle.transfer.proofs.Laws.{Apart, index_same, ring_for_none, done_replaced, replaced_at, replaced_length, replaced_other, replaced_outside}
use Rattle.record_endpoint.specs.Order.{PLACES, dci_at}
use Rattle.record_endpoint.specs.EndpointMap.{no_endpoints, gathered, is_owned, owns, owned_rings, queues_of, pending_rings, claimed_ring, claimed_endpoints}
use Rattle.record_endpoint.specs.declared.endpoint_map.EndpointMap.{EndpointMap}
use Rattle.record_endpoint.specs.declared.endpoint_map.Owner.{Owner}
use Rattle.record_endpoint.specs.declared.endpoint_map.Owner.TheVariants.{Interface}
use Rattle.record_endpoint.proofs.Laws.{dci_place, dci_low, dci_high, owned_at, owned_zero, claimed_ring_lem, pending_at, word_at, word_dcis as endpoint_dcis, queues_name, queues_other, queues_ring, queues_small}
use Rattle.record_settings.specs.Match.{has_place, addresses_free}
use Rattle.record_settings.proofs.Laws.{free_at, pending_place}
use Rattle.theorem_routing.specs.Routing.{InTable, RoutedBy, NamedBy, Rerouted}

-- What holds of the Dci at each place holds of each Dci of a device context but 0 and control's.
pub each_dci : (P : ℕ → Type 0) → ((p : ℕ) → p < 30 → P (dci_at p)) → (d : ℕ) → 2 ≤ d → d < 32 → P d
each_dci P h d l g = let t = dci_place d l g in rw (← t.2) (h t.0 t.1)

-- The Dci at a place is a word of the slot.
dci_inside : (routes : List ℕ) (slot p : ℕ) → InTable routes slot → p < 30 → route_index slot (dci_at p) < length routes
unfolding route_index
dci_inside routes slot p room h = omega (arith, dci_high p h)

queue_at : List ℕ → ℕ → Queue
queue_at rings p = record { dci = dci_at p; ring = get_or rings p 0 }

-- What `replace_queues` checks of the queues of some rings by place.
module _ (routes : List ℕ) (slot : ℕ) (rings : List ℕ) where
  old_from :
      (k a : ℕ) → a + k ≤ 30 →
      ((p : ℕ) → p < 30 → (get_or rings p 0 ≡ 0 → ⊥) → route_of routes slot (dci_at p) ≡ get_or rings p 0) →
      old_match routes slot (gathered (queue_at rings) rings k a) ≡ true
  unfolding gathered old_match queue_at
  old_from zero a l h = refl
  old_from (suc k) a l h =
      go (eqb (get_or rings a 0) 0) (gathered (queue_at rings) rings k (a + 1)) refl (old_from k (a + 1) (omega arith) h)
    where
      go :
          (t : Bool) (qs : List Queue) → eqb (get_or rings a 0) 0 ≡ t → old_match routes slot qs ≡ true →
          old_match routes slot (cond t qs (queue_at rings a ∷ qs)) ≡ true
      go true qs e f = f
      go false qs e f =
          and-true (eqb (route_of routes slot (dci_at a)) (get_or rings a 0)) (old_match routes slot qs)
          (eq-eqb (route_of routes slot (dci_at a)) (get_or rings a 0) (h a (omega arith) (eqb-false (get_or rings a 0) 0 e))) f

  new_from :
      (old : List Queue) (k a : ℕ) → a + k ≤ 30 →
      ((p : ℕ) → p < 30 → (get_or rings p 0 ≡ 0 → ⊥) → is_free routes slot old (queue_at rings p) ≡ true) →
      new_free routes slot old (gathered (queue_at rings) rings k a) ≡ true
  unfolding gathered new_free
  new_from old zero a l h = refl
  new_from old (suc k) a l h =
      go (eqb (get_or rings a 0) 0) (gathered (queue_at rings) rings k (a + 1)) refl (new_from old k (a + 1) (omega arith) h)
    where
      go :
          (t : Bool) (qs : List Queue) → eqb (get_or rings a 0) 0 ≡ t → new_free routes slot old qs ≡ true →
          new_free routes slot old (cond t qs (queue_at rings a ∷ qs)) ≡ true
      go true qs e f = f
      go false qs e f =
          and-true (is_free routes slot old (queue_at rings a)) (new_free routes slot old qs)
          (h a (omega arith) (eqb-false (get_or rings a 0) 0 e)) f

-- Some endpoints' queues x replaced by y.
module _ (routes : List ℕ) (slot : ℕ) (c : EndpointMap) (x y : List ℕ)
    (part : (p : ℕ) → p < 30 → (get_or x p 0 ≡ 0 → ⊥) → get_or c.rings p 0 ≡ get_or x p 0) where
  part_old : NamedBy routes slot c → old_match routes slot (queues_of x) ≡ true
  unfolding queues_of queue_at
  part_old n = old_from routes slot x 30 0 (omega arith) (λ p h z. n p h (λ e. z (sym (part p h z) ∙ e)) ∙ part p h z)

  part_at :
      replaced routes slot (queues_of x) (queues_of y) ≡ Ok tt → InTable routes slot → (p : ℕ) → p < 30 →
      route_of (with_replaced routes slot (queues_of x) (queues_of y)) slot (dci_at p)
      ≡ cond (eqb (get_or y p 0) 0) (cond (not (eqb (get_or x p 0) 0)) 0 (route_of routes slot (dci_at p))) (get_or y p 0)
  part_at done room p h =
      replaced_at routes slot (queues_of x) (queues_of y) (dci_at p) done (dci_inside routes slot p room h)
      ∙ rw (queues_name x p h) (queues_ring y p _ h)

  -- The routes are those of the endpoints.
  module _ (r : RoutedBy routes slot c)
      (free : (p : ℕ) → p < 30 → (get_or y p 0 ≡ 0 → ⊥) → get_or x p 0 ≡ 0 → get_or c.rings p 0 ≡ 0) where
    part_free : (p : ℕ) → p < 30 → (get_or y p 0 ≡ 0 → ⊥) → is_free routes slot (queues_of x) (queue_at y p) ≡ true
    unfolding is_free queue_at
    part_free p h z = or_left (eqb route 0 || names (dci_at p) (queues_of x)) _ (go (decided (eqb (get_or x p 0) 0)))
      where
        route : ℕ
        route = route_of routes slot (dci_at p)

        go : Decided (eqb (get_or x p 0) 0) → eqb route 0 || names (dci_at p) (queues_of x) ≡ true
        go (inl e) =
            or_left (eqb route 0) (names (dci_at p) (queues_of x))
            (eq-eqb route 0 (r p h ∙ free p h z (eqb-true (get_or x p 0) 0 e)))
        go (inr e) = or_right (eqb route 0) (names (dci_at p) (queues_of x)) (queues_name x p h ∙ ap not e)

    part_new : new_free routes slot (queues_of x) (queues_of y) ≡ true
    unfolding queues_of queue_at
    part_new = new_from routes slot y (queues_of x) 30 0 (omega arith) part_free

    part_done : replaced routes slot (queues_of x) (queues_of y) ≡ Ok tt
    part_done = done_replaced routes slot (queues_of x) (queues_of y) (part_old (λ p h z. r p h)) part_new

    part_routed :
        InTable routes slot → (p : ℕ) → p < 30 →
        route_of (with_replaced routes slot (queues_of x) (queues_of y)) slot (dci_at p)
        ≡ cond (eqb (get_or y p 0) 0) (cond (not (eqb (get_or x p 0) 0)) 0 (get_or c.rings p 0)) (get_or y p 0)
    part_routed room p h = part_at part_done room p h ∙ rw (r p h)

-- The endpoints of an owner are some of the endpoints.
owned_part :
    (who : Owner) (c : EndpointMap) (p : ℕ) → p < 30 → (get_or (owned_rings who c) p 0 ≡ 0 → ⊥) →
    get_or c.rings p 0 ≡ get_or (owned_rings who c) p 0
owned_part who c p h z = go (decided (is_owned who c p))
  where
    go : Decided (is_owned who c p) → get_or c.rings p 0 ≡ get_or (owned_rings who c) p 0
    go (inl o) = sym (owned_at who c p h ∙ rw o)
    go (inr o) = absurd (z (owned_at who c p h ∙ rw o))

-- A free address without an endpoint of the interface has none.
pub free_ring :
    (words : List ℕ) (i : ℕ) (c : EndpointMap) (p : ℕ) → addresses_free words i c ≡ true → p < 30 → has_place p words ≡ true →
    is_owned (Interface i) c p ≡ false → get_or c.rings p 0 ≡ 0
unfolding is_owned owns
free_ring words i c p f h w o =
    go (decided (eqb (get_or c.rings p 0) 0)) (free_at words i c p f w)
  where
    go : Decided (eqb (get_or c.rings p 0) 0) → (eqb (get_or c.rings p 0) 0 || eqb (get_or c.owners p 0) i) ≡ true → get_or c.rings p 0 ≡ 0
    go (inl e) t = eqb-true (get_or c.rings p 0) 0 e
    go (inr e) t = not_both (eqb (get_or c.owners p 0) i) (rw e at t) (rw e at o)

-- Interface i's queues replaced by pending ones: at each place.
module _ (routes : List ℕ) (slot : ℕ) (i : ℕ) (pending : List ℕ) (c : EndpointMap) where
  abbrev old : List ℕ
  old = owned_rings (Interface i) c

  claimed_place :
      (v p : ℕ) → p < 30 →
      cond (eqb (get_or pending p 0) 0) (cond (not (eqb (get_or old p 0) 0)) 0 v) (get_or pending p 0)
      ≡ cond (eqb (get_or pending p 0) 0) (cond (is_owned (Interface i) c p) 0 v) (get_or pending p 0)
  claimed_place v p h = rw (owned_zero (Interface i) c p h) (go (eqb (get_or pending p 0) 0) (is_owned (Interface i) c p))
    where
      go : (t o : Bool) → cond t (cond (not (not o)) 0 v) (get_or pending p 0) ≡ cond t (cond o 0 v) (get_or pending p 0)
      go t true = refl
      go t false = refl

  -- Whatever else the slot's words hold.
  pub claim_named :
      replaced routes slot (queues_of old) (queues_of pending) ≡ Ok tt → NamedBy routes slot c → InTable routes slot →
      NamedBy (with_replaced routes slot (queues_of old) (queues_of pending)) slot (claimed_endpoints i pending c)
  unfolding claimed_ring
  claim_named done n room p h z =
      part_at routes slot c old pending (owned_part (Interface i) c) done room p h
      ∙ claimed_place (route_of routes slot (dci_at p)) p h
      ∙ go (decided (eqb (get_or pending p 0) 0)) (decided (is_owned (Interface i) c p))
      ∙ sym (claimed_ring_lem i pending c p h)
    where
      go :
          Decided (eqb (get_or pending p 0) 0) → Decided (is_owned (Interface i) c p) →
          cond (eqb (get_or pending p 0) 0) (cond (is_owned (Interface i) c p) 0 (route_of routes slot (dci_at p))) (get_or pending p 0)
          ≡ cond (eqb (get_or pending p 0) 0) (cond (is_owned (Interface i) c p) 0 (get_or c.rings p 0)) (get_or pending p 0)
      go (inr t) o = rw t
      go (inl t) (inl o) = rw (t, o)
      go (inl t) (inr o) = rw (t, o) (n p h (λ e. z (claimed_ring_lem i pending c p h ∙ rw (t, o) e)))

  -- The pending rings of a claim are at places of its words, and its addresses free.
  module _ (words : List ℕ) (r : RoutedBy routes slot c)
      (room : InTable routes slot)
      (free : addresses_free words i c ≡ true)
      (at : (p : ℕ) → p < 30 → (get_or pending p 0 ≡ 0 → ⊥) → has_place p words ≡ true) where
    claim_free : (p : ℕ) → p < 30 → (get_or pending p 0 ≡ 0 → ⊥) → get_or old p 0 ≡ 0 → get_or c.rings p 0 ≡ 0
    claim_free p h z e =
        free_ring words i c p free h (at p h z) (not-true (is_owned (Interface i) c p) (sym (owned_zero (Interface i) c p h) ∙ eq-eqb _ 0 e))

    pub claim_routed : Rerouted routes slot (queues_of old) (queues_of pending) (claimed_endpoints i pending c)
    unfolding claimed_ring
    claim_routed =
        record {
          done = part_done routes slot c old pending (owned_part (Interface i) c) r claim_free;
          routed = λ p h.
              part_routed routes slot c old pending (owned_part (Interface i) c) r claim_free room p h
              ∙ claimed_place (get_or c.rings p 0) p h
              ∙ sym (claimed_ring_lem i pending c p h);
        }

-- No rings are no queues.
pub no_queues : queues_of (replicate PLACES 0) ≡ []
unfolding queues_of gathered
no_queues = refl

no_words : (i : ℕ) (c : EndpointMap) → addresses_free [] i c ≡ true
unfolding addresses_free
no_words i c = refl

-- Queues taken out, where they are routed.
module _ (routes : List ℕ) (slot : ℕ) (c : EndpointMap) (n : NamedBy routes slot c) where
  out_done :
      (x : List ℕ) → ((p : ℕ) → p < 30 → (get_or x p 0 ≡ 0 → ⊥) → get_or c.rings p 0 ≡ get_or x p 0) →
      replaced routes slot (queues_of x) [] ≡ Ok tt
  unfolding new_free
  out_done x part = done_replaced routes slot (queues_of x) [] (part_old routes slot c x [] part n) refl

  -- An interface's, by a release.
  pub release_done : (i : ℕ) → replaced routes slot (queues_of (owned_rings (Interface i) c)) [] ≡ Ok tt
  release_done i = out_done (owned_rings (Interface i) c) (owned_part (Interface i) c)

  -- All, by a set configuration.
  pub bare_done : replaced routes slot (queues_of c.rings) [] ≡ Ok tt
  bare_done = out_done c.rings (λ p h z. refl)

module _ (routes : List ℕ) (slot : ℕ) (c : EndpointMap) (r : RoutedBy routes slot c) (room : InTable routes slot) where
  -- A release takes the interface's routes out.
  pub release_routed :
      (i : ℕ) → Rerouted routes slot (queues_of (owned_rings (Interface i) c)) [] (claimed_endpoints i (replicate PLACES 0) c)
  release_routed i =
      rw (← no_queues)
      (claim_routed routes slot i (replicate PLACES 0) c [] r room (no_words i c) (λ p h z. absurd (z (get_or-replicate 30 p 0 0 h))))

  -- A set configuration takes all out.
  pub bare_routed : Rerouted routes slot (queues_of c.rings) [] no_endpoints
  unfolding no_endpoints
  bare_routed =
      rw (← no_queues)
      (record {
        done = part_done routes slot c c.rings (replicate 30 0) (λ p h z. refl) r (λ p h z e. e);
        routed = λ p h.
            part_routed routes slot c c.rings (replicate 30 0) (λ p h z. refl) r (λ p h z e. e) room p h
            ∙ rw (none p h) (go p (decided (eqb (get_or c.rings p 0) 0)));
      })
    where
      none : (p : ℕ) → p < 30 → get_or {A = ℕ} (replicate 30 0) p 0 ≡ 0
      none p h = get_or-replicate 30 p 0 0 h

      go : (p : ℕ) → Decided (eqb (get_or c.rings p 0) 0) → cond (not (eqb (get_or c.rings p 0) 0)) 0 (get_or c.rings p 0) ≡ 0
      go p (inl e) = rw e (eqb-true (get_or c.rings p 0) 0 e)
      go p (inr e) = rw e

-- What they leave, whatever the answer.
module _ (routes : List ℕ) (slot : ℕ) (x y : List ℕ) where
  low_apart : (rings : List ℕ) (d : ℕ) → d < 2 → Apart slot (queues_of rings) (route_index slot d)
  low_apart rings d h e n s =
      not_both (names e (queues_of rings)) n
      (queues_other rings e (λ p l q. omega (arith, dci_low p l, index_same slot e d s)))

  -- The slot's first word and control's route.
  pub low_kept :
      (d : ℕ) → d < 2 → route_of (with_replaced routes slot (queues_of x) (queues_of y)) slot d ≡ route_of routes slot d
  unfolding route_of
  low_kept d h =
      replaced_other routes slot (queues_of x) (queues_of y) (route_index slot d) (low_apart x d h) (low_apart y d h)

  -- Every word outside the slot.
  pub outside_kept :
      (k : ℕ) → OutsideSlot slot k → get_or (with_replaced routes slot (queues_of x) (queues_of y)) k 0 ≡ get_or routes k 0
  outside_kept k o = replaced_outside routes slot (queues_of x) (queues_of y) k (queues_small x) (queues_small y) o

  -- The length.
  pub length_kept : length (with_replaced routes slot (queues_of x) (queues_of y)) ≡ length routes
  length_kept = replaced_length routes slot (queues_of x) (queues_of y)

-- Queues put together.

-- The later queues count over the earlier ones.
pub ring_for_append :
    (d : ℕ) (a b : List Queue) (v : ℕ) → ring_for d (a ++ b) v ≡ ring_for d b (ring_for d a v)
unfolding ring_for
ring_for_append d [] b v = refl
ring_for_append d (q ∷ a) b v = ring_for_append d a b (cond (eqb q.dci d) q.ring v)

-- Where queues name an endpoint, the route that it had does not count.
pub ring_for_start : (d : ℕ) (qs : List Queue) (v : ℕ) → ring_for d qs v ≡ cond (names d qs) (ring_for d qs 0) v
unfolding ring_for names
ring_for_start d qs v = go (decided (names d qs))
  where
    named : (l : List Queue) (a b : ℕ) → names d l ≡ true → ring_for d l a ≡ ring_for d l b
    named [] a b e = not_both false e refl
    named (q ∷ l) a b e = first (decided (eqb q.dci d)) (named l)
      where
        first :
            Decided (eqb q.dci d) → ((x y : ℕ) → names d l ≡ true → ring_for d l x ≡ ring_for d l y) →
            ring_for d l (cond (eqb q.dci d) q.ring a) ≡ ring_for d l (cond (eqb q.dci d) q.ring b)
        first (inl s) f = rw s
        first (inr s) f = rw s (f a b (rw s at e))

    go : Decided (names d qs) → ring_for d qs v ≡ cond (names d qs) (ring_for d qs 0) v
    go (inl e) = rw e (named qs v 0 e)
    go (inr e) = rw e (ring_for_none d qs v e)

-- What either names.
pub names_append : (d : ℕ) (a b : List Queue) → names d (a ++ b) ≡ (names d a || names d b)
unfolding names
names_append d [] b = refl
names_append d (q ∷ a) b = rw (names_append d a b) (go (eqb q.dci d))
  where
    go : (t : Bool) → (t || (names d a || names d b)) ≡ ((t || names d a) || names d b)
    go true = refl
    go false = refl

-- Endpoint words and rings side by side.

-- Each word is an endpoint word that may stand in a list.
abbrev pub EndpointWords : List ℕ → Type 0
EndpointWords words =
    (k : ℕ) → k < length words → (kind (get_or words k 0) ≡ ENDPOINT) × (word_ok (get_or words k 0) ≡ true)

dcis_same : (words : List ℕ) → word_dcis words ≡ endpoint_dcis words
unfolding word_dcis word_dci endpoint_dcis
dcis_same [] = refl
dcis_same (w ∷ ws) = rw (dcis_same ws)

-- Their queues name the words' Dcis.
pub words_dci : (d : ℕ) (words rings : List ℕ) → names d (queues (word_dcis words) rings) ≡ some_dci d words
unfolding names queues word_dcis some_dci
words_dci d [] rings = refl
words_dci d (w ∷ ws) rings = rw (words_dci d ws (drop 1 rings))

dci_has_place : (p : ℕ) (words : List ℕ) → p < 30 → some_dci (dci_at p) words ≡ has_place p words
unfolding some_dci has_place word_dci
dci_has_place p [] h = refl
dci_has_place p (w ∷ ws) h = rw (word_at w p h, dci_has_place p ws h)

module _ (words rings : List ℕ) where
  -- And so the words' places.
  pub words_name : (p : ℕ) → p < 30 → names (dci_at p) (queues (word_dcis words) rings) ≡ has_place p words
  words_name p h = words_dci (dci_at p) words rings ∙ dci_has_place p words h

  -- The ring that they leave to a place is the pending one.
  pub words_ring :
      (p : ℕ) → p < 30 → ring_for (dci_at p) (queues (word_dcis words) rings) 0 ≡ get_or (pending_rings words rings) p 0
  words_ring p h = rw (dcis_same words) (sym (pending_at words rings p h))

no_dci : (words : List ℕ) (d : ℕ) → EndpointWords words → d < 2 → some_dci d words ≡ false
unfolding some_dci word_dci
no_dci [] d h l = refl
no_dci (w ∷ ws) d h l =
    rw (ne_eqb (dci_of (endpoint_descriptor w).address) d (λ e. omega (arith, first (h 0 (omega arith)), e)), no_dci ws d (λ k g. h (suc k) (omega arith)) l)
  where
    first : (kind w ≡ ENDPOINT) × (word_ok w ≡ true) → 2 ≤ dci_of (endpoint_descriptor w).address
    first t = omega (arith, dci_word w, (endpoint_word_lem w t.0 t.1).number)

-- Words of a valid list name neither the slot's first word nor control's.
module _ (words rings : List ℕ) (h : EndpointWords words) (d : ℕ) (l : d < 2) where
  pub words_low_name : names d (queues (word_dcis words) rings) ≡ false
  words_low_name = words_dci d words rings ∙ no_dci words d h l

-- Rings that passed an offer are at the places of the words.
pub offer_places :
    (words rings live : List ℕ) (control : ℕ) (quarantined : List ℕ) →
    offer_ok (length words) rings live control quarantined ≡ true → (p : ℕ) → p < 30 →
    eqb (get_or (pending_rings words rings) p 0) 0 ≡ not (has_place p words)
offer_places words rings live control quarantined e p h =
    let o = offered (length words) rings live control quarantined e in
    pending_place words rings p h (λ k l. ring_nonzero (get_or rings k 0) (ring_at rings o.ok k (rw o.counted l)))

-- So a claim whose addresses are free and whose offer passed replaces the interface's routes by the offered rings.
pub offer_routed :
    (routes : List ℕ) (slot i : ℕ) (words rings : List ℕ) (control : ℕ) (quarantined : List ℕ) (c : EndpointMap) →
    RoutedBy routes slot c → InTable routes slot → addresses_free words i c ≡ true →
    offer_ok (length words) rings c.rings control quarantined ≡ true →
    Rerouted routes slot (queues_of (owned_rings (Interface i) c)) (queues_of (pending_rings words rings)) (claimed_endpoints i (pending_rings words rings) c)
offer_routed routes slot i words rings control quarantined c r room free offer =
    claim_routed routes slot i (pending_rings words rings) c words r room free
    (λ p h z.
    not-false (has_place p words)
    (sym (offer_places words rings c.rings control quarantined offer p h) ∙ ne_eqb (get_or (pending_rings words rings) p 0) 0 z))
