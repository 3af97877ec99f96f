-- What the calls on the routes answer, and each word that they leave. Callers use these laws and not the definitions' text.
use Prim.Native.Nat.{ℕ, suc, ◌+◌, ◌*◌, ◌≤◌, ◌<◌}
use mathlib.Core.Path.{◌≡◌, refl, sym, ◌∙◌}
use mathlib.Core.Bool.{Bool, true, false, cond, ◌||◌}
use mathlib.Core.List.{List, [], ◌∷◌}
use mathlib.Core.Logic.{inl, inr}
use native.Mathlib.Omega.{arith}
use borrow.Author.Tests.{eq-eqb, eqb-true, eqb-false}
use lib.Dec.{eqb}
use lib.ListN.{length, get_or, drop, length-set, replicate, get_or-replicate}
use lib.Seq.{length-sets, get_or-set_same, get_or-set_other}
use Rattle.laws.proofs.Stores.{sets_past, sets_before, sets_there}
use Rattle.laws.proofs.Tests.{not_both}
use Rattle.laws.proofs.Cases.{cond_or, or_right, or_none}
use Rattle.std.specs.Prelude.{Result, Ok, Err}
use Rattle.transfer.specs.declared.RouteError.{RouteError}
use Rattle.transfer.specs.declared.RouteError.TheVariants.{InvalidEndpoint, QueueFull}
use Rattle.transfer.specs.Routes.{route_index, route_of, with_route, without_slot, Queue, queues, names, registered, with_registered, old_match, new_free, cleared, published, replaced, moved, with_replaced, ring_for, Small, OutsideSlot}

-- A slot's endpoint is told by its word.
pub index_same : (slot d e : ℕ) → route_index slot d ≡ route_index slot e → d ≡ e
unfolding route_index
index_same slot d e h = omega arith

-- The word of a Dci below 32 is one of the slot's.
pub index_inside : (slot d k : ℕ) → d < 32 → OutsideSlot slot k → route_index slot d ≡ k → ⊥
unfolding route_index
index_inside slot d k h (inl l) e = omega arith
index_inside slot d k h (inr l) e = omega arith

-- One word written.
module _ (routes : List ℕ) (slot e ring : ℕ) where
  put_length : length (with_route routes slot e ring) ≡ length routes
  unfolding with_route
  put_length = length-set routes (route_index slot e) ring

  put_other : (k : ℕ) → (route_index slot e ≡ k → ⊥) → get_or (with_route routes slot e ring) k 0 ≡ get_or routes k 0
  unfolding with_route
  put_other k h = get_or-set_other routes (route_index slot e) k ring 0 (λ p. h (sym p))

  put_same : route_index slot e < length routes → route_of (with_route routes slot e ring) slot e ≡ ring
  unfolding with_route route_of
  put_same h = get_or-set_same routes (route_index slot e) ring 0 h

  put_at : (d : ℕ) → route_index slot d < length routes → route_of (with_route routes slot e ring) slot d ≡ cond (eqb e d) ring (route_of routes slot d)
  unfolding route_of
  put_at d h = at (eqb e d) refl
    where
      at : (t : Bool) → eqb e d ≡ t → route_of (with_route routes slot e ring) slot d ≡ cond t ring (route_of routes slot d)
      at true p = let s : d ≡ e = sym (eqb-true e d p) in rw s (put_same (rw (← s) h))
      at false p = put_other (route_index slot d) (λ q. eqb-false e d p (index_same slot e d q))

-- Clearing keeps the length.
pub cleared_length : (routes : List ℕ) (slot : ℕ) (qs : List Queue) → length (cleared routes slot qs) ≡ length routes
unfolding cleared
cleared_length routes slot [] = refl
cleared_length routes slot (q ∷ qs) =
    cleared_length (with_route routes slot q.dci 0) slot qs ∙ put_length routes slot q.dci 0

-- Publishing keeps the length.
pub published_length : (routes : List ℕ) (slot : ℕ) (qs : List Queue) → length (published routes slot qs) ≡ length routes
unfolding published
published_length routes slot [] = refl
published_length routes slot (q ∷ qs) =
    published_length (with_route routes slot q.dci q.ring) slot qs ∙ put_length routes slot q.dci q.ring

-- Clearing leaves 0 to each endpoint that the queues name, and the others' routes as they were.
pub cleared_at : (routes : List ℕ) (slot : ℕ) (qs : List Queue) (d : ℕ) → route_index slot d < length routes → route_of (cleared routes slot qs) slot d ≡ cond (names d qs) 0 (route_of routes slot d)
unfolding cleared names
cleared_at routes slot [] d h = refl
cleared_at routes slot (q ∷ qs) d h =
    cleared_at (with_route routes slot q.dci 0) slot qs d (rw (put_length routes slot q.dci 0) h)
    ∙ rw (put_at routes slot q.dci 0 d h) (cond_or (eqb q.dci d) (names d qs) 0 (route_of routes slot d))

-- Publishing leaves each endpoint its last queue's ring, and the others' routes as they were.
pub published_at : (routes : List ℕ) (slot : ℕ) (qs : List Queue) (d : ℕ) → route_index slot d < length routes → route_of (published routes slot qs) slot d ≡ ring_for d qs (route_of routes slot d)
unfolding published ring_for
published_at routes slot [] d h = refl
published_at routes slot (q ∷ qs) d h =
    published_at (with_route routes slot q.dci q.ring) slot qs d (rw (put_length routes slot q.dci q.ring) h)
    ∙ rw (put_at routes slot q.dci q.ring d h)

-- No queue's word is word k.
abbrev pub Apart : ℕ → List Queue → ℕ → Type 0
Apart slot qs k = (d : ℕ) → names d qs ≡ true → route_index slot d ≡ k → ⊥

module _ (slot : ℕ) (q : Queue) (qs : List Queue) (k : ℕ) (h : Apart slot (q ∷ qs) k) where
  apart_first : route_index slot q.dci ≡ k → ⊥
  unfolding names
  apart_first = h q.dci (rw (eq-eqb q.dci q.dci refl))

  apart_rest : Apart slot qs k
  unfolding names
  apart_rest d e = h d (or_right (eqb q.dci d) (names d qs) e)

-- Clearing touches no other word.
pub cleared_other : (routes : List ℕ) (slot : ℕ) (qs : List Queue) (k : ℕ) → Apart slot qs k → get_or (cleared routes slot qs) k 0 ≡ get_or routes k 0
unfolding cleared
cleared_other routes slot [] k h = refl
cleared_other routes slot (q ∷ qs) k h =
    cleared_other (with_route routes slot q.dci 0) slot qs k (apart_rest slot q qs k h)
    ∙ put_other routes slot q.dci 0 k (apart_first slot q qs k h)

-- Publishing touches no other word.
pub published_other : (routes : List ℕ) (slot : ℕ) (qs : List Queue) (k : ℕ) → Apart slot qs k → get_or (published routes slot qs) k 0 ≡ get_or routes k 0
unfolding published
published_other routes slot [] k h = refl
published_other routes slot (q ∷ qs) k h =
    published_other (with_route routes slot q.dci q.ring) slot qs k (apart_rest slot q qs k h)
    ∙ put_other routes slot q.dci q.ring k (apart_first slot q qs k h)

-- `Small` queues name only Dcis below 32.
pub small_names : (qs : List Queue) (d : ℕ) → Small qs → names d qs ≡ true → d < 32
unfolding Small names
small_names [] d s e = not_both false e refl
small_names (q ∷ qs) d s e = first (eqb q.dci d) refl e (small_names qs d s.1)
  where
    first : (t : Bool) → eqb q.dci d ≡ t → (t || names d qs) ≡ true → (names d qs ≡ true → d < 32) → d < 32
    first true p n r = rw (← eqb-true q.dci d p) s.0
    first false p n r = r n

-- Dcis below 32 make `Small` queues.
pub small_queues : (ds rs : List ℕ) → ((i : ℕ) → i < length ds → get_or ds i 0 < 32) → Small (queues ds rs)
unfolding Small queues
small_queues [] rs h = tt
small_queues (d ∷ ds) rs h = (h 0 (omega arith), small_queues ds (drop 1 rs) (λ i l. h (suc i) (omega arith)))

-- Queues that do not name an endpoint leave its route.
pub ring_for_none : (d : ℕ) (qs : List Queue) (v : ℕ) → names d qs ≡ false → ring_for d qs v ≡ v
unfolding ring_for names
ring_for_none d [] v e = refl
ring_for_none d (q ∷ qs) v e =
    let n = or_none (eqb q.dci d) (names d qs) e in
    rw n.0 (ring_for_none d qs v n.1)

module _ (routes : List ℕ) (slot : ℕ) (old new : List Queue) where
  -- `Ok` says that both checks hold.
  pub replaced_done : replaced routes slot old new ≡ Ok tt → (old_match routes slot old ≡ true) × (new_free routes slot old new ≡ true)
  unfolding replaced
  replaced_done = both (old_match routes slot old) (new_free routes slot old new)
    where
      both : (a b : Bool) → cond a (cond b (Ok (tt {0})) (Err QueueFull)) (Err InvalidEndpoint) ≡ Ok tt → (a ≡ true) × (b ≡ true)
      both true true e = (refl, refl)
      both true false e = cc
      both false b e = cc

  -- Where both checks hold, `Ok` is answered.
  pub done_replaced : old_match routes slot old ≡ true → new_free routes slot old new ≡ true → replaced routes slot old new ≡ Ok tt
  unfolding replaced
  done_replaced p q = rw (p, q)

  -- Where an old route is not its ring, `InvalidEndpoint` is answered.
  pub invalid_replaced : old_match routes slot old ≡ false → replaced routes slot old new ≡ Err InvalidEndpoint
  unfolding replaced
  invalid_replaced p = rw p

  -- Where the old routes are right and a new one is not free, `QueueFull` is answered.
  pub full_replaced : old_match routes slot old ≡ true → new_free routes slot old new ≡ false → replaced routes slot old new ≡ Err QueueFull
  unfolding replaced
  full_replaced p q = rw (p, q)

  -- An error leaves the table.
  pub error_kept : (r : RouteError) → replaced routes slot old new ≡ Err r → with_replaced routes slot old new ≡ routes
  unfolding with_replaced moved
  error_kept r e = rw e

  -- `Ok` clears the old routes and then publishes the new ones.
  pub done_moved : replaced routes slot old new ≡ Ok tt → with_replaced routes slot old new ≡ published (cleared routes slot old) slot new
  unfolding with_replaced moved
  done_moved e = rw e

  -- Each word of the slot after `Ok`.
  pub replaced_at : (d : ℕ) → replaced routes slot old new ≡ Ok tt → route_index slot d < length routes → route_of (with_replaced routes slot old new) slot d ≡ ring_for d new (cond (names d old) 0 (route_of routes slot d))
  replaced_at d e h =
      rw (done_moved e) (published_at (cleared routes slot old) slot new d (rw (cleared_length routes slot old) h)
      ∙ rw (cleared_at routes slot old d h))

  -- Whatever the answer, the length stays.
  pub replaced_length : length (with_replaced routes slot old new) ≡ length routes
  unfolding with_replaced moved
  replaced_length = after (replaced routes slot old new)
    where
      after : (a : Result Unit RouteError) → length (moved a routes slot old new) ≡ length routes
      after (Ok _) = published_length (cleared routes slot old) slot new ∙ cleared_length routes slot old
      after (Err _) = refl

  -- Whatever the answer, a word that no queue has stays.
  pub replaced_other : (k : ℕ) → Apart slot old k → Apart slot new k → get_or (with_replaced routes slot old new) k 0 ≡ get_or routes k 0
  unfolding with_replaced moved
  replaced_other k o n = after (replaced routes slot old new)
    where
      after : (a : Result Unit RouteError) → get_or (moved a routes slot old new) k 0 ≡ get_or routes k 0
      after (Ok _) = published_other (cleared routes slot old) slot new k n ∙ cleared_other routes slot old k o
      after (Err _) = refl

  -- Whatever the answer, a word outside the slot stays.
  pub replaced_outside : (k : ℕ) → Small old → Small new → OutsideSlot slot k → get_or (with_replaced routes slot old new) k 0 ≡ get_or routes k 0
  replaced_outside k o n h =
      replaced_other k (λ d e. index_inside slot d k (small_names old d o e) h) (λ d e. index_inside slot d k (small_names new d n e) h)

module _ (routes : List ℕ) (slot dci : ℕ) where
  -- `Ok` says that the endpoint had no route.
  pub registered_done : registered routes slot dci ≡ Ok tt → route_of routes slot dci ≡ 0
  unfolding registered
  registered_done e = eqb-true (route_of routes slot dci) 0 (free (eqb (route_of routes slot dci) 0) e)
    where
      free : (a : Bool) → cond a (Ok (tt {0})) (Err QueueFull) ≡ Ok tt → a ≡ true
      free true p = refl
      free false p = cc

  -- Where the endpoint has no route, `Ok` is answered.
  pub done_registered : route_of routes slot dci ≡ 0 → registered routes slot dci ≡ Ok tt
  unfolding registered
  done_registered h = rw (eq-eqb (route_of routes slot dci) 0 h)

  module _ (ring : ℕ) where
    -- An endpoint that had no route has the ring.
    pub registered_at : route_of routes slot dci ≡ 0 → route_index slot dci < length routes → route_of (with_registered routes slot dci ring) slot dci ≡ ring
    unfolding with_registered
    registered_at e h = rw (eq-eqb (route_of routes slot dci) 0 e) (put_same routes slot dci ring h)

    -- `QueueFull` leaves the table.
    pub registered_full : registered routes slot dci ≡ Err QueueFull → with_registered routes slot dci ring ≡ routes
    unfolding registered with_registered
    registered_full e = rw (full (eqb (route_of routes slot dci) 0) e)
      where
        full : (a : Bool) → cond a (Ok (tt {0})) (Err QueueFull) ≡ Err QueueFull → a ≡ false
        full true p = cc
        full false p = refl

    -- Whatever the answer, the length stays.
    pub registered_length : length (with_registered routes slot dci ring) ≡ length routes
    unfolding with_registered
    registered_length = after (eqb (route_of routes slot dci) 0)
      where
        after : (a : Bool) → length (cond a (with_route routes slot dci ring) routes) ≡ length routes
        after true = put_length routes slot dci ring
        after false = refl

    -- Whatever the answer, every other word stays.
    pub registered_other : (k : ℕ) → (route_index slot dci ≡ k → ⊥) → get_or (with_registered routes slot dci ring) k 0 ≡ get_or routes k 0
    unfolding with_registered
    registered_other k h = after (eqb (route_of routes slot dci) 0)
      where
        after : (a : Bool) → get_or (cond a (with_route routes slot dci ring) routes) k 0 ≡ get_or routes k 0
        after true = put_other routes slot dci ring k h
        after false = refl

    -- Whatever the answer, a word outside the slot stays.
    pub registered_outside : (k : ℕ) → dci < 32 → OutsideSlot slot k → get_or (with_registered routes slot dci ring) k 0 ≡ get_or routes k 0
    registered_outside k l h = registered_other k (index_inside slot dci k l h)

-- Without a slot's routes the table has its length, every other word, and 0 for each of the slot's.
module _ (routes : List ℕ) (slot : ℕ) where
  pub without_length : length (without_slot routes slot) ≡ length routes
  unfolding without_slot
  without_length = length-sets routes (32 * slot) (replicate 32 0)

  pub without_others : (k : ℕ) → OutsideSlot slot k → get_or (without_slot routes slot) k 0 ≡ get_or routes k 0
  unfolding without_slot
  without_others k (inl h) = sets_before (replicate 32 0) routes (32 * slot) k h
  without_others k (inr h) = sets_past (replicate 32 0) routes (32 * slot) k h

  pub without_own : 32 * slot + 32 ≤ length routes → (d : ℕ) → d < 32 → route_of (without_slot routes slot) slot d ≡ 0
  unfolding without_slot route_of route_index
  without_own room d h = sets_there (replicate 32 0) routes (32 * slot) d h room ∙ get_or-replicate 32 d 0 0 h
