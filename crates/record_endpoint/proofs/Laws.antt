-- What callers use of places, endpoint maps and queues.
use Prim.Native.Nat.{ℕ, zero, suc, ◌+◌, ◌-◌, ◌*◌, ◌/◌, ◌%◌, ◌≤◌, ◌<◌}
use mathlib.Core.Path.{◌≡◌, refl, sym, ap, ◌∙◌}
use mathlib.Core.Logic.{◌⊎◌, inl, inr}
use mathlib.Core.Bool.{Bool, true, false, not, cond, ◌&&◌, ◌||◌}
use mathlib.Core.List.{List, [], ◌∷◌, ◌++◌}
use native.Mathlib.Decide.{dec_lt}
use native.Mathlib.Nat.{add-zero, zero-add}
use native.Mathlib.Numerals.{add-one}
use native.Mathlib.Omega.{arith}
use borrow.Author.Tests.{lt-ltb, le-ltb, le-leb, lt-leb, eq-eqb, ne_eqb, eqb-true, eqb-false}
use lib.Dec.{eqb, ltb}
use lib.ListN.{length, get_or, set, take, drop, replicate, length-set, get_or-replicate}
use lib.Seq.{take-suc, length-take-le}
use Rattle.laws.proofs.Tests.{and_right}
use Rattle.laws.proofs.Cases.{Decided, decided}
use Rattle.laws.specs.Distinct.{elem}
use Rattle.descriptor.specs.Endpoint.{dci_of}
use Rattle.descriptor.specs.Word.{ENDPOINT, kind, word_ok, endpoint_descriptor, direction_in, endpoint_number}
use Rattle.descriptor.proofs.Laws.{endpoint_word_lem, fields_fit, dci_word}
use Rattle.transfer.specs.Routes.{Queue, queues, names, ring_for, Small}
use Rattle.transfer.proofs.Laws.{ring_for_none}
use Rattle.record_endpoint.specs.Endpoint.{padded}
use Rattle.record_endpoint.specs.Order.{address_at, dci_at, place_of}
use Rattle.record_endpoint.specs.EndpointMap.{Whole, gathered, owns, is_owned, tabulated, owned_rings, queues_of, pending_from, pending_rings, claimed_ring, claimed_owner, claimed_active, claimed_or, claimed_endpoints, active_from, with_active, queue_dcis, queue_rings, QueuesAs}
use Rattle.record_endpoint.proofs.Steps.{gathered_le, get_d_set, padded_put}
use Rattle.record_endpoint.specs.declared.queues.Queues.{Queues}
use Rattle.record_endpoint.specs.declared.endpoint_map.EndpointMap.{EndpointMap}
use Rattle.record_endpoint.specs.declared.endpoint_map.Owner.{Owner}
use Rattle.record_endpoint.specs.declared.endpoint_map.Owner.TheVariants.{Any, Interface}

-- The order of the addresses.

low_address : (p : ℕ) → p < 15 → address_at p ≡ p + 1
unfolding address_at
low_address p h = rw (lt-ltb p 15 h)

high_address : (p : ℕ) → 15 ≤ p → address_at p ≡ 128 + (p - 14)
unfolding address_at
high_address p h = rw (le-ltb p 15 h)

low_dci : (p : ℕ) → p < 15 → dci_at p ≡ 2 * (p + 1)
unfolding dci_at
low_dci p h = rw (lt-ltb p 15 h)

high_dci : (p : ℕ) → 15 ≤ p → dci_at p ≡ 2 * (p - 14) + 1
unfolding dci_at
high_dci p h = rw (le-ltb p 15 h)

-- The place of an OUT address.
pub low_place : (a : ℕ) → 1 ≤ a → a ≤ 15 → place_of a ≡ a - 1
unfolding place_of
low_place a h g = rw (le-leb 1 a h, le-leb a 15 g)

-- The place of an IN address.
pub high_place : (a : ℕ) → 129 ≤ a → a ≤ 143 → place_of a ≡ a - 114
unfolding place_of
high_place a h g = rw (le-leb 1 a (omega arith), lt-leb a 15 (omega arith), le-leb 129 a h, le-leb a 143 g)

-- 0 has no place.
pub no_place_low : (a : ℕ) → a < 1 → place_of a ≡ 30
unfolding place_of
no_place_low a h = rw (lt-leb 1 a h, lt-leb 129 a (omega arith))

-- Nor has what stands between the OUT and the IN addresses.
pub no_place_between : (a : ℕ) → 15 < a → a < 129 → place_of a ≡ 30
unfolding place_of
no_place_between a h g = rw (le-leb 1 a (omega arith), lt-leb a 15 h, lt-leb 129 a g)

-- Nor what stands above the IN addresses.
pub no_place_high : (a : ℕ) → 143 < a → place_of a ≡ 30
unfolding place_of
no_place_high a h = rw (le-leb 1 a (omega arith), lt-leb a 15 (omega arith), le-leb 129 a (omega arith), lt-leb a 143 h)

-- The addresses that have a place.
low_or_high : (a : ℕ) → place_of a < 30 → ((1 ≤ a) × (a ≤ 15)) ⊎ ((129 ≤ a) × (a ≤ 143))
low_or_high a h = go (dec_lt a 1) (dec_lt 15 a) (dec_lt a 129) (dec_lt 143 a)
  where
    go : Dec (a < 1) → Dec (15 < a) → Dec (a < 129) → Dec (143 < a) → ((1 ≤ a) × (a ≤ 15)) ⊎ ((129 ≤ a) × (a ≤ 143))
    go (no l) (no g) d e = inl (omega arith, omega arith)
    go (no l) (yes g) (no d) (no e) = inr (omega arith, omega arith)
    go (yes l) g d e = absurd (omega (arith, no_place_low a l))
    go (no l) (yes g) (yes d) e = absurd (omega (arith, no_place_between a g d))
    go (no l) (yes g) (no d) (yes e) = absurd (omega (arith, no_place_high a e))

module _ (p : ℕ) (h : p < 30) where
  -- The address at a place has that place.
  pub place_address : place_of (address_at p) ≡ p
  place_address = go (dec_lt p 15)
    where
      go : Dec (p < 15) → place_of (address_at p) ≡ p
      go (yes l) = rw (low_address p l) (low_place (p + 1) (omega arith) (omega arith) ∙ omega arith)
      go (no l) =
          rw (high_address p (omega arith)) (high_place (128 + (p - 14)) (omega arith) (omega arith) ∙ omega arith)

  -- The Dci at a place is its address's.
  pub dci_address : dci_of (address_at p) ≡ dci_at p
  unfolding dci_of
  dci_address = go (dec_lt p 15)
    where
      go : Dec (p < 15) → dci_of (address_at p) ≡ dci_at p
      go (yes l) = rw (low_address p l, low_dci p l) (omega arith)
      go (no l) = rw (high_address p (omega arith), high_dci p (omega arith)) (omega arith)

  -- No place has control's Dci.
  pub dci_low : 2 ≤ dci_at p
  dci_low = go (dec_lt p 15)
    where
      go : Dec (p < 15) → 2 ≤ dci_at p
      go (yes l) = rw (low_dci p l) (omega arith)
      go (no l) = rw (high_dci p (omega arith)) (omega arith)

  -- Every Dci at a place is one of a device context.
  pub dci_high : dci_at p < 32
  dci_high = go (dec_lt p 15)
    where
      go : Dec (p < 15) → dci_at p < 32
      go (yes l) = rw (low_dci p l) (omega arith)
      go (no l) = rw (high_dci p (omega arith)) (omega arith)

-- An address that has a place is the one at that place.
pub address_place : (a : ℕ) → place_of a < 30 → address_at (place_of a) ≡ a
address_place a h = go (low_or_high a h)
  where
    go : ((1 ≤ a) × (a ≤ 15)) ⊎ ((129 ≤ a) × (a ≤ 143)) → address_at (place_of a) ≡ a
    go (inl l) = rw (low_place a l.0 l.1) (low_address (a - 1) (omega arith) ∙ omega arith)
    go (inr l) = rw (high_place a l.0 l.1) (high_address (a - 114) (omega arith) ∙ omega arith)

-- Addresses with one place are the same.
pub place_same : (a b : ℕ) → place_of a < 30 → place_of a ≡ place_of b → a ≡ b
place_same a b h e = sym (address_place a h) ∙ rw e (address_place b (rw (← e) h))

-- The addresses rise.
pub address_rises : (p q : ℕ) → p < q → address_at p < address_at q
address_rises p q h = go (dec_lt p 15) (dec_lt q 15)
  where
    go : Dec (p < 15) → Dec (q < 15) → address_at p < address_at q
    go (yes l) (yes g) = rw (low_address p l, low_address q g) (omega arith)
    go (yes l) (no g) = rw (low_address p l, high_address q (omega arith)) (omega arith)
    go (no l) g = rw (high_address p (omega arith), high_address q (omega arith)) (omega arith)

-- Places with one Dci are the same.
pub dci_same : (p q : ℕ) → dci_at p ≡ dci_at q → p ≡ q
dci_same p q e = go (dec_lt p 15) (dec_lt q 15)
  where
    go : Dec (p < 15) → Dec (q < 15) → p ≡ q
    go (yes l) (yes g) = omega (arith, low_dci p l, low_dci q g)
    go (yes l) (no g) = absurd (omega (arith, low_dci p l, high_dci q (omega arith)))
    go (no l) (yes g) = absurd (omega (arith, high_dci p (omega arith), low_dci q g))
    go (no l) (no g) = omega (arith, high_dci p (omega arith), high_dci q (omega arith))

-- Each Dci of a device context but 0 and control's is at a place.
pub dci_place : (d : ℕ) → 2 ≤ d → d < 32 → (p : ℕ) × (p < 30) × (dci_at p ≡ d)
dci_place d h g = go (dec_lt (d % 2) 1)
  where
    go : Dec (d % 2 < 1) → (p : ℕ) × (p < 30) × (dci_at p ≡ d)
    go (yes l) = (d / 2 - 1, omega arith, low_dci (d / 2 - 1) (omega arith) ∙ omega arith)
    go (no l) = (d / 2 + 14, omega arith, high_dci (d / 2 + 14) (omega arith) ∙ omega arith)

-- The Dci of an address that has a place is the one at that place.
pub place_dci : (a : ℕ) → place_of a < 30 → dci_at (place_of a) ≡ dci_of a
place_dci a h = sym (dci_address (place_of a) h) ∙ rw (address_place a h)

address_made : (w : ℕ) → (endpoint_descriptor w).address ≡ direction_in w * 128 + endpoint_number w
unfolding endpoint_descriptor
address_made w = refl

number_place : (w : ℕ) → 1 ≤ endpoint_number w → place_of (endpoint_descriptor w).address < 30
number_place w h = go (endpoint_descriptor w).address (address_made w) (fields_fit w).direction (fields_fit w).number (dec_lt (direction_in w) 1)
  where
    go :
        (a : ℕ) → a ≡ direction_in w * 128 + endpoint_number w →
        direction_in w < 2 → endpoint_number w < 16 → Dec (direction_in w < 1) → place_of a < 30
    go a e d n (yes l) = rw (low_place a (omega arith) (omega arith)) (omega arith)
    go a e d n (no l) = rw (high_place a (omega arith) (omega arith)) (omega arith)

-- An endpoint word of a valid list has a place.
pub word_place : (w : ℕ) → kind w ≡ ENDPOINT → word_ok w ≡ true → place_of (endpoint_descriptor w).address < 30
word_place w k ok = number_place w (endpoint_word_lem w k ok).number

-- Lists by place.

tabulated_from :
    {A : Type 0} (f : ℕ → A) (n a p : ℕ) (d : A) → p < n → get_or (tabulated f n a) p d ≡ f (a + p)
unfolding tabulated
tabulated_from f zero a p d h = absurd (omega arith)
tabulated_from f (suc n) a zero d h = rw add-zero
tabulated_from f (suc n) a (suc p) d h =
    let e : a + 1 + p ≡ a + suc p = omega arith in tabulated_from f n (a + 1) p d (omega arith) ∙ ap f e

-- What stands at a place.
pub tabulated_at : {A : Type 0} (f : ℕ → A) (n p : ℕ) (d : A) → p < n → get_or (tabulated f n 0) p d ≡ f p
tabulated_at f n p d h = tabulated_from f n 0 p d h ∙ rw zero-add

-- As many as asked for.
pub tabulated_length : {A : Type 0} (f : ℕ → A) (n a : ℕ) → length (tabulated f n a) ≡ n
unfolding tabulated
tabulated_length f zero a = refl
tabulated_length f (suc n) a = ap suc (tabulated_length f n (a + 1))

owned_test : (r : ℕ) (o : Bool) → eqb (cond (not (eqb r 0) && o) r 0) 0 ≡ not (not (eqb r 0) && o)
owned_test r o = go (eqb r 0) o refl
  where
    go : (t o : Bool) → eqb r 0 ≡ t → eqb (cond (not t && o) r 0) 0 ≡ not (not t && o)
    go true o e = refl
    go false true e = e
    go false false e = refl

less_one : (m n : ℕ) → ltb m (n - 1) ≡ ltb (suc m) n
less_one m n = go (dec_lt m (n - 1))
  where
    go : Dec (m < n - 1) → ltb m (n - 1) ≡ ltb (suc m) n
    go (yes l) = lt-ltb m (n - 1) l ∙ sym (lt-ltb (suc m) n (omega arith))
    go (no l) = le-ltb m (n - 1) (omega arith) ∙ sym (le-ltb (suc m) n (omega arith))

-- The endpoints of an owner.
module _ (who : Owner) (c : EndpointMap) where
  -- A ring for each place.
  pub owned_length : length (owned_rings who c) ≡ 30
  unfolding owned_rings
  owned_length = tabulated_length (λ p. cond (is_owned who c p) (get_or c.rings p 0) 0) 30 0

  -- An owned endpoint's ring, and 0 elsewhere.
  pub owned_at : (p : ℕ) → p < 30 → get_or (owned_rings who c) p 0 ≡ cond (is_owned who c p) (get_or c.rings p 0) 0
  unfolding owned_rings
  owned_at p h = tabulated_at (λ q. cond (is_owned who c q) (get_or c.rings q 0) 0) 30 p 0 h

  -- An owned endpoint has a ring, and no other place has one.
  pub owned_zero : (p : ℕ) → p < 30 → eqb (get_or (owned_rings who c) p 0) 0 ≡ not (is_owned who c p)
  unfolding is_owned
  owned_zero p h = rw (owned_at p h) (owned_test (get_or c.rings p 0) (owns who (get_or c.owners p 0)))

  -- How many of k places from `a` on are owned.
  unfoldable pub count_owned : ℕ → ℕ → ℕ
  count_owned zero a = 0
  count_owned (suc k) a = cond (is_owned who c a) (suc (count_owned k (a + 1))) (count_owned k (a + 1))

  count_gathered :
      {A : Type 0} (f : ℕ → A) (k a : ℕ) → a + k ≤ 30 → length (gathered f (owned_rings who c) k a) ≡ count_owned k a
  unfolding gathered count_owned
  count_gathered f zero a h = refl
  count_gathered {A = A} f (suc k) a h =
      rw (owned_zero a (omega arith)) (go (is_owned who c a) _ _ (count_gathered f k (a + 1) (omega arith)))
    where
      go :
          (t : Bool) (l : List A) (n : ℕ) → length l ≡ n → length (cond (not t) l (f a ∷ l)) ≡ cond t (suc n) n
      go true l n e = ap suc e
      go false l n e = e

  -- As many as there are queues of their rings.
  pub count_queues : count_owned 30 0 ≡ length (queues_of (owned_rings who c))
  unfolding queues_of
  count_queues = sym (count_gathered _ 30 0 (omega arith))

  count_less : (p k a : ℕ) → p < k → is_owned who c (a + p) ≡ true → count_owned p a < count_owned k a
  unfolding count_owned
  count_less p zero a h o = absurd (omega arith)
  count_less zero (suc k) a h o = let e : is_owned who c a ≡ true = rw (← add-zero a) o in rw e (omega arith)
  count_less (suc p) (suc k) a h o =
      let e : a + 1 + p ≡ a + suc p = omega arith in
      go (is_owned who c a) _ _ (count_less p k (a + 1) (omega arith) (rw e o))
    where
      go : (t : Bool) (m n : ℕ) → m < n → cond t (suc m) m < cond t (suc n) n
      go true m n l = omega arith
      go false m n l = l

  active_from_lem :
      (k a n p : ℕ) → p < k →
      get_or (active_from k a who n c) p false
      ≡ cond (is_owned who c (a + p)) (ltb (count_owned p a) n) (get_or c.active (a + p) false)
  unfolding active_from count_owned
  active_from_lem zero a n p h = absurd (omega arith)
  active_from_lem (suc k) a n zero h = rw add-zero (go (is_owned who c a) _ _)
    where
      go :
          (t : Bool) (l m : List Bool) →
          get_or (cond t (ltb 0 n ∷ l) (get_or c.active a false ∷ m)) 0 false ≡ cond t (ltb 0 n) (get_or c.active a false)
      go true l m = refl
      go false l m = refl
  active_from_lem (suc k) a n (suc p) h =
      let e : a + 1 + p ≡ a + suc p = omega arith in
      rw (← e)
      (go (is_owned who c a) (count_owned p (a + 1)) (active_from_lem k (a + 1) (n - 1) p (omega arith)) (active_from_lem k (a + 1) n p (omega arith)))
    where
      At : ℕ → List Bool → ℕ → Type 0
      At r l m = get_or l p false ≡ cond (is_owned who c (a + 1 + p)) (ltb m r) (get_or c.active (a + 1 + p) false)

      go :
          (t : Bool) (m : ℕ) →
          At (n - 1) (active_from k (a + 1) who (n - 1) c) m → At n (active_from k (a + 1) who n c) m →
          get_or (cond t (ltb 0 n ∷ active_from k (a + 1) who (n - 1) c) (get_or c.active a false ∷ active_from k (a + 1) who n c)) (suc p) false
          ≡ cond (is_owned who c (a + 1 + p)) (ltb (cond t (suc m) m) n) (get_or c.active (a + 1 + p) false)
      go true m f g = f ∙ rw (less_one m n)
      go false m f g = g

  -- Activity does not change the rings.
  pub active_rings : (n : ℕ) → (with_active who n c).rings ≡ c.rings
  unfolding with_active
  active_rings n = refl

  -- Nor the owners.
  pub active_owners : (n : ℕ) → (with_active who n c).owners ≡ c.owners
  unfolding with_active
  active_owners n = refl

  active_count : (k a n : ℕ) → length (active_from k a who n c) ≡ k
  unfolding active_from
  active_count zero a n = refl
  active_count (suc k) a n =
      go (is_owned who c a) (ltb 0 n) (get_or c.active a false) _ _ (active_count k (a + 1) (n - 1)) (active_count k (a + 1) n)
    where
      go :
          (t x y : Bool) (l m : List Bool) → length l ≡ k → length m ≡ k → length (cond t (x ∷ l) (y ∷ m)) ≡ suc k
      go true x y l m e f = ap suc e
      go false x y l m e f = ap suc f

  -- A mark for each place.
  pub active_length : (n : ℕ) → length (with_active who n c).active ≡ 30
  unfolding with_active
  active_length n = active_count 30 0 n

  module _ (p : ℕ) (h : p < 30) where
    -- The first n owned ones are active, the other owned ones are not, and what is not owned is as it was.
    pub active_at :
        (n : ℕ) →
        get_or (with_active who n c).active p false
        ≡ cond (is_owned who c p) (ltb (count_owned p 0) n) (get_or c.active p false)
    unfolding with_active
    active_at n = active_from_lem 30 0 n p h ∙ rw zero-add

    -- What is not owned is as it was.
    pub active_other :
        (n : ℕ) → is_owned who c p ≡ false → get_or (with_active who n c).active p false ≡ get_or c.active p false
    active_other n o = active_at n ∙ rw o

    -- With n at least the number of them, all owned ones are active.
    pub active_all :
        (n : ℕ) → length (queues_of (owned_rings who c)) ≤ n → is_owned who c p ≡ true →
        get_or (with_active who n c).active p false ≡ true
    active_all n g o =
        let l : count_owned p 0 < count_owned 30 0 = count_less p 30 0 h (rw zero-add o) in
        active_at n ∙ rw (o, lt-ltb (count_owned p 0) n (omega (arith, count_queues)))

    -- With 0 none is.
    pub active_none : is_owned who c p ≡ true → get_or (with_active who 0 c).active p false ≡ false
    active_none o = active_at 0 ∙ rw (o, le-ltb (count_owned p 0) 0 (omega arith))

-- The endpoints after a claim of interface i.
module _ (i : ℕ) (pending : List ℕ) (c : EndpointMap) where
  -- An entry for each place.
  pub claimed_whole : Whole (claimed_endpoints i pending c)
  unfolding claimed_endpoints
  claimed_whole =
      record {
        rings = tabulated_length (claimed_ring i pending c) 30 0;
        owners = tabulated_length (claimed_owner i pending c) 30 0;
        active = tabulated_length (claimed_active i pending c) 30 0;
      }

  module _ (p : ℕ) (h : p < 30) where
    -- The ring at a place.
    pub claimed_ring_lem : get_or (claimed_endpoints i pending c).rings p 0 ≡ claimed_ring i pending c p
    unfolding claimed_endpoints
    claimed_ring_lem = tabulated_at (claimed_ring i pending c) 30 p 0 h

    -- Its owner.
    pub claimed_owner_lem : get_or (claimed_endpoints i pending c).owners p 0 ≡ claimed_owner i pending c p
    unfolding claimed_endpoints
    claimed_owner_lem = tabulated_at (claimed_owner i pending c) 30 p 0 h

    -- Whether it is active.
    pub claimed_active_lem : get_or (claimed_endpoints i pending c).active p false ≡ claimed_active i pending c p
    unfolding claimed_endpoints
    claimed_active_lem = tabulated_at (claimed_active i pending c) 30 p false h

and-false : (a : Bool) → (a && false) ≡ false
and-false true = refl
and-false false = refl

-- The rings of all owners are all rings.
pub owned_any : (c : EndpointMap) (p : ℕ) → p < 30 → get_or (owned_rings Any c) p 0 ≡ get_or c.rings p 0
unfolding is_owned owns
owned_any c p h = owned_at Any c p h ∙ go (decided (eqb (get_or c.rings p 0) 0))
  where
    go :
        Decided (eqb (get_or c.rings p 0) 0) →
        cond (not (eqb (get_or c.rings p 0) 0) && true) (get_or c.rings p 0) 0 ≡ get_or c.rings p 0
    go (inl e) = rw e (sym (eqb-true (get_or c.rings p 0) 0 e))
    go (inr e) = rw e

-- One place of a claim of interface i: x is pending, and ring r of owner w was there.
claimed_i : (x r w i : ℕ) (o : Bool) → (not (eqb r 0) && eqb w i) ≡ o →
    cond (not (eqb (claimed_or x o x 0 r) 0) && eqb (claimed_or x o i 0 w) i) (claimed_or x o x 0 r) 0 ≡ x
claimed_i x r w i o e = go (decided (eqb x 0)) o e
  where
    go :
        Decided (eqb x 0) → (o : Bool) → (not (eqb r 0) && eqb w i) ≡ o →
        cond (not (eqb (claimed_or x o x 0 r) 0) && eqb (claimed_or x o i 0 w) i) (claimed_or x o x 0 r) 0 ≡ x
    go (inl z) true f = rw z (sym (eqb-true x 0 z))
    go (inl z) false f = rw (z, f) (sym (eqb-true x 0 z))
    go (inr z) o f = rw (z, z, eq-eqb i i refl)

claimed_j : (x r w i j : ℕ) (o : Bool) → (not (eqb r 0) && eqb w i) ≡ o → (j ≡ i → ⊥) → x ≡ 0 →
    cond (not (eqb (claimed_or x o x 0 r) 0) && eqb (claimed_or x o i 0 w) j) (claimed_or x o x 0 r) 0
    ≡ cond (not (eqb r 0) && eqb w j) r 0
claimed_j x r w i j true e n z =
    let s : w ≡ i = eqb-true w i (and_right (not (eqb r 0)) (eqb w i) e) in
    rw (z, ne_eqb w j (λ q. n (sym q ∙ s)), and-false (not (eqb r 0)))
claimed_j x r w i j false e n z = rw z

module _ (i : ℕ) (pending : List ℕ) (c : EndpointMap) (p : ℕ) (h : p < 30) where
  -- After a claim the interface has the pending rings.
  pub claimed_own : get_or (owned_rings (Interface i) (claimed_endpoints i pending c)) p 0 ≡ get_or pending p 0
  unfolding is_owned owns claimed_ring claimed_owner
  claimed_own =
      owned_at (Interface i) (claimed_endpoints i pending c) p h
      ∙ rw (claimed_ring_lem i pending c p h, claimed_owner_lem i pending c p h)
      (claimed_i (get_or pending p 0) (get_or c.rings p 0) (get_or c.owners p 0) i (is_owned (Interface i) c p) refl)

  -- Another interface has its own as before, where none is pending.
  pub claimed_others :
      (j : ℕ) → (j ≡ i → ⊥) → get_or pending p 0 ≡ 0 →
      get_or (owned_rings (Interface j) (claimed_endpoints i pending c)) p 0 ≡ get_or (owned_rings (Interface j) c) p 0
  unfolding is_owned owns claimed_ring claimed_owner
  claimed_others j n z =
      owned_at (Interface j) (claimed_endpoints i pending c) p h
      ∙ rw (claimed_ring_lem i pending c p h, claimed_owner_lem i pending c p h)
      (claimed_j (get_or pending p 0) (get_or c.rings p 0) (get_or c.owners p 0) i j (is_owned (Interface i) c p) refl n z)
      ∙ sym (owned_at (Interface j) c p h)

-- Queues of rings by place.

ring_cons :
    (d : ℕ) (q : Queue) (l : List Queue) (v x : ℕ) → cond (eqb q.dci d) q.ring v ≡ x → ring_for d (q ∷ l) v ≡ ring_for d l x
unfolding ring_for
ring_cons d q l v x e = rw (← e)

other_dci : (a p : ℕ) → a < p → eqb (dci_at a) (dci_at p) ≡ false
other_dci a p h = ne_eqb (dci_at a) (dci_at p) (λ e. let s : a ≡ p = dci_same a p e in omega arith)

module _ (rings : List ℕ) where
  queues_from : ℕ → ℕ → List Queue
  queues_from k a = gathered (λ p. record { dci = dci_at p; ring = get_or rings p 0 }) rings k a

  names_outside :
      (d k a : ℕ) → ((p : ℕ) → a ≤ p → p < a + k → dci_at p ≡ d → ⊥) → names d (queues_from k a) ≡ false
  unfolding queues_from gathered names
  names_outside d zero a h = refl
  names_outside d (suc k) a h =
      go (eqb (get_or rings a 0) 0) (queues_from k (a + 1))
      (names_outside d k (a + 1) (λ p l g. h p (omega arith) (omega arith)))
      (ne_eqb (dci_at a) d (h a (omega arith) (omega arith)))
    where
      go :
          (t : Bool) (l : List Queue) → names d l ≡ false → eqb (dci_at a) d ≡ false →
          names d (cond t l (record { dci = dci_at a; ring = get_or rings a 0 } ∷ l)) ≡ false
      go true l e f = e
      go false l e f = rw (f, e)

  names_after : (p k a : ℕ) → p < a → names (dci_at p) (queues_from k a) ≡ false
  names_after p k a h = names_outside (dci_at p) k a (λ q l g e. let s : q ≡ p = dci_same q p e in omega arith)

  names_from : (p k a : ℕ) → a ≤ p → p < a + k → names (dci_at p) (queues_from k a) ≡ not (eqb (get_or rings p 0) 0)
  unfolding queues_from gathered names
  names_from p zero a h g = absurd (omega arith)
  names_from p (suc k) a h g =
      go (dec_lt a p) (eqb (get_or rings a 0) 0) (queues_from k (a + 1)) refl
      (λ l. names_from p k (a + 1) (omega arith) (omega arith)) (λ l. names_after p k (a + 1) l)
    where
      go :
          Dec (a < p) → (t : Bool) (l : List Queue) → eqb (get_or rings a 0) 0 ≡ t →
          (a < p → names (dci_at p) l ≡ not (eqb (get_or rings p 0) 0)) → (p < a + 1 → names (dci_at p) l ≡ false) →
          names (dci_at p) (cond t l (record { dci = dci_at a; ring = get_or rings a 0 } ∷ l)) ≡ not (eqb (get_or rings p 0) 0)
      go (yes d) true l z e f = e d
      go (yes d) false l z e f = rw (other_dci a p d) (e d)
      go (no d) true l z e f = let s : p ≡ a = omega arith in rw (s, z) (rw s at (f (omega arith)))
      go (no d) false l z e f = let s : p ≡ a = omega arith in rw (s, z, eq-eqb (dci_at a) (dci_at a) refl)

  ring_for_from :
      (p k a v : ℕ) → a ≤ p → p < a + k →
      ring_for (dci_at p) (queues_from k a) v ≡ cond (eqb (get_or rings p 0) 0) v (get_or rings p 0)
  unfolding queues_from gathered
  ring_for_from p zero a v h g = absurd (omega arith)
  ring_for_from p (suc k) a v h g =
      go (dec_lt a p) (eqb (get_or rings a 0) 0) (queues_from k (a + 1)) refl
      (λ l. ring_for_from p k (a + 1) v (omega arith) (omega arith))
      (λ l x. ring_for_none (dci_at p) (queues_from k (a + 1)) x (names_after p k (a + 1) l))
    where
      go :
          Dec (a < p) → (t : Bool) (l : List Queue) → eqb (get_or rings a 0) 0 ≡ t →
          (a < p → ring_for (dci_at p) l v ≡ cond (eqb (get_or rings p 0) 0) v (get_or rings p 0)) →
          (p < a + 1 → (x : ℕ) → ring_for (dci_at p) l x ≡ x) →
          ring_for (dci_at p) (cond t l (record { dci = dci_at a; ring = get_or rings a 0 } ∷ l)) v
          ≡ cond (eqb (get_or rings p 0) 0) v (get_or rings p 0)
      go (yes d) true l z e f = e d
      go (yes d) false l z e f = ring_cons (dci_at p) _ l v v (rw (other_dci a p d)) ∙ e d
      go (no d) true l z e f = let s : p ≡ a = omega arith in rw (s, z) (rw s at (f (omega arith) v))
      go (no d) false l z e f =
          let s : p ≡ a = omega arith in
          ring_cons (dci_at p) _ l v (get_or rings a 0) (rw (eq-eqb (dci_at a) (dci_at p) (ap dci_at (sym s))))
          ∙ f (omega arith) (get_or rings a 0)
          ∙ rw (s, z)

  small_from : (k a : ℕ) → a + k ≤ 30 → Small (queues_from k a)
  unfolding queues_from gathered Small
  small_from zero a h = tt
  small_from (suc k) a h =
      go (eqb (get_or rings a 0) 0) (queues_from k (a + 1)) (dci_high a (omega arith)) (small_from k (a + 1) (omega arith))
    where
      go :
          (t : Bool) (l : List Queue) → dci_at a < 32 → Small l →
          Small (cond t l (record { dci = dci_at a; ring = get_or rings a 0 } ∷ l))
      go true l d e = e
      go false l d e = (d, e)

  -- The queues are of the places with a ring.
  pub queues_name : (p : ℕ) → p < 30 → names (dci_at p) (queues_of rings) ≡ not (eqb (get_or rings p 0) 0)
  unfolding queues_of queues_from
  queues_name p h = names_from p 30 0 (omega arith) h

  -- They name no Dci that is at no place.
  pub queues_other : (d : ℕ) → ((p : ℕ) → p < 30 → dci_at p ≡ d → ⊥) → names d (queues_of rings) ≡ false
  unfolding queues_of queues_from
  queues_other d h = names_outside d 30 0 (λ p l g. h p g)

  -- The route that they leave to a place whose route was v.
  pub queues_ring :
      (p v : ℕ) → p < 30 → ring_for (dci_at p) (queues_of rings) v ≡ cond (eqb (get_or rings p 0) 0) v (get_or rings p 0)
  unfolding queues_of queues_from
  queues_ring p v h = ring_for_from p 30 0 v (omega arith) h

  -- Their words are the slot's.
  pub queues_small : Small (queues_of rings)
  unfolding queues_of queues_from
  queues_small = small_from 30 0 (omega arith)

  -- There are at most as many as places.
  pub queues_fit : length (queues_of rings) ≤ 30
  unfolding queues_of
  queues_fit = gathered_le _ rings 30 0

-- Queues put together from their Dcis and rings.
pub queues_back : (qs : List Queue) → queues (queue_dcis qs) (queue_rings qs) ≡ qs
unfolding queues queue_dcis queue_rings
queues_back [] = refl
queues_back (q ∷ qs) = rw (queues_back qs)

-- What `queues_of` gives are the queues of the rings.
pub queues_as :
    (q : Queues) (rings : List ℕ) → QueuesAs q rings →
    queues (take q.count q.dcis) (take q.count q.rings) ≡ queues_of rings
queues_as q rings a = rw (a.dcis, a.rings) (queues_back (queues_of rings))

-- The rings drawn for endpoint words.

-- The Dcis of endpoint words.
unfoldable pub word_dcis : List ℕ → List ℕ
word_dcis [] = []
word_dcis (w ∷ ws) = dci_of (endpoint_descriptor w).address ∷ word_dcis ws

-- One for each word.
pub word_dcis_length : (words : List ℕ) → length (word_dcis words) ≡ length words
unfolding word_dcis
word_dcis_length [] = refl
word_dcis_length (w ∷ ws) = ap suc (word_dcis_length ws)

same_test : (a b p q : ℕ) → (a ≡ b → p ≡ q) → (p ≡ q → a ≡ b) → eqb a b ≡ eqb p q
same_test a b p q f g = go (decided (eqb p q))
  where
    go : Decided (eqb p q) → eqb a b ≡ eqb p q
    go (inl e) = rw e (eq-eqb a b (g (eqb-true p q e)))
    go (inr e) = rw e (ne_eqb a b (λ s. eqb-false p q e (f s)))

-- A word is at a place exactly if its Dci is.
pub word_at :
    (w p : ℕ) → p < 30 →
    eqb (dci_of (endpoint_descriptor w).address) (dci_at p) ≡ eqb (place_of (endpoint_descriptor w).address) p
word_at w p h =
    go (endpoint_descriptor w).address (endpoint_number w) (direction_in w) (dec_lt (endpoint_number w) 1) (address_made w) (dci_word w)
    (fields_fit w).direction (number_place w)
  where
    nowhere : (a d : ℕ) → a ≡ d * 128 → d < 2 → ((1 ≤ a) × (a ≤ 15)) ⊎ ((129 ≤ a) × (a ≤ 143)) → ⊥
    nowhere a d e l (inl r) = omega arith
    nowhere a d e l (inr r) = omega arith

    go :
        (a n d : ℕ) → Dec (n < 1) → a ≡ d * 128 + n → dci_of a ≡ 2 * n + d → d < 2 → (1 ≤ n → place_of a < 30) →
        eqb (dci_of a) (dci_at p) ≡ eqb (place_of a) p
    go a n d (yes l) e f g r =
        same_test (dci_of a) (dci_at p) (place_of a) p
        (λ s. absurd (omega (arith, dci_low p h)))
        (λ s. absurd (nowhere a d (omega arith) g (low_or_high a (rw s h))))
    go a n d (no l) e f g r =
        same_test (dci_of a) (dci_at p) (place_of a) p
        (λ s. dci_same (place_of a) p (place_dci a (r (omega arith)) ∙ s))
        (λ s. sym (place_dci a (r (omega arith))) ∙ ap dci_at s)

pending_from_lem :
    (words rings by : List ℕ) (p : ℕ) → p < 30 → length by ≡ 30 →
    get_or (pending_from words rings by) p 0 ≡ ring_for (dci_at p) (queues (word_dcis words) rings) (get_or by p 0)
unfolding pending_from word_dcis queues ring_for
pending_from_lem [] rings by p h l = refl
pending_from_lem (w ∷ ws) rings by p h l =
    let place = place_of (endpoint_descriptor w).address in
    let r = get_or rings 0 0 in
    pending_from_lem ws (drop 1 rings) (set by place r) p h (length-set by place r ∙ l)
    ∙ sym (ring_cons (dci_at p) (record { dci = dci_of (endpoint_descriptor w).address; ring = r }) (queues (word_dcis ws) (drop 1 rings)) (get_or by p 0) _
    (rw (word_at w p h) (sym (get_d_set by place p r 0 (rw l h)))))

not_not : (a : Bool) → not (not a) ≡ a
not_not true = refl
not_not false = refl

and_one : (a : Bool) → (a && true) ≡ a
and_one true = refl
and_one false = refl

-- Rings that are not 0 leave 0 only where no Dci is d.
ring_for_some :
    (d : ℕ) (ds rings : List ℕ) (v : ℕ) → ((i : ℕ) → i < length ds → get_or rings i 0 ≡ 0 → ⊥) →
    eqb (ring_for d (queues ds rings) v) 0 ≡ (not (elem d ds) && eqb v 0)
unfolding queues ring_for elem
ring_for_some d [] rings v h = refl
ring_for_some d (e ∷ ds) rings v h =
    let rest : (i : ℕ) → i < length ds → get_or (drop 1 rings) i 0 ≡ 0 → ⊥ = λ i l z. h (suc i) (omega arith) (second rings i ∙ z) in
    ring_for_some d ds (drop 1 rings) (cond (eqb e d) (get_or rings 0 0) v) rest
    ∙ go (decided (eqb e d))
  where
    second : (rs : List ℕ) (i : ℕ) → get_or rs (suc i) 0 ≡ get_or (drop 1 rs) i 0
    second [] i = refl
    second (r ∷ rs) i = refl

    go :
        Decided (eqb e d) →
        (not (elem d ds) && eqb (cond (eqb e d) (get_or rings 0 0) v) 0) ≡ (not (eqb d e || elem d ds) && eqb v 0)
    go (inl s) =
        rw (s, eq-eqb d e (sym (eqb-true e d s)), ne_eqb (get_or rings 0 0) 0 (h 0 (omega arith))) (and-false (not (elem d ds)))
    go (inr s) = rw (s, ne_eqb d e (λ q. eqb-false e d s (sym q)))

pending_count : (ws rs by : List ℕ) → length (pending_from ws rs by) ≡ length by
unfolding pending_from
pending_count [] rs by = refl
pending_count (w ∷ ws) rs by = pending_count ws (drop 1 rs) _ ∙ simp length-set

module _ (words rings : List ℕ) where
  -- A ring for each place.
  pub pending_length : length (pending_rings words rings) ≡ 30
  unfolding pending_rings
  pending_length = pending_count words rings (replicate 30 0)

  module _ (p : ℕ) (h : p < 30) where
    -- At each place the ring of its last word, 0 where there is no word.
    pub pending_at : get_or (pending_rings words rings) p 0 ≡ ring_for (dci_at p) (queues (word_dcis words) rings) 0
    unfolding pending_rings
    pending_at =
        pending_from_lem words rings (replicate 30 0) p h refl
        ∙ ap (ring_for (dci_at p) (queues (word_dcis words) rings)) (get_or-replicate 30 p 0 0 h)

    -- With rings that are not 0, there is one exactly where there is a word.
    pub pending_some :
        ((i : ℕ) → i < length words → get_or rings i 0 ≡ 0 → ⊥) →
        eqb (get_or (pending_rings words rings) p 0) 0 ≡ not (elem (dci_at p) (word_dcis words))
    pending_some z =
        rw pending_at
        (ring_for_some (dci_at p) (word_dcis words) rings 0 (λ i l. z i (rw (word_dcis_length words) at l)) ∙ and_one (not (elem (dci_at p) (word_dcis words))))

    -- The queues of the rings name the words' places.
    pub pending_name :
        ((i : ℕ) → i < length words → get_or rings i 0 ≡ 0 → ⊥) →
        names (dci_at p) (queues_of (pending_rings words rings)) ≡ elem (dci_at p) (word_dcis words)
    pending_name z = queues_name (pending_rings words rings) p h ∙ rw (pending_some z) (not_not (elem (dci_at p) (word_dcis words)))

-- Arrays filled from their front.

-- One more in an array that begins with the first i of a list.
pub padded_next :
    {A : Type 0} (n : ℕ) (b : A) (l : List A) (i : ℕ) → i < length l → i < n →
    set (padded n b (take i l)) i (get_or l i b) ≡ padded n b (take (i + 1) l)
padded_next n b l i h g =
    let t : length (take i l) ≡ i = length-take-le i l (omega arith) in
    let s : take (i + 1) l ≡ take i l ++ (get_or l i b ∷ []) = rw (add-one i) (take-suc l i b h) in
    let p : set (padded n b (take i l)) (length (take i l)) (get_or l i b) ≡ padded n b (take i l ++ (get_or l i b ∷ [])) =
    padded_put n b (take i l) (get_or l i b) (omega (arith, t)) in
    rw (s, ← p, t)
