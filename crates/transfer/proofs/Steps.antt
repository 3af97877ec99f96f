-- One turn of each loop: what a definition says of the queues from the i-th on.
use Prim.Native.Nat.{ℕ, zero, suc, ◌+◌, ◌-◌, ◌*◌, ◌≤◌, ◌<◌}
use mathlib.Core.Path.{◌≡◌, refl, sym, ap, ◌∙◌}
use mathlib.Core.Bool.{Bool, not, true, false, ◌||◌}
use mathlib.Core.List.{List, [], ◌∷◌}
use native.Mathlib.Omega.{arith}
use native.Mathlib.Nat.{add-zero}
use native.Mathlib.Numerals.{add-one}
use borrow.Author.Tests.{not-true, not-false}
use lib.Dec.{eqb}
use lib.ListN.{length, get_or, set, drop, replicate, drop_of_length-le}
use lib.Seq.{sets}
use Rattle.laws.proofs.Stores.{get_d_second}
use Rattle.transfer.proofs.Laws.{invalid_replaced, full_replaced, done_replaced, error_kept, done_moved}
use Rattle.std.specs.Prelude.{Ok, Err}
use Rattle.std.specs.List.{list_any, list_all, enumerate_from}
use Rattle.transfer.specs.declared.RouteError.TheVariants.{InvalidEndpoint, QueueFull}
use Rattle.transfer.specs.Routes.{Queue, queues, names, route_index, route_of, with_route, old_match, is_free, new_free, cleared, published, replaced, with_replaced, without_slot}

length_queues : (ds rs : List ℕ) → length (queues ds rs) ≡ length ds
unfolding queues
length_queues [] rs = refl
length_queues (d ∷ ds) rs = ap suc (length_queues ds (drop 1 rs))

abbrev queue_at : List ℕ → List ℕ → ℕ → Queue
queue_at ds rs i = record { dci = get_or ds i 0; ring = get_or rs i 0 }

queue_next : (ds rs : List ℕ) (i : ℕ) → i < length ds → drop i (queues ds rs) ≡ queue_at ds rs i ∷ drop (suc i) (queues ds rs)
unfolding queues
queue_next [] rs i h = absurd (omega arith)
queue_next (d ∷ ds) rs zero h = refl
queue_next (d ∷ ds) rs (suc i) h = rw (get_d_second rs i) (queue_next ds (drop 1 rs) i (omega arith))

module _ (ds rs : List ℕ) (i : ℕ) where
  rest_next : i < length ds → drop i (queues ds rs) ≡ queue_at ds rs i ∷ drop (i + 1) (queues ds rs)
  rest_next h = rw (add-one i) (queue_next ds rs i h)

  rest_none : length ds ≤ i → drop i (queues ds rs) ≡ []
  rest_none h = let l : length (queues ds rs) ≤ i = rw (length_queues ds rs) h in drop_of_length-le (queues ds rs) l

  module _ (routes : List ℕ) (slot : ℕ) where
    pub publish_next : i < length ds → published routes slot (drop i (queues ds rs)) ≡ published (with_route routes slot (get_or ds i 0) (get_or rs i 0)) slot (drop (i + 1) (queues ds rs))
    unfolding published
    publish_next h = rw (rest_next h)

    pub publish_none : length ds ≤ i → published routes slot (drop i (queues ds rs)) ≡ routes
    unfolding published
    publish_none h = rw (rest_none h)

-- The tests of all queues, each by its index: what stands in rings from n on is in rs.
module _ (routes : List ℕ) (slot : ℕ) (rings : List ℕ) where
  shifted : (rs : List ℕ) (n : ℕ) → ((i : ℕ) → get_or rings (n + i) 0 ≡ get_or rs i 0) → (i : ℕ) → get_or rings (n + 1 + i) 0 ≡ get_or (drop 1 rs) i 0
  shifted rs n h i =
      let e : n + 1 + i ≡ n + suc i = omega arith in
      ap (λ (k : ℕ). get_or rings k 0) e ∙ h (suc i) ∙ get_d_second rs i

  first_ring : (rs : List ℕ) (n : ℕ) → ((i : ℕ) → get_or rings (n + i) 0 ≡ get_or rs i 0) → get_or rings n 0 ≡ get_or rs 0 0
  first_ring rs n h = let e : n ≡ n + 0 = omega arith in ap (λ (k : ℕ). get_or rings k 0) e ∙ h 0

  match_from : (ds rs : List ℕ) (n : ℕ) → ((i : ℕ) → get_or rings (n + i) 0 ≡ get_or rs i 0)
      → list_all (λ (p : ℕ × ℕ). eqb (route_of routes slot p.1) (get_or rings p.0 0)) (enumerate_from n ds) ≡ old_match routes slot (queues ds rs)
  unfolding queues old_match
  match_from [] rs n h = refl
  match_from (d ∷ ds) rs n h = rw (first_ring rs n h, match_from ds (drop 1 rs) (n + 1) (shifted rs n h))

  pub match_all : (ds : List ℕ)
      → list_all (λ (p : ℕ × ℕ). eqb (route_of routes slot p.1) (get_or rings p.0 0)) (enumerate_from 0 ds) ≡ old_match routes slot (queues ds rings)
  match_all ds = match_from ds rings 0 (λ i. ap (λ (k : ℕ). get_or rings k 0) (omega arith))

  free_from : (old : List Queue) (ds rs : List ℕ) (n : ℕ) → ((i : ℕ) → get_or rings (n + i) 0 ≡ get_or rs i 0)
      → list_all (λ (p : ℕ × ℕ). is_free routes slot old (record { dci = p.1; ring = get_or rings p.0 0 })) (enumerate_from n ds) ≡ new_free routes slot old (queues ds rs)
  unfolding queues new_free
  free_from old [] rs n h = refl
  free_from old (d ∷ ds) rs n h = rw (first_ring rs n h, free_from old ds (drop 1 rs) (n + 1) (shifted rs n h))

  pub free_all : (old : List Queue) (ds : List ℕ)
      → list_all (λ (p : ℕ × ℕ). is_free routes slot old (record { dci = p.1; ring = get_or rings p.0 0 })) (enumerate_from 0 ds) ≡ new_free routes slot old (queues ds rings)
  free_all old ds = free_from old ds rings 0 (λ i. ap (λ (k : ℕ). get_or rings k 0) (omega arith))

-- The endpoints that queues name are their Dcis.
names_dcis : (d : ℕ) (ds rs : List ℕ) → list_any (λ y. eqb y d) ds ≡ names d (queues ds rs)
unfolding names queues
names_dcis d [] rs = refl
names_dcis d (e ∷ ds) rs = rw (names_dcis d ds (drop 1 rs))

swap_last : (a b c : Bool) → (a || b) || c ≡ (a || c) || b
swap_last true b c = refl
swap_last false true true = refl
swap_last false true false = refl
swap_last false false true = refl
swap_last false false false = refl

pub is_free_test : (routes : List ℕ) (slot d ring : ℕ) (old : List ℕ) →
    (eqb (route_of routes slot d) 0 || eqb (route_of routes slot d) ring) || list_any (λ y. eqb y d) old ≡ is_free routes slot (queues old []) (record { dci = d; ring = ring })
unfolding is_free
is_free_test routes slot d ring old = rw (names_dcis d old []) (swap_last (eqb (route_of routes slot d) 0) (eqb (route_of routes slot d) ring) (names d (queues old [])))

-- Where only the endpoints of the queues count.
names_rings : (d : ℕ) (ds rs : List ℕ) → names d (queues ds rs) ≡ names d (queues ds [])
unfolding names queues
names_rings d [] rs = refl
names_rings d (e ∷ ds) rs = rw (names_rings d ds (drop 1 rs))

pub free_rings_lem : (routes : List ℕ) (slot : ℕ) (ds rs : List ℕ) (new : List Queue) → new_free routes slot (queues ds rs) new ≡ new_free routes slot (queues ds []) new
unfolding new_free is_free
free_rings_lem routes slot ds rs [] = refl
free_rings_lem routes slot ds rs (q ∷ qs) = rw (names_rings q.dci ds rs, free_rings_lem routes slot ds rs qs)

-- Routes without rings are cleared.
pub clear_rings : (routes : List ℕ) (slot : ℕ) (ds rs : List ℕ) → cleared routes slot (queues ds rs) ≡ published routes slot (queues ds [])
unfolding cleared published queues
clear_rings routes slot [] rs = refl
clear_rings routes slot (d ∷ ds) rs = clear_rings (with_route routes slot d 0) slot ds (drop 1 rs)

-- The exits of `replace_queues`, by what the code found; the newest fact comes first.
module _ (routes : List ℕ) (slot : ℕ) (ds rs : List ℕ) (new : List Queue) where
  pub at_invalid : not (old_match routes slot (queues ds rs)) ≡ true → (Err InvalidEndpoint ≡ replaced routes slot (queues ds rs) new) × (routes ≡ with_replaced routes slot (queues ds rs) new)
  at_invalid o =
      let e : replaced routes slot (queues ds rs) new ≡ Err InvalidEndpoint = invalid_replaced routes slot (queues ds rs) new (not-true (old_match routes slot (queues ds rs)) o) in
      (sym e, sym (error_kept routes slot (queues ds rs) new _ e))

  pub at_full : not (new_free routes slot (queues ds []) new) ≡ true → not (old_match routes slot (queues ds rs)) ≡ false → (Err QueueFull ≡ replaced routes slot (queues ds rs) new) × (routes ≡ with_replaced routes slot (queues ds rs) new)
  at_full n o =
      let f : new_free routes slot (queues ds rs) new ≡ false = rw (free_rings_lem routes slot ds rs new) (not-true (new_free routes slot (queues ds []) new) n) in
      let e : replaced routes slot (queues ds rs) new ≡ Err QueueFull = full_replaced routes slot (queues ds rs) new (not-false (old_match routes slot (queues ds rs)) o) f in
      (sym e, sym (error_kept routes slot (queues ds rs) new _ e))

  pub at_done : (after : List ℕ) → after ≡ published (published routes slot (queues ds [])) slot new → not (new_free routes slot (queues ds []) new) ≡ false → not (old_match routes slot (queues ds rs)) ≡ false → (Ok tt ≡ replaced routes slot (queues ds rs) new) × (after ≡ with_replaced routes slot (queues ds rs) new)
  at_done after m n o =
      let f : new_free routes slot (queues ds rs) new ≡ true = rw (free_rings_lem routes slot ds rs new) (not-false (new_free routes slot (queues ds []) new) n) in
      let e : replaced routes slot (queues ds rs) new ≡ Ok tt = done_replaced routes slot (queues ds rs) new (not-false (old_match routes slot (queues ds rs)) o) f in
      (sym e, rw (done_moved routes slot (queues ds rs) new e, clear_rings routes slot ds rs) m)

-- The slot's words as 0, from a Dci on.
unfoldable pub cleared_from : List ℕ → ℕ → ℕ → List ℕ
cleared_from routes slot dci = sets routes (32 * slot + dci) (replicate (32 - dci) 0)

module _ (routes : List ℕ) (slot : ℕ) where
  pub clear_start : without_slot routes slot ≡ cleared_from routes slot 0
  unfolding without_slot cleared_from
  clear_start = rw (add-zero (32 * slot))

  module _ (dci : ℕ) where
    pub clear_end : 32 ≤ dci → cleared_from routes slot dci ≡ routes
    unfolding cleared_from
    clear_end h = let e : 32 - dci ≡ 0 = omega arith in rw e

    pub clear_next : dci < 32 → cleared_from routes slot dci ≡ cleared_from (set routes (route_index slot dci) 0) slot (dci + 1)
    unfolding cleared_from route_index
    clear_next h =
        let e : 32 - dci ≡ suc (32 - (dci + 1)) = omega arith in
        let n : 32 * slot + (dci + 1) ≡ suc (32 * slot + dci) = omega arith in
        rw (e, n)
