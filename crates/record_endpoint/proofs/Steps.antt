-- One turn of each loop.
use Prim.Native.Nat.{ℕ, zero, suc, ◌+◌, ◌-◌, ◌*◌, ◌/◌, ◌%◌, ◌≤◌, ◌<◌}
use mathlib.Core.Path.{◌≡◌, refl, sym, ap, ◌∙◌}
use mathlib.Core.Bool.{Bool, true, false, cond}
use mathlib.Core.List.{List, [], ◌∷◌, ◌++◌, append_assoc, append-nil}
use native.Mathlib.Numerals.{add-one}
use native.Mathlib.Nat.{add-zero, zero-add, sub-zero}
use native.Mathlib.Omega.{arith}
use native.Mathlib.Decide.{dec_lt}
use mathlib.Core.Logic.{inl, inr}
use borrow.Author.Tests.{lt-ltb, le-ltb, eq-eqb, ne_eqb, eqb-true, eqb-false}
use lib.Dec.{eqb, ltb}
use lib.ListN.{length, get_or, set, take, drop, replicate, length-append, length-set, length-replicate, drop_of_length-le}
use lib.Seq.{get_or-set_same, get_or-set_other, set-get_or, take-suc-set, take_all, take-append_seam, set-append_seam, set_out, drop-cons, drop-drop, get_or-drop}
use Rattle.laws.proofs.Cases.{Decided, decided}
use Rattle.descriptor.specs.Word.{endpoint_descriptor}
use Rattle.transfer.specs.Routes.{Queue}
use Rattle.record_endpoint.specs.Order.{place_of, address_at, dci_at}
use Rattle.record_endpoint.specs.Endpoint.{blank, addresses, padded}
use Rattle.record_endpoint.specs.EndpointMap.{Whole, no_endpoints, with_endpoint, is_active, endpoint_map_from, gathered, is_owned, tabulated, claimed_ring, claimed_owner, claimed_active, claimed_endpoints, active_from, with_active, pending_from, queue_dcis, queue_rings}
use Rattle.record_endpoint.specs.declared.entry.Endpoint.{Endpoint}
use Rattle.record_endpoint.specs.declared.endpoint_map.EndpointMap.{EndpointMap}
use Rattle.record_endpoint.specs.declared.endpoint_map.Owner.{Owner}
use Rattle.record_endpoint.specs.declared.endpoint_map.Owner.TheVariants.{Interface}

-- What stands at a place after one was written.
pub get_d_set :
    {A : Type 0} (l : List A) (i p : ℕ) (v d : A) → p < length l → get_or (set l i v) p d ≡ cond (eqb i p) v (get_or l p d)
get_d_set l i p v d h = go (decided (eqb i p))
  where
    go : Decided (eqb i p) → get_or (set l i v) p d ≡ cond (eqb i p) v (get_or l p d)
    go (inl e) = let s : i ≡ p = eqb-true i p e in rw (e, s) (get_or-set_same l p v d h)
    go (inr e) = rw e (get_or-set_other l i p v d (λ s. eqb-false i p e (sym s)))

-- An array written place by place.
tabulated_snoc : {A : Type 0} (f : ℕ → A) (k a : ℕ) → tabulated f (suc k) a ≡ tabulated f k a ++ (f (a + k) ∷ [])
unfolding tabulated
tabulated_snoc f zero a = rw add-zero
tabulated_snoc f (suc k) a =
    let e : a + 1 + k ≡ a + suc k = omega arith in rw (tabulated_snoc f k (a + 1), e)

-- An array of m places written in place: the first p stand as f says, the others as they were.
pub record Written {A : Type 0} (m : ℕ) (f : ℕ → A) (was : List A) (d : A) (p : ℕ) (l : List A) : Type 0 where
  pub written : take p l ≡ tabulated f p 0
  pub left : (q : ℕ) → p ≤ q → get_or l q d ≡ get_or was q d
  pub room : length l ≡ m

pub write_none : {A : Type 0} (m : ℕ) (f : ℕ → A) (l : List A) (d : A) → length l ≡ m → Written m f l d 0 l
unfolding tabulated
write_none m f l d e = record { written = refl; left = λ q h. refl; room = e }

pub write_next :
    {A : Type 0} {m : ℕ} {f : ℕ → A} {was : List A} {d : A} {p : ℕ} {l : List A} (v : A) → Written m f was d p l → p < m →
    v ≡ f p → Written m f was d (p + 1) (set l p v)
write_next {m = m} {f} {was} {d} {p} {l} v w h q =
    record {
      written = rw (add-one p, take-suc-set l p v (rw w.room h), tabulated_snoc f p 0, w.written, q, zero-add);
      left = λ r g. get_or-set_other l p r v d (λ e. absurd (omega arith)) ∙ w.left r (omega arith);
      room = length-set l p v ∙ w.room;
    }

-- what stands as it should is not written
pub write_keep :
    {A : Type 0} {m : ℕ} {f : ℕ → A} {was : List A} {d : A} {p : ℕ} {l : List A} → Written m f was d p l → p < m →
    get_or was p d ≡ f p → Written m f was d (p + 1) l
write_keep {d = d} {p} {l} w h q =
    rw (set-get_or l p d) at (write_next (get_or l p d) w h (w.left p (omega arith) ∙ q))

pub write_done :
    {A : Type 0} {m : ℕ} {f : ℕ → A} {was : List A} {d : A} {p : ℕ} {l : List A} → Written m f was d p l → m ≤ p → p ≤ m →
    l ≡ tabulated f m 0
write_done {m = m} {f} {was} {d} {p} {l} w g h =
    let r : length l ≡ m = w.room in
    let same : p ≡ m = omega arith in
    sym (take_all p l (omega arith)) ∙ w.written ∙ ap (λ (k : ℕ). tabulated f k 0) same

-- An array filled from its front, blanks after it.
module _ {A : Type 0} (n : ℕ) (b : A) where
  pub padded_put : (l : List A) (a : A) → length l < n → set (padded n b l) (length l) a ≡ padded n b (l ++ (a ∷ []))
  unfolding padded
  padded_put l a h =
      let m : n - length l ≡ suc (n - (length l + 1)) = omega arith in
      let m' : n - length (l ++ (a ∷ [])) ≡ n - (length l + 1) = simp length-append in
      rw (m, m', set-append_seam, append_assoc) refl

  take_padded : (l : List A) → take (length l) (padded n b l) ≡ l
  unfolding padded
  take_padded l = take-append_seam l (replicate (n - length l) b)

  pub take_filled : (out : List A) (k : ℕ) (l : List A) → out ≡ padded n b l → k ≡ length l → take k out ≡ l
  take_filled out k l e q = rw (e, q) (take_padded l)

module _ {A : Type 0} (f : ℕ → A) (rings : List ℕ) where
  gathered_snoc :
      (k a : ℕ) →
      gathered f rings (suc k) a ≡ gathered f rings k a ++ cond (eqb (get_or rings (a + k) 0) 0) [] (f (a + k) ∷ [])
  unfolding gathered
  gathered_snoc zero a = rw add-zero
  gathered_snoc (suc k) a =
      let e : a + 1 + k ≡ a + suc k = omega arith in
      rw (gathered_snoc k (a + 1), e) (go (eqb (get_or rings a 0) 0) _ _)
    where
      go : (t : Bool) (l m : List A) → cond t (l ++ m) (f a ∷ l ++ m) ≡ cond t l (f a ∷ l) ++ m
      go true l m = refl
      go false l m = refl

  gathered_out : (p : ℕ) → get_or rings p 0 ≡ 0 → gathered f rings (p + 1) 0 ≡ gathered f rings p 0
  gathered_out p h = rw (add-one p, gathered_snoc p 0, zero-add, eq-eqb (get_or rings p 0) 0 h, append-nil)

  gathered_in :
      (p : ℕ) → (get_or rings p 0 ≡ 0 → ⊥) → gathered f rings (p + 1) 0 ≡ gathered f rings p 0 ++ (f p ∷ [])
  gathered_in p h = rw (add-one p, gathered_snoc p 0, zero-add, ne_eqb (get_or rings p 0) 0 h)

  pub gathered_le : (k a : ℕ) → length (gathered f rings k a) ≤ k
  unfolding gathered
  gathered_le zero a = omega arith
  gathered_le (suc k) a = go (eqb (get_or rings a 0) 0) (gathered f rings k (a + 1)) (gathered_le k (a + 1))
    where
      go : (t : Bool) (l : List A) → length l ≤ k → length (cond t l (f a ∷ l)) ≤ suc k
      go true l h = omega arith
      go false l h = omega arith

-- An array of m places that begins with what is gathered of the first p, n in all.
pub record Filled {A : Type 0} (m : ℕ) (b : A) (f : ℕ → A) (rings : List ℕ) (p : ℕ) (out : List A) (n : ℕ) : Type 0 where
  pub listed : out ≡ padded m b (gathered f rings p 0)
  pub count : n ≡ length (gathered f rings p 0)
  pub room : length out ≡ m

pub fill_none : {A : Type 0} (m : ℕ) (b : A) (f : ℕ → A) (rings : List ℕ) → Filled m b f rings 0 (replicate m b) 0
unfolding padded gathered
fill_none m b f rings = record { listed = rw sub-zero; count = refl; room = length-replicate m b }

-- one turn that puts a value after those that are there
pub fill_next :
    {A : Type 0} {m : ℕ} {b : A} {f : ℕ → A} {rings : List ℕ} {p : ℕ} {out : List A} {n : ℕ} (v : A) →
    Filled m b f rings p out n → p < m → (get_or rings p 0 ≡ 0 → ⊥) → v ≡ f p →
    Filled m b f rings (p + 1) (set out n v) (n + 1)
fill_next {m = m} {b} {f} {rings} {p} {out} {n} v w h z q =
    let room : length (gathered f rings p 0) < m = omega (arith, gathered_le f rings p 0) in
    let more : gathered f rings (p + 1) 0 ≡ gathered f rings p 0 ++ (f p ∷ []) = gathered_in f rings p z in
    record {
      listed = rw (more, w.listed, w.count, q) (padded_put m b (gathered f rings p 0) (f p) room);
      count = rw (more, w.count, length-append) (omega arith);
      room = length-set out n v ∙ w.room;
    }

-- and one that puts none
pub fill_skip :
    {A : Type 0} {m : ℕ} {b : A} {f : ℕ → A} {rings : List ℕ} {p : ℕ} {out : List A} {n : ℕ} →
    Filled m b f rings p out n → get_or rings p 0 ≡ 0 → Filled m b f rings (p + 1) out n
fill_skip {f = f} {rings} {p} w z =
    let same : gathered f rings (p + 1) 0 ≡ gathered f rings p 0 = gathered_out f rings p z in
    record { listed = rw same w.listed; count = rw same w.count; room = w.room }

-- how many there are does not depend on what is said of them
pub gathered_length :
    {A B : Type 0} (f : ℕ → A) (g : ℕ → B) (rings : List ℕ) (k a : ℕ) →
    length (gathered f rings k a) ≡ length (gathered g rings k a)
unfolding gathered
gathered_length f g rings zero a = refl
gathered_length {A = A} {B = B} f g rings (suc k) a = go (eqb (get_or rings a 0) 0) _ _ (gathered_length f g rings k (a + 1))
  where
    go : (t : Bool) (l : List A) (m : List B) → length l ≡ length m → length (cond t l (f a ∷ l)) ≡ length (cond t m (g a ∷ m))
    go true l m e = e
    go false l m e = ap suc e

-- `with_active`
active_next :
    (who : Owner) (c : EndpointMap) (m : ℕ) (l : List Bool) (p n n' : ℕ) (v : Bool) →
    p < m → p < length l →
    v ≡ cond (is_owned who c p) (ltb 0 n) (get_or c.active p false) →
    n' ≡ cond (is_owned who c p) (n - 1) n →
    take p l ++ active_from (m - p) p who n c
    ≡ take (p + 1) (set l p v) ++ active_from (m - (p + 1)) (p + 1) who n' c
unfolding active_from
active_next who c m l p n n' v h g ev en =
    let e : m - p ≡ suc (m - (p + 1)) = omega arith in
    let t : take (p + 1) (set l p v) ≡ take p l ++ (v ∷ []) = rw add-one (take-suc-set l p v g) in
    rw (e, t, append_assoc, ev, en) (go (is_owned who c p))
  where
    go :
        (b : Bool) →
        take p l ++ cond b (ltb 0 n ∷ active_from (m - (p + 1)) (p + 1) who (n - 1) c) (get_or c.active p false ∷ active_from (m - (p + 1)) (p + 1) who n c)
        ≡ take p l ++ (cond b (ltb 0 n) (get_or c.active p false) ∷ active_from (m - (p + 1)) (p + 1) who (cond b (n - 1) n) c)
    go true = refl
    go false = refl

active_done :
    (who : Owner) (c : EndpointMap) (m : ℕ) (l : List Bool) (p n : ℕ) →
    m ≤ p → length l ≤ p → take p l ++ active_from (m - p) p who n c ≡ l
unfolding active_from
active_done who c m l p n h g = let e : m - p ≡ zero = omega arith in rw (e, take_all p l g, append-nil)

less_than : (m n : ℕ) → ltb m n ≡ ltb 0 (n - m)
less_than m n = go (dec_lt m n)
  where
    go : Dec (m < n) → ltb m n ≡ ltb 0 (n - m)
    go (yes l) = lt-ltb m n l ∙ sym (lt-ltb 0 (n - m) (omega arith))
    go (no l) = le-ltb m n (omega arith) ∙ sym (le-ltb 0 (n - m) (omega arith))

map_as :
    (c : EndpointMap) (rings owners : List ℕ) (active : List Bool) → c.rings ≡ rings → c.owners ≡ owners → c.active ≡ active →
    c ≡ record { rings = rings; owners = owners; active = active }
map_as c rings owners active p q r = rw (← p, ← q, ← r)

-- of the first p places `seen` are owned, and their marks are those of the definition
pub record Activated (who : Owner) (n : ℕ) (was : EndpointMap) (seen p : ℕ) (c : EndpointMap) : Type 0 where
  pub rings : c.rings ≡ was.rings
  pub owners : c.owners ≡ was.owners
  pub left : (q : ℕ) → p ≤ q → get_or c.active q false ≡ get_or was.active q false
  pub room : length c.active ≡ 30
  pub marked : active_from 30 0 who n was ≡ take p c.active ++ active_from (30 - p) p who (n - seen) was

pub activated_none : (who : Owner) (n : ℕ) (c : EndpointMap) → length c.active ≡ 30 → Activated who n c 0 0 c
activated_none who n c e =
    record { rings = refl; owners = refl; left = λ q h. refl; room = e; marked = rw (sub-zero 30, sub-zero n) }

module _ {who : Owner} {n : ℕ} {was : EndpointMap} {seen p : ℕ} {c : EndpointMap} (a : Activated who n was seen p c) where
  owned_was : is_owned who was p ≡ is_owned who c p
  unfolding is_owned
  owned_was = rw (a.rings, a.owners)

  pub activated_next :
      p < 30 → is_owned who c p ≡ true →
      Activated who n was (seen + 1) (p + 1) (record { rings = c.rings; owners = c.owners; active = set c.active p (ltb seen n) })
  activated_next h o =
      record {
        rings = a.rings;
        owners = a.owners;
        left = λ q g. get_or-set_other c.active p q (ltb seen n) false (λ e. absurd (omega arith)) ∙ a.left q (omega arith);
        room = length-set c.active p (ltb seen n) ∙ a.room;
        marked =
            let e : n - (seen + 1) ≡ n - seen - 1 = omega arith in
            a.marked
            ∙ active_next who was 30 c.active p (n - seen) (n - (seen + 1)) (ltb seen n) h (rw a.room h)
            (rw (owned_was, o) (less_than seen n)) (rw (owned_was, o) e);
      }

  pub activated_keep : p < 30 → is_owned who c p ≡ false → Activated who n was seen (p + 1) c
  activated_keep h o =
      record {
        rings = a.rings;
        owners = a.owners;
        left = λ q g. a.left q (omega arith);
        room = a.room;
        marked =
            a.marked
            ∙ active_next who was 30 c.active p (n - seen) (n - seen) (get_or c.active p false) h (rw a.room h)
            (rw (owned_was, o) (a.left p (omega arith))) (rw (owned_was, o))
            ∙ rw (set-get_or c.active p false);
      }

  pub activated_done : 30 ≤ p → c ≡ with_active who n was
  unfolding with_active
  activated_done h =
      map_as c was.rings was.owners (active_from 30 0 who n was) a.rings a.owners
      (sym (a.marked ∙ active_done who was 30 c.active p (n - seen) h (rw a.room h)))

-- the first of those from the i-th on
first_drop : {A : Type 0} (i : ℕ) (l : List A) (d : A) → get_or (drop i l) 0 d ≡ get_or l i d
first_drop i l d = get_or-drop i l 0 d ∙ rw (add-zero i)

-- `cells_of`
map_step :
    (m : ℕ) (eps eps' : List Endpoint) (owners owners' : List ℕ) (c : EndpointMap) (e : Endpoint) (o : ℕ) →
    drop 1 eps ≡ eps' → drop 1 owners ≡ owners' → get_or eps 0 blank ≡ e → get_or owners 0 0 ≡ o →
    endpoint_map_from (suc m) eps owners c ≡ endpoint_map_from m eps' owners' (with_endpoint c (place_of e.address) e.ring o (is_active e.handle))
unfolding endpoint_map_from
map_step m eps eps' owners owners' c e o p q r s = rw (← p, ← q, ← r, ← s)

pub map_next :
    (eps : List Endpoint) (owners : List ℕ) (n i : ℕ) (c : EndpointMap) →
    i < n →
    endpoint_map_from (n - i) (drop i eps) (drop i owners) c
    ≡ endpoint_map_from (n - (i + 1)) (drop (i + 1) eps) (drop (i + 1) owners)
    (with_endpoint c (place_of (get_or eps i blank).address) (get_or eps i blank).ring (get_or owners i 0) (is_active (get_or eps i blank).handle))
map_next eps owners n i c h =
    let e : n - i ≡ suc (n - (i + 1)) = omega arith in
    rw e
    (map_step (n - (i + 1)) (drop i eps) (drop (i + 1) eps) (drop i owners) (drop (i + 1) owners) c (get_or eps i blank) (get_or owners i 0)
    (drop-drop 1 i eps) (drop-drop 1 i owners) (first_drop i eps blank) (first_drop i owners 0))

pub map_done :
    (eps : List Endpoint) (owners : List ℕ) (n i : ℕ) (c : EndpointMap) → n ≤ i → endpoint_map_from (n - i) eps owners c ≡ c
unfolding endpoint_map_from
map_done eps owners n i c h = let e : n - i ≡ zero = omega arith in rw e

pub whole_none : Whole no_endpoints
unfolding no_endpoints
whole_none = record { rings = refl; owners = refl; active = refl }

pub whole_entry :
    (c : EndpointMap) (place ring owner : ℕ) (on : Bool) → Whole c → Whole (with_endpoint c place ring owner on)
unfolding with_endpoint
whole_entry c place ring owner on w =
    record {
      rings = length-set c.rings place ring ∙ w.rings;
      owners = length-set c.owners place owner ∙ w.owners;
      active = length-set c.active place on ∙ w.active;
    }

-- a place past the end is none
pub entry_out :
    (c : EndpointMap) (place ring owner : ℕ) (on : Bool) → Whole c → 30 ≤ place → with_endpoint c place ring owner on ≡ c
unfolding with_endpoint
entry_out c place ring owner on w h =
    rw (
      set_out c.rings place ring (omega (arith, w.rings)),
      set_out c.owners place owner (omega (arith, w.owners)),
      set_out c.active place on (omega (arith, w.active)),
    )

-- `claimed_cells`
pub record Claiming (i : ℕ) (pending : List ℕ) (was : EndpointMap) (p : ℕ) (c : EndpointMap) : Type 0 where
  pub rings : Written 30 (claimed_ring i pending was) was.rings 0 p c.rings
  pub owners : Written 30 (claimed_owner i pending was) was.owners 0 p c.owners
  pub active : Written 30 (claimed_active i pending was) was.active false p c.active

pub claiming_none : (i : ℕ) (pending : List ℕ) (c : EndpointMap) → Whole c → Claiming i pending c 0 c
claiming_none i pending c w =
    record {
      rings = write_none 30 _ c.rings 0 w.rings;
      owners = write_none 30 _ c.owners 0 w.owners;
      active = write_none 30 _ c.active false w.active;
    }

module _ {i : ℕ} {pending : List ℕ} {was : EndpointMap} {p : ℕ} {c : EndpointMap} (a : Claiming i pending was p c) where
  claiming_set :
      (r o : ℕ) (on : Bool) → p < 30 → r ≡ claimed_ring i pending was p → o ≡ claimed_owner i pending was p →
      on ≡ claimed_active i pending was p → Claiming i pending was (p + 1) (with_endpoint c p r o on)
  unfolding with_endpoint
  claiming_set r o on h e f g =
      record {
        rings = write_next r a.rings h e;
        owners = write_next o a.owners h f;
        active = write_next on a.active h g;
      }

  owned_before : is_owned (Interface i) was p ≡ is_owned (Interface i) c p
  unfolding is_owned
  owned_before = rw (a.rings.left p (omega arith), a.owners.left p (omega arith))

  -- a ring is pending
  pub claiming_put :
      p < 30 → (get_or pending p 0 ≡ 0 → ⊥) → Claiming i pending was (p + 1) (with_endpoint c p (get_or pending p 0) i true)
  unfolding claimed_ring claimed_owner claimed_active
  claiming_put h z =
      let e : eqb (get_or pending p 0) 0 ≡ false = ne_eqb (get_or pending p 0) 0 z in
      claiming_set (get_or pending p 0) i true h (rw e) (rw e) (rw e)

  module _ (h : p < 30) (z : get_or pending p 0 ≡ 0) where
    unoffered : eqb (get_or pending p 0) 0 ≡ true
    unoffered = eq-eqb (get_or pending p 0) 0 z

    -- none is, and the endpoint is the interface's
    pub claiming_gone : is_owned (Interface i) c p ≡ true → Claiming i pending was (p + 1) (with_endpoint c p 0 0 false)
    unfolding claimed_ring claimed_owner claimed_active
    claiming_gone o =
        claiming_set 0 0 false h (rw (unoffered, owned_before, o)) (rw (unoffered, owned_before, o)) (rw (unoffered, owned_before, o))

    -- or it is not
    pub claiming_keep : is_owned (Interface i) c p ≡ false → Claiming i pending was (p + 1) c
    unfolding claimed_ring claimed_owner claimed_active
    claiming_keep o =
        record {
          rings = write_keep a.rings h (rw (unoffered, owned_before, o));
          owners = write_keep a.owners h (rw (unoffered, owned_before, o));
          active = write_keep a.active h (rw (unoffered, owned_before, o));
        }

  pub claiming_done : 30 ≤ p → p ≤ 30 → c ≡ claimed_endpoints i pending was
  unfolding claimed_endpoints
  claiming_done g h =
      map_as c _ _ _ (write_done a.rings g h) (write_done a.owners g h) (write_done a.active g h)

-- the addresses of the first n endpoints
pub addresses_length : (eps : List Endpoint) → length (addresses eps) ≡ length eps
unfolding addresses
addresses_length [] = refl
addresses_length (e ∷ eps) = ap suc (addresses_length eps)

pub addresses_at : (eps : List Endpoint) (i : ℕ) → get_or (addresses eps) i 0 ≡ (get_or eps i blank).address
unfolding addresses
addresses_at [] i = refl
addresses_at (e ∷ eps) zero = refl
addresses_at (e ∷ eps) (suc i) = addresses_at eps i

pub addresses_next :
    (eps : List Endpoint) (i : ℕ) → i < length eps → drop i (addresses eps) ≡ (get_or eps i blank).address ∷ drop (i + 1) (addresses eps)
addresses_next eps i h = rw (← addresses_at eps i, add-one i) (drop-cons (addresses eps) i 0 (rw (addresses_length eps) h))

pub addresses_none : (eps : List Endpoint) (i : ℕ) → length eps ≤ i → drop i (addresses eps) ≡ []
addresses_none eps i h = let g : length (addresses eps) ≤ i = rw (addresses_length eps) h in drop_of_length-le (addresses eps) g

-- `pending_rings`
pending_step :
    (w : ℕ) (ws rings rings' by : List ℕ) (r : ℕ) →
    drop 1 rings ≡ rings' → get_or rings 0 0 ≡ r →
    pending_from (w ∷ ws) rings by ≡ pending_from ws rings' (set by (place_of (endpoint_descriptor w).address) r)
unfolding pending_from
pending_step w ws rings rings' by r p q = rw (← p, ← q)

pub pending_next :
    (words rings by : List ℕ) (i : ℕ) →
    i < length words →
    pending_from (drop i words) (drop i rings) by
    ≡ pending_from (drop (i + 1) words) (drop (i + 1) rings) (set by (place_of (endpoint_descriptor (get_or words i 0)).address) (get_or rings i 0))
pending_next words rings by i h =
    let e : drop i words ≡ get_or words i 0 ∷ drop (i + 1) words = rw (add-one i) (drop-cons words i 0 h) in
    rw e
    (pending_step (get_or words i 0) (drop (i + 1) words) (drop i rings) (drop (i + 1) rings) by (get_or rings i 0)
    (drop-drop 1 i rings) (first_drop i rings 0))

pub pending_none : (words rings by : List ℕ) (i : ℕ) → length words ≤ i → pending_from (drop i words) rings by ≡ by
unfolding pending_from
pending_none words rings by i h = rw (drop_of_length-le words h)

-- what `queues_of` and `endpoints_of` compute of a place
pub dci_made : (p : ℕ) → p < 30 → 2 * (p % 15 + 1) + p / 15 ≡ dci_at p
unfolding dci_at
dci_made p h = go (dec_lt p 15)
  where
    go : Dec (p < 15) → 2 * (p % 15 + 1) + p / 15 ≡ cond (ltb p 15) (2 * (p + 1)) (2 * (p - 14) + 1)
    go (yes l) = rw (lt-ltb p 15 l) (omega arith)
    go (no l) = rw (le-ltb p 15 (omega arith)) (omega arith)

pub address_made : (p : ℕ) → p < 30 → 128 * (p / 15) + p % 15 + 1 ≡ address_at p
unfolding address_at
address_made p h = go (dec_lt p 15)
  where
    go : Dec (p < 15) → 128 * (p / 15) + p % 15 + 1 ≡ cond (ltb p 15) (p + 1) (128 + (p - 14))
    go (yes l) = rw (lt-ltb p 15 l) (omega arith)
    go (no l) = rw (le-ltb p 15 (omega arith)) (omega arith)

-- the arrays of `queues_of` are of its queues
pub queues_dcis :
    (by rings : List ℕ) (k a : ℕ) →
    queue_dcis (gathered (λ p. record { dci = dci_at p; ring = get_or by p 0 }) rings k a) ≡ gathered dci_at rings k a
unfolding gathered queue_dcis
queues_dcis by rings zero a = refl
queues_dcis by rings (suc k) a = go (eqb (get_or rings a 0) 0) _ _ (queues_dcis by rings k (a + 1))
  where
    go :
        (t : Bool) (l : List Queue) (m : List ℕ) → queue_dcis l ≡ m →
        queue_dcis (cond t l (record { dci = dci_at a; ring = get_or by a 0 } ∷ l)) ≡ cond t m (dci_at a ∷ m)
    go true l m e = e
    go false l m e = ap (λ (r : List ℕ). dci_at a ∷ r) e

pub queues_rings :
    (by rings : List ℕ) (k a : ℕ) →
    queue_rings (gathered (λ p. record { dci = dci_at p; ring = get_or by p 0 }) rings k a)
    ≡ gathered (λ p. get_or by p 0) rings k a
unfolding gathered queue_rings
queues_rings by rings zero a = refl
queues_rings by rings (suc k) a = go (eqb (get_or rings a 0) 0) _ _ (queues_rings by rings k (a + 1))
  where
    go :
        (t : Bool) (l : List Queue) (m : List ℕ) → queue_rings l ≡ m →
        queue_rings (cond t l (record { dci = dci_at a; ring = get_or by a 0 } ∷ l)) ≡ cond t m (get_or by a 0 ∷ m)
    go true l m e = e
    go false l m e = ap (λ (r : List ℕ). get_or by a 0 ∷ r) e
