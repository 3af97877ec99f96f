-- The rings that queues keep, and rings by place.
use Prim.Native.Nat.{ℕ, zero, suc, ◌+◌, ◌≤◌, ◌<◌}
use mathlib.Core.Path.{◌≡◌, refl, sym, ◌∙◌, ap}
use mathlib.Core.Bool.{Bool, true, false, not, cond, ◌&&◌, ◌||◌}
use mathlib.Core.List.{List, [], ◌∷◌}
use mathlib.Core.Logic.{◌⊎◌, inl, inr, ⊎_elim}
use native.Mathlib.Omega.{arith}
use native.Mathlib.Decide.{dec_lt}
use borrow.Author.Tests.{eq-eqb, ne_eqb, eqb-true, eqb-false, not-true}
use lib.Dec.{eqb}
use lib.ListN.{length, get_or}
use Rattle.laws.specs.Distinct.{elem}
use Rattle.laws.proofs.Tests.{and_left, and_right, not_both}
use Rattle.laws.proofs.Cases.{Decided, decided, or_left, or_right, or_cases}
use Rattle.laws.proofs.Distinct.{elem_none, elem_here, elem_there, elem_cases, elem_place}
use Rattle.transfer.specs.Routes.{Queue, ring_for, names}
use Rattle.transfer.proofs.Laws.{ring_for_none}
use Rattle.record_endpoint.specs.Order.{dci_at}
use Rattle.record_endpoint.specs.declared.endpoint_map.EndpointMap.{EndpointMap}
use Rattle.record_endpoint.specs.declared.endpoint_map.Owner.{Owner}
use Rattle.record_endpoint.specs.declared.endpoint_map.Owner.TheVariants.{Interface}
use Rattle.record_endpoint.specs.EndpointMap.{gathered, queues_of, queue_rings, is_owned, owned_rings, claimed_ring, claimed_endpoints}
use Rattle.record_endpoint.proofs.Laws.{dci_place, owned_at, claimed_ring_lem, claimed_whole, tabulated_length}
use Rattle.theorem_slot.specs.Groups.{keeps}
use Rattle.theorem_slot.proofs.Bools.{same_if}

-- What is kept is the ring of an endpoint that is named, whatever its route was.
pub record NamedRing (x : ℕ) (qs : List Queue) : Type 0 where
  pub dci : ℕ
  pub named : names dci qs ≡ true
  pub ring : (v : ℕ) → ring_for dci qs v ≡ x

pub kept_named : (x : ℕ) (qs : List Queue) → keeps x qs ≡ true → NamedRing x qs
unfolding keeps names ring_for
kept_named x [] e = not_both false e refl
kept_named x (q ∷ qs) e = go (or_cases (eqb x q.ring && not (names q.dci qs)) (keeps x qs) e) (kept_named x qs)
  where
    go :
        ((eqb x q.ring && not (names q.dci qs)) ≡ true) ⊎ (keeps x qs ≡ true) → (keeps x qs ≡ true → NamedRing x qs) →
        NamedRing x (q ∷ qs)
    go (inl h) r =
        record {
          dci = q.dci;
          named = or_left _ _ (eq-eqb q.dci q.dci refl);
          ring = λ v.
              rw (eq-eqb q.dci q.dci refl)
              (ring_for_none q.dci qs q.ring (not-true (names q.dci qs) (and_right (eqb x q.ring) _ h))
              ∙ sym (eqb-true x q.ring (and_left (eqb x q.ring) _ h)));
        }
    go (inr h) r =
        let t = r h in
        record {
          dci = t.dci;
          named = or_right (eqb q.dci t.dci) (names t.dci qs) t.named;
          ring = λ v. t.ring (cond (eqb q.dci t.dci) q.ring v);
        }

pub named_kept : (d v : ℕ) (qs : List Queue) → names d qs ≡ true → keeps (ring_for d qs v) qs ≡ true
unfolding keeps names ring_for
named_kept d v [] e = not_both false e refl
named_kept d v (q ∷ qs) e = go (decided (names d qs)) (named_kept d (cond (eqb q.dci d) q.ring v) qs)
  where
    here : names d qs ≡ false → q.dci ≡ d
    here n =
        ⊎_elim (λ h. eqb-true q.dci d h) (λ h. not_both (names d qs) h n) (or_cases (eqb q.dci d) (names d qs) e)

    go :
        Decided (names d qs) → (names d qs ≡ true → keeps (ring_for d qs (cond (eqb q.dci d) q.ring v)) qs ≡ true) →
        ((eqb (ring_for d qs (cond (eqb q.dci d) q.ring v)) q.ring && not (names q.dci qs))
        || keeps (ring_for d qs (cond (eqb q.dci d) q.ring v)) qs) ≡ true
    go (inl h) r =
        or_right (eqb (ring_for d qs (cond (eqb q.dci d) q.ring v)) q.ring && not (names q.dci qs))
        (keeps (ring_for d qs (cond (eqb q.dci d) q.ring v)) qs) (r h)
    go (inr n) k =
        let s : q.dci ≡ d = here n in
        let r : ring_for d qs q.ring ≡ q.ring = ring_for_none d qs q.ring n in
        rw (eq-eqb q.dci d s, r, eq-eqb q.ring q.ring refl, s, n)

-- Of rings by place, whether a ring is there; 0 is none.
unfoldable pub has : List ℕ → ℕ → Bool
has rings x = not (eqb x 0) && elem x rings

pub record HasPlace (rings : List ℕ) (x : ℕ) : Type 0 where
  pub place : ℕ
  pub inside : place < length rings
  pub same : get_or rings place 0 ≡ x
  pub nonzero : x ≡ 0 → ⊥

pub has_place_lem : (rings : List ℕ) (x : ℕ) → has rings x ≡ true → HasPlace rings x
unfolding has
has_place_lem rings x e =
    let t = elem_place x rings (and_right (not (eqb x 0)) _ e) in
    record {
      place = t.0;
      inside = t.1;
      same = t.2;
      nonzero = eqb-false x 0 (not-true (eqb x 0) (and_left (not (eqb x 0)) _ e));
    }

pub has_some : (rings : List ℕ) (p : ℕ) → (get_or rings p 0 ≡ 0 → ⊥) → has rings (get_or rings p 0) ≡ true
unfolding has
has_some rings p z = rw (ne_eqb (get_or rings p 0) 0 z) (go rings p z)
  where
    go : (l : List ℕ) (k : ℕ) → (get_or l k 0 ≡ 0 → ⊥) → elem (get_or l k 0) l ≡ true
    go [] k h = absurd (h refl)
    go (x ∷ l) zero h = elem_here x l
    go (x ∷ l) (suc k) h = elem_there (get_or l k 0) x l (go l k h)

-- One of two numbers in order.
not_last : (a p : ℕ) → a ≤ p → (a ≡ p → ⊥) → a + 1 ≤ p
not_last a p l n = go (dec_lt a p)
  where
    go : Dec (a < p) → a + 1 ≤ p
    go (yes h) = omega arith
    go (no h) = absurd (n (omega arith))

-- The rings of the queues of rings by place.
module _ (rings : List ℕ) (x : ℕ) where
  from : ℕ → ℕ → List Queue
  from k a = gathered (λ p. record { dci = dci_at p; ring = get_or rings p 0 }) rings k a

  queue_there : (k a : ℕ) → elem x (queue_rings (from k a)) ≡ true → has rings x ≡ true
  unfolding from gathered queue_rings
  queue_there zero a e = elem_none x e
  queue_there (suc k) a e = go (decided (eqb (get_or rings a 0) 0)) (queue_there k (a + 1))
    where
      go : Decided (eqb (get_or rings a 0) 0) → (elem x (queue_rings (from k (a + 1))) ≡ true → has rings x ≡ true) → has rings x ≡ true
      go (inl z) r = r (rw z at e)
      go (inr z) r =
          ⊎_elim (λ s. ap (has rings) s ∙ has_some rings a (eqb-false (get_or rings a 0) 0 z)) r
          (elem_cases x (get_or rings a 0) (queue_rings (from k (a + 1))) (rw z at e))

  queue_here : (k a p : ℕ) → a ≤ p → p < a + k → get_or rings p 0 ≡ x → (x ≡ 0 → ⊥) → elem x (queue_rings (from k a)) ≡ true
  unfolding from gathered queue_rings
  queue_here zero a p l h s n = absurd (omega arith)
  queue_here (suc k) a p l h s n = go (decided (eqb (get_or rings a 0) 0)) (decided (eqb a p)) (λ m. queue_here k (a + 1) p m (omega arith) s n)
    where
      go :
          Decided (eqb (get_or rings a 0) 0) → Decided (eqb a p) → (a + 1 ≤ p → elem x (queue_rings (from k (a + 1))) ≡ true) →
          elem x (queue_rings (cond (eqb (get_or rings a 0) 0) (from k (a + 1)) (record { dci = dci_at a; ring = get_or rings a 0 } ∷ from k (a + 1)))) ≡ true
      go (inl z) (inl e) r = absurd (n (sym s ∙ ap (λ i. get_or rings i 0) (sym (eqb-true a p e)) ∙ eqb-true (get_or rings a 0) 0 z))
      go (inl z) (inr e) r = rw z (r (not_last a p l (eqb-false a p e)))
      go (inr z) (inl e) r =
          let t : get_or rings a 0 ≡ x = ap (λ i. get_or rings i 0) (eqb-true a p e) ∙ s in
          rw (z, t) (elem_here x (queue_rings (from k (a + 1))))
      go (inr z) (inr e) r =
          rw z (elem_there x (get_or rings a 0) (queue_rings (from k (a + 1))) (r (not_last a p l (eqb-false a p e))))

  pub queue_has : length rings ≡ 30 → elem x (queue_rings (queues_of rings)) ≡ has rings x
  unfolding queues_of from
  queue_has long =
      same_if (elem x (queue_rings (from 30 0))) (has rings x) (queue_there 30 0)
      (λ e. let t = has_place_lem rings x e in queue_here 30 0 t.place (omega arith) (omega (arith, t.inside, long)) t.same t.nonzero)

-- Queues that are those of rings by place.
pub record ByPlace (qs : List Queue) (rings : List ℕ) : Type 0 where
  pub long : length rings ≡ 30
  pub named : (p : ℕ) → p < 30 → names (dci_at p) qs ≡ not (eqb (get_or rings p 0) 0)
  pub ring : (p : ℕ) → p < 30 → ring_for (dci_at p) qs 0 ≡ get_or rings p 0
  pub inside : (d : ℕ) → names d qs ≡ true → (2 ≤ d) × (d < 32)

-- They keep those rings.
pub kept_has : (qs : List Queue) (rings : List ℕ) → ByPlace qs rings → (x : ℕ) → keeps x qs ≡ has rings x
kept_has qs rings b x = same_if (keeps x qs) (has rings x) to from
  where
    to : keeps x qs ≡ true → has rings x ≡ true
    to e =
        let t = kept_named x qs e in
        let i = b.inside t.dci t.named in
        let p = dci_place t.dci i.0 i.1 in
        let s : get_or rings p.0 0 ≡ x = sym (b.ring p.0 p.1) ∙ ap (λ d. ring_for d qs 0) p.2 ∙ t.ring 0 in
        let n : eqb (get_or rings p.0 0) 0 ≡ false = not-true (eqb (get_or rings p.0 0) 0) (sym (b.named p.0 p.1) ∙ ap (λ d. names d qs) p.2 ∙ t.named) in
        ap (has rings) (sym s) ∙ has_some rings p.0 (eqb-false (get_or rings p.0 0) 0 n)

    from : has rings x ≡ true → keeps x qs ≡ true
    from e =
        let t = has_place_lem rings x e in
        let h : t.place < 30 = omega (arith, t.inside, b.long) in
        let r : ring_for (dci_at t.place) qs 0 ≡ x = b.ring t.place h ∙ t.same in
        let n : names (dci_at t.place) qs ≡ true = b.named t.place h ∙ ap not (ne_eqb (get_or rings t.place 0) 0 (λ z. t.nonzero (sym t.same ∙ z))) in
        ap (λ y. keeps y qs) (sym r) ∙ named_kept (dci_at t.place) 0 qs n

pub owned_long : (who : Owner) (c : EndpointMap) → length (owned_rings who c) ≡ 30
unfolding owned_rings
owned_long who c = tabulated_length (λ p. cond (is_owned who c p) (get_or c.rings p 0) 0) 30 0

-- Those of an owner are among them.
pub owned_has : (who : Owner) (c : EndpointMap) → length c.rings ≡ 30 → (x : ℕ) → has (owned_rings who c) x ≡ true → has c.rings x ≡ true
owned_has who c long x e =
    let t = has_place_lem (owned_rings who c) x e in
    let h : t.place < 30 = omega (arith, t.inside, owned_long who c) in
    let s : cond (is_owned who c t.place) (get_or c.rings t.place 0) 0 ≡ x = sym (owned_at who c t.place h) ∙ t.same in
    go t.place h (is_owned who c t.place) s t.nonzero
  where
    go : (p : ℕ) → p < 30 → (o : Bool) → cond o (get_or c.rings p 0) 0 ≡ x → (x ≡ 0 → ⊥) → has c.rings x ≡ true
    go p h true s n = ap (has c.rings) (sym s) ∙ has_some c.rings p (λ z. n (sym s ∙ z))
    go p h false s n = absurd (n (sym s))

-- The rings after a claim of interface i: the pending ones, and those that were there but not the interface's.
module _ (i : ℕ) (pending : List ℕ) (c : EndpointMap) (long : length c.rings ≡ 30) (many : length pending ≡ 30)
    (once : (p q : ℕ) → p < 30 → q < 30 → (get_or c.rings p 0 ≡ 0 → ⊥) → get_or c.rings p 0 ≡ get_or c.rings q 0 → p ≡ q)
    (free : (p : ℕ) → p < 30 → eqb (get_or pending p 0) 0 ≡ false → is_owned (Interface i) c p ≡ false → get_or c.rings p 0 ≡ 0) where
  abbrev rings : List ℕ
  rings = (claimed_endpoints i pending c).rings

  abbrev old : List ℕ
  old = owned_rings (Interface i) c

  old_long : length old ≡ 30
  old_long = owned_long (Interface i) c

  at_place : (p : ℕ) → p < 30 → get_or rings p 0 ≡ cond (eqb (get_or pending p 0) 0) (cond (is_owned (Interface i) c p) 0 (get_or c.rings p 0)) (get_or pending p 0)
  unfolding claimed_ring
  at_place p h = claimed_ring_lem i pending c p h

  -- a ring at a place of an owner
  old_at : (p : ℕ) → p < 30 → (get_or c.rings p 0 ≡ 0 → ⊥) → has old (get_or c.rings p 0) ≡ is_owned (Interface i) c p
  old_at p h z = same_if (has old (get_or c.rings p 0)) (is_owned (Interface i) c p) to from
    where
      to : has old (get_or c.rings p 0) ≡ true → is_owned (Interface i) c p ≡ true
      to e =
          let t = has_place_lem old (get_or c.rings p 0) e in
          let k : t.place < 30 = omega (arith, t.inside, old_long) in
          go t.place k (decided (is_owned (Interface i) c t.place)) (sym (owned_at (Interface i) c t.place k) ∙ t.same)
        where
          go :
              (q : ℕ) → q < 30 → Decided (is_owned (Interface i) c q) →
              cond (is_owned (Interface i) c q) (get_or c.rings q 0) 0 ≡ get_or c.rings p 0 → is_owned (Interface i) c p ≡ true
          go q k (inl o) s = let r : p ≡ q = once p q h k z (sym (rw o at s)) in rw r o
          go q k (inr o) s = absurd (z (sym (rw o at s)))

      from : is_owned (Interface i) c p ≡ true → has old (get_or c.rings p 0) ≡ true
      from o =
          let s : get_or old p 0 ≡ get_or c.rings p 0 = owned_at (Interface i) c p h ∙ rw o in
          ap (has old) (sym s) ∙ has_some old p (λ w. z (sym s ∙ w))

  pub claimed_has : (x : ℕ) → has rings x ≡ ((has c.rings x && not (has old x)) || has pending x)
  claimed_has x = same_if (has rings x) _ to from
    where
      rings_long : length rings ≡ 30
      rings_long = (claimed_whole i pending c).rings

      to : has rings x ≡ true → ((has c.rings x && not (has old x)) || has pending x) ≡ true
      to e =
          let t = has_place_lem rings x e in
          let h : t.place < 30 = omega (arith, t.inside, rings_long) in
          go t.place h t.nonzero (decided (eqb (get_or pending t.place 0) 0)) (decided (is_owned (Interface i) c t.place))
          (sym (at_place t.place h) ∙ t.same)
        where
          go :
              (p : ℕ) → p < 30 → (x ≡ 0 → ⊥) → Decided (eqb (get_or pending p 0) 0) → Decided (is_owned (Interface i) c p) →
              cond (eqb (get_or pending p 0) 0) (cond (is_owned (Interface i) c p) 0 (get_or c.rings p 0)) (get_or pending p 0) ≡ x →
              ((has c.rings x && not (has old x)) || has pending x) ≡ true
          go p h n (inl e) (inl o) s = absurd (n (sym (rw (e, o) at s)))
          go p h n (inl e) (inr o) s =
              let r : get_or c.rings p 0 ≡ x = rw (e, o) at s in
              let z : get_or c.rings p 0 ≡ 0 → ⊥ = λ w. n (sym r ∙ w) in
              let a : has c.rings x ≡ true = ap (has c.rings) (sym r) ∙ has_some c.rings p z in
              let b : has old x ≡ false = ap (has old) (sym r) ∙ old_at p h z ∙ o in
              rw (a, b)
          go p h n (inr e) o s =
              let r : get_or pending p 0 ≡ x = rw e at s in
              or_right (has c.rings x && not (has old x)) (has pending x) (ap (has pending) (sym r) ∙ has_some pending p (λ w. n (sym r ∙ w)))

      from : ((has c.rings x && not (has old x)) || has pending x) ≡ true → has rings x ≡ true
      from e = go (or_cases (has c.rings x && not (has old x)) (has pending x) e)
        where
          there : (p : ℕ) → p < 30 → get_or rings p 0 ≡ x → (x ≡ 0 → ⊥) → has rings x ≡ true
          there p h s n = ap (has rings) (sym s) ∙ has_some rings p (λ w. n (sym s ∙ w))

          kept :
              (p : ℕ) → p < 30 → get_or c.rings p 0 ≡ x → (x ≡ 0 → ⊥) → is_owned (Interface i) c p ≡ false →
              Decided (eqb (get_or pending p 0) 0) → has rings x ≡ true
          kept p h s n o (inl z) = there p h (at_place p h ∙ rw (z, o) s) n
          kept p h s n o (inr z) = absurd (n (sym s ∙ free p h z o))

          go : ((has c.rings x && not (has old x)) ≡ true) ⊎ (has pending x ≡ true) → has rings x ≡ true
          go (inl a) =
              let t = has_place_lem c.rings x (and_left (has c.rings x) (not (has old x)) a) in
              let h : t.place < 30 = omega (arith, t.inside, long) in
              let z : get_or c.rings t.place 0 ≡ 0 → ⊥ = λ w. t.nonzero (sym t.same ∙ w) in
              let o : is_owned (Interface i) c t.place ≡ false =
              sym (old_at t.place h z) ∙ ap (has old) t.same ∙ not-true (has old x) (and_right (has c.rings x) (not (has old x)) a) in
              kept t.place h t.same t.nonzero o (decided (eqb (get_or pending t.place 0) 0))
          go (inr a) =
              let t = has_place_lem pending x a in
              let h : t.place < 30 = omega (arith, t.inside, many) in
              there t.place h (at_place t.place h ∙ rw (ne_eqb (get_or pending t.place 0) 0 (λ w. t.nonzero (sym t.same ∙ w))) t.same) t.nonzero
