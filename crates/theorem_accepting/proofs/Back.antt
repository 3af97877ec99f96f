-- A claim undone by a release: tables, settings and endpoints.
use Prim.Native.Nat.{ℕ, ◌+◌, ◌-◌, ◌*◌, ◌<◌}
use mathlib.Core.Path.{◌≡◌, refl, sym, ap, ◌∙◌}
use mathlib.Core.Logic.{inl, inr}
use mathlib.Core.Bool.{Bool, true, false, not, cond}
use mathlib.Core.List.{List, [], ◌∷◌, ◌++◌}
use native.Mathlib.Decide.{dec_lt}
use native.Mathlib.Omega.{arith}
use borrow.Author.Tests.{eq-eqb}
use lib.Dec.{eqb}
use lib.ListN.{get_or, replicate, get_or-replicate}
use lib.Seq.{ext_get_or}
use Rattle.laws.proofs.Cases.{Decided, decided, or_none}
use Rattle.transfer.specs.Routes.{route_index, route_of, OutsideSlot}
use Rattle.record_endpoint.specs.declared.endpoint_map.EndpointMap.{EndpointMap}
use Rattle.record_endpoint.specs.declared.endpoint_map.Owner.TheVariants.{Interface}
use Rattle.record_endpoint.specs.EndpointMap.{is_owned, claimed_ring, claimed_owner, claimed_active, claimed_endpoints}
use Rattle.record_endpoint.proofs.Laws.{claimed_whole, claimed_ring_lem, claimed_owner_lem, claimed_active_lem}
use Rattle.record_endpoint.proofs.Clean.{CleanMap}
use Rattle.record_settings.specs.Held.{Held, is_held, without_setting, with_setting}
use Rattle.record_settings.proofs.Laws.{without_unheld, claimed_owned}

-- A table that agrees with another outside a slot and at each of its Dcis is the same.
pub same_words_lem :
    (slot : ℕ) (s t : List ℕ) → ((k : ℕ) → OutsideSlot slot k → get_or s k 0 ≡ get_or t k 0) →
    ((e : ℕ) → e < 32 → route_of s slot e ≡ route_of t slot e) → (k : ℕ) → get_or s k 0 ≡ get_or t k 0
unfolding route_of route_index
same_words_lem slot s t out own k = go (dec_lt k (32 * slot)) (dec_lt k (32 * slot + 32))
  where
    go : Dec (k < 32 * slot) → Dec (k < 32 * slot + 32) → get_or s k 0 ≡ get_or t k 0
    go (yes l) m = out k (inl l)
    go (no l) (no m) = out k (inr (omega arith))
    go (no l) (yes m) =
        let e : 32 * slot + (k - 32 * slot) ≡ k = omega arith in
        rw e at (own (k - 32 * slot) (omega arith))

-- A setting put in last and taken out.
without_last :
    (i a : ℕ) (hs : List Held) → is_held i hs ≡ false → without_setting i (hs ++ (record { interface = i; alternate = a } ∷ [])) ≡ hs
unfolding without_setting is_held
without_last i a [] e = rw (eq-eqb i i refl)
without_last i a (h ∷ hs) e =
    let t = or_none (eqb h.interface i) (is_held i hs) e in rw (t.0, without_last i a hs t.1)

pub setting_back : (i a : ℕ) (hs : List Held) → is_held i hs ≡ false → without_setting i (with_setting i a hs) ≡ hs
unfolding with_setting
setting_back i a hs e = rw (without_unheld i hs e) (without_last i a hs e)

-- One place, claimed and released.
entry_back :
    {A : Type 0} (pending : ℕ) (owned was : Bool) (new none old : A) → owned ≡ not (eqb pending 0) → was ≡ false →
    (eqb pending 0 ≡ false → old ≡ none) → cond owned none (cond (eqb pending 0) (cond was none old) new) ≡ old
entry_back {A = A} pending owned was new none old o w f = rw (o, w) (go (decided (eqb pending 0)))
  where
    go : Decided (eqb pending 0) → cond (not (eqb pending 0)) none (cond (eqb pending 0) old new) ≡ old
    go (inl e) = rw e
    go (inr e) = rw e (sym (f e))

same_map : (b c : EndpointMap) → b.rings ≡ c.rings → b.owners ≡ c.owners → b.active ≡ c.active → b ≡ c
same_map b c r o a =
    ap (λ (l : List ℕ). record { rings = l; owners = b.owners; active = b.active }) r
    ∙ ap (λ (l : List ℕ). record { rings = c.rings; owners = l; active = b.active }) o
    ∙ ap (λ (l : List Bool). record { rings = c.rings; owners = c.owners; active = l }) a

-- A claim by an interface without endpoints, at places without one, and then a release.
module _ (i : ℕ) (pending : List ℕ) (c : EndpointMap) (clean : CleanMap c)
    (unowned : (p : ℕ) → p < 30 → is_owned (Interface i) c p ≡ false)
    (free : (p : ℕ) → p < 30 → eqb (get_or pending p 0) 0 ≡ false → get_or c.rings p 0 ≡ 0) where
  once : EndpointMap
  once = claimed_endpoints i pending c

  owned_once : (p : ℕ) → p < 30 → is_owned (Interface i) once p ≡ not (eqb (get_or pending p 0) 0)
  unfolding once
  owned_once p h = claimed_owned i i pending c p h ∙ rw (unowned p h, eq-eqb i i refl) (go (eqb (get_or pending p 0) 0))
    where
      go : (t : Bool) → cond t false true ≡ not t
      go true = refl
      go false = refl

  none : (p : ℕ) → p < 30 → get_or {A = ℕ} (replicate 30 0) p 0 ≡ 0
  none p h = get_or-replicate 30 p 0 0 h

  ring_back : (p : ℕ) → p < 30 → get_or (claimed_endpoints i (replicate 30 0) once).rings p 0 ≡ get_or c.rings p 0
  unfolding claimed_ring once
  ring_back p h =
      claimed_ring_lem i (replicate 30 0) once p h
      ∙ rw (none p h, claimed_ring_lem i pending c p h)
      (entry_back (get_or pending p 0) (is_owned (Interface i) once p) (is_owned (Interface i) c p) (get_or pending p 0) 0 (get_or c.rings p 0)
      (owned_once p h) (unowned p h) (free p h))

  owner_back : (p : ℕ) → p < 30 → get_or (claimed_endpoints i (replicate 30 0) once).owners p 0 ≡ get_or c.owners p 0
  unfolding claimed_owner once
  owner_back p h =
      claimed_owner_lem i (replicate 30 0) once p h
      ∙ rw (none p h, claimed_owner_lem i pending c p h)
      (entry_back (get_or pending p 0) (is_owned (Interface i) once p) (is_owned (Interface i) c p) i 0 (get_or c.owners p 0)
      (owned_once p h) (unowned p h) (λ e. clean.owner p h (free p h e)))

  active_back : (p : ℕ) → p < 30 → get_or (claimed_endpoints i (replicate 30 0) once).active p false ≡ get_or c.active p false
  unfolding claimed_active once
  active_back p h =
      claimed_active_lem i (replicate 30 0) once p h
      ∙ rw (none p h, claimed_active_lem i pending c p h)
      (entry_back (get_or pending p 0) (is_owned (Interface i) once p) (is_owned (Interface i) c p) true false (get_or c.active p false)
      (owned_once p h) (unowned p h) (λ e. clean.active p h (free p h e)))

  pub map_back : claimed_endpoints i (replicate 30 0) (claimed_endpoints i pending c) ≡ c
  unfolding once
  map_back =
      let two = claimed_endpoints i (replicate 30 0) (claimed_endpoints i pending c) in
      let w = claimed_whole i (replicate 30 0) (claimed_endpoints i pending c) in
      let v = clean.whole in
      same_map two c
      (ext_get_or 0 two.rings c.rings (w.rings ∙ sym v.rings) (λ p h. ring_back p (omega (arith, w.rings))))
      (ext_get_or 0 two.owners c.owners (w.owners ∙ sym v.owners) (λ p h. owner_back p (omega (arith, w.owners))))
      (ext_get_or false two.active c.active (w.active ∙ sym v.active) (λ p h. active_back p (omega (arith, w.active))))
