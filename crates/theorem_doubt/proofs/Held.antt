-- What a record says of the rings that the controller may hold.
use Prim.Native.Nat.{ℕ, ◌*◌, ◌%◌, ◌^◌, ◌<◌}
use mathlib.Core.Path.{◌≡◌, sym, ◌∙◌}
use mathlib.Core.Logic.{◌⊎◌, inl, inr, ⊎_elim}
use mathlib.Core.Bool.{Bool, true, false, not, cond, ◌&&◌, ◌||◌}
use mathlib.Core.List.{List}
use native.Mathlib.Decide.{dec_lt}
use native.Mathlib.Omega.{arith}
use borrow.Author.Tests.{eqb-true, eqb-false, not-true}
use lib.Dec.{eqb, leb, ltb, lit<}
use lib.ListN.{length, get_or, get_or-eq_default}
use Rattle.laws.specs.Distinct.{elem}
use Rattle.laws.proofs.Tests.{and_right}
use Rattle.laws.proofs.Cases.{Decided, decided, or_left}
use Rattle.laws.proofs.Distinct.{elem_at}
use Rattle.context.specs.Place.{spacing_of}
use Rattle.transfer.specs.Routes.{ring_for}
use Rattle.record_ring.specs.Rings.{ring_ok}
use Rattle.record_endpoint.specs.Order.{dci_at}
use Rattle.record_endpoint.specs.EndpointMap.{queues_of}
use Rattle.record_endpoint.proofs.Laws.{queues_ring}
use Rattle.record_endpoint.specs.declared.endpoint_map.EndpointMap.{EndpointMap}
use Rattle.record_settings.specs.Held.{Held}
use Rattle.record_checks.proofs.Laws.{Apart}
use Rattle.device.specs.declared.record.Device.{Device}
use Rattle.device.specs.Device.{endpoint_map_in, quarantined_of, given_of}
use Rattle.device.specs.Sound.{sound}
use Rattle.device.proofs.Facts.{sound_facts}
use Rattle.device.proofs.Made.{Made}
use Rattle.theorem_slot.proofs.Good.{Down}
use Rattle.theorem_slot.proofs.Kept.{has, has_some}

-- A ring of an endpoint: none, or this one.
abbrev pub OrNone : ℕ → ℕ → Type 0
OrNone x ring = (x ≡ 0) ⊎ (x ≡ ring)

pub through : {x y z : ℕ} → OrNone x y → OrNone y z → OrNone x z
through (inl e) r = inl e
through (inr e) r = ⊎_elim (λ z. inl (e ∙ z)) (λ z. inr (e ∙ z)) r

-- Each endpoint of the controller has the record's ring for it;
abbrev pub Own : Device → (ℕ → ℕ) → Type 0
Own d rings = (q : ℕ) → q < 30 → rings (dci_at q) ≡ get_or (endpoint_map_in d).rings q 0

-- or none;
abbrev pub Near : Device → (ℕ → ℕ) → Type 0
Near d rings = (q : ℕ) → q < 30 → OrNone (rings (dci_at q)) (get_or (endpoint_map_in d).rings q 0)

-- or one that the record has for an endpoint or in quarantine.
abbrev pub KeptBy : Device → ℕ → Type 0
KeptBy d x = (has (endpoint_map_in d).rings x || elem x (quarantined_of d)) ≡ true

abbrev pub Safe : Device → (ℕ → ℕ) → Type 0
Safe d rings = (q : ℕ) → q < 30 → (rings (dci_at q) ≡ 0) ⊎ KeptBy d (rings (dci_at q))

-- Control's Dci, and those that no endpoint has.
abbrev pub Outer : ℕ → Type 0
Outer x = (leb 2 x && ltb x 32) ≡ false

-- A record that is up, and the controller: while it is usable each endpoint and control have their rings; whatever an endpoint has is kept,
-- and elsewhere there is no ring or control's. Its given rings have 64 bits.
pub record Ringed (d : Device) (rings : ℕ → ℕ) : Type 0 where
  pub own : d.usable ≡ true → Own d rings
  pub first : d.usable ≡ true → rings 1 ≡ d.control
  pub safe : Safe d rings
  pub outer : (x : ℕ) → Outer x → OrNone (rings x) d.control
  pub wide : (x : ℕ) → elem x (given_of d) ≡ true → x < 2 ^ 64

-- A record on which every call but a bring-up is refused, and a controller without rings.
abbrev pub Gone : Device → (ℕ → ℕ) → Type 0
Gone d rings = Down d × ((x : ℕ) → rings x ≡ 0)

-- What a call makes of a record and the controller.
abbrev pub Leaves : Device → (ℕ → ℕ) → Type 0
Leaves d rings = ((d.up ≡ true) × Ringed d rings) ⊎ Gone d rings

-- What a call makes of it, from what its record is made of.
pub made_ringed :
    {d e : Device} {hs : List Held} {c : EndpointMap} {lost : Bool} {rings now : ℕ → ℕ} → Made d e hs c lost → d.up ≡ true → Ringed d rings →
    (lost ≡ false → Own e now) → (lost ≡ false → now 1 ≡ d.control) → Safe e now → ((x : ℕ) → Outer x → OrNone (now x) (rings x)) →
    (e.up ≡ true) × Ringed e now
made_ringed {lost} m up r own first safe outer = (
  m.up ∙ up,
  record {
    own = λ u. own (not-true lost (sym m.usable ∙ u));
    first = λ u. rw m.same.control (first (not-true lost (sym m.usable ∙ u)));
    safe = safe;
    outer = λ x h. rw m.same.control (through (outer x h) (r.outer x h));
    wide = λ x e. r.wide x (rw (← m.same.given) e);
  },
)

-- One of some rings by place, or none.
pub one_kept :
    (d : Device) (x : ℕ) (rings : List ℕ) (q : ℕ) → x ≡ get_or rings q 0 → (has rings x ≡ true → KeptBy d x) → (x ≡ 0) ⊎ KeptBy d x
one_kept d x rings q e f = go (decided (eqb x 0))
  where
    go : Decided (eqb x 0) → (x ≡ 0) ⊎ KeptBy d x
    go (inl z) = inl (eqb-true x 0 z)
    go (inr z) = inr (f (rw e (has_some rings q (λ y. eqb-false x 0 z (e ∙ y)))))

pub near_safe : (d : Device) (rings : ℕ → ℕ) → Near d rings → Safe d rings
near_safe d rings near q h =
    ⊎_elim (λ z. inl z) (λ e. one_kept d (rings (dci_at q)) (endpoint_map_in d).rings q e (λ t. or_left _ _ t)) (near q h)

pub own_safe : (d : Device) (rings : ℕ → ℕ) → Own d rings → Safe d rings
own_safe d rings own = near_safe d rings (λ q h. inr (own q h))

-- The ring of a place, by its Dci.
pub queue_at : (rings : List ℕ) (p : ℕ) → p < 30 → ring_for (dci_at p) (queues_of rings) 0 ≡ get_or rings p 0
queue_at rings p h = queues_ring rings p 0 h ∙ go (decided (eqb (get_or rings p 0) 0))
  where
    go : Decided (eqb (get_or rings p 0) 0) → cond (eqb (get_or rings p 0) 0) 0 (get_or rings p 0) ≡ get_or rings p 0
    go (inl e) = rw e (sym (eqb-true (get_or rings p 0) 0 e))
    go (inr e) = rw e

-- Rings apart are multiples of 16 and, where those given have 64 bits, of so many.
module _ (rings : List ℕ) (control : ℕ) (given : List ℕ) (apart : Apart rings control given) (long : length rings ≡ 30) where
  pub apart_even : (p : ℕ) → p < 30 → get_or rings p 0 % 16 ≡ 0
  unfolding ring_ok
  apart_even p h = go (decided (eqb (get_or rings p 0) 0))
    where
      go : Decided (eqb (get_or rings p 0) 0) → get_or rings p 0 % 16 ≡ 0
      go (inl e) = rw (eqb-true (get_or rings p 0) 0 e)
      go (inr e) =
          eqb-true (get_or rings p 0 % 16) 0
          (and_right (not (eqb (get_or rings p 0) 0)) (eqb (get_or rings p 0 % 16) 0) (apart.ok p h (eqb-false (get_or rings p 0) 0 e)))

  pub apart_wide : ((x : ℕ) → elem x given ≡ true → x < 2 ^ 64) → (p : ℕ) → get_or rings p 0 < 2 ^ 64
  apart_wide wide p = go (dec_lt p 30)
    where
      some : p < 30 → Decided (eqb (get_or rings p 0) 0) → get_or rings p 0 < 2 ^ 64
      some h (inl e) = rw (eqb-true (get_or rings p 0) 0 e) (lit< tt)
      some h (inr e) = wide _ (apart.from_given p h (eqb-false (get_or rings p 0) 0 e))

      go : Dec (p < 30) → get_or rings p 0 < 2 ^ 64
      go (yes h) = some h (decided (eqb (get_or rings p 0) 0))
      go (no h) = let z : get_or rings p 0 ≡ 0 = get_or-eq_default rings 0 (omega (arith, long)) in rw z (lit< tt)

pub listed_wide :
    (l given : List ℕ) → ((x : ℕ) → elem x l ≡ true → elem x given ≡ true) → ((x : ℕ) → elem x given ≡ true → x < 2 ^ 64) →
    (k : ℕ) → get_or l k 0 < 2 ^ 64
listed_wide l given f wide k = go (dec_lt k (length l))
  where
    go : Dec (k < length l) → get_or l k 0 < 2 ^ 64
    go (yes h) = wide _ (f _ (elem_at l k h))
    go (no h) = let z : get_or l k 0 ≡ 0 = get_or-eq_default l 0 (omega arith) in rw z (lit< tt)

-- A record's spacing is its context's.
spacing_one : (s len : ℕ) → (s ≡ 32) ⊎ (s ≡ 64) → len ≡ 33 * s → spacing_of len ≡ s
unfolding spacing_of
spacing_one s len (inl e) f = let t : len ≡ 1056 = omega (arith, f, e) in rw (t, e)
spacing_one s len (inr e) f = let t : len ≡ 2112 = omega (arith, f, e) in rw (t, e)

pub spacing_own : (d : Device) (len : ℕ) → sound d ≡ true → len ≡ 33 * d.spacing → spacing_of len ≡ d.spacing
spacing_own d len s e = spacing_one d.spacing len (sound_facts d s).place.spacing e
