-- What given, free and drawn rings are: proofs/Promises.antt proves each `..Promise`.
use Rattle.std.specs.Prelude.{ℕ, ◌+◌, ◌%◌, ◌≤◌, ◌<◌, ◌≡◌, true, false, List, length, get_or}
use Rattle.laws.specs.Distinct.{elem, distinct}
use Rattle.record_ring.specs.Rings.{not_among, offer_ok}
use Rattle.record_ring.specs.Store.{GIVEN-ROOM, given_ok, among, lowest, least, free_rings}

-- Rings that may be given: 1 to 64, nonzero multiples of 16, no two alike.
pub record Given (rings : List ℕ) : Type 0 where
  pub some : 0 < length rings
  pub room : length rings ≤ GIVEN-ROOM
  pub nonzero : (i : ℕ) → i < length rings → get_or rings i 0 ≡ 0 → ⊥
  pub multiple : (i : ℕ) → i < length rings → get_or rings i 0 % 16 ≡ 0
  pub apart : (i j : ℕ) → i < length rings → j < length rings → get_or rings i 0 ≡ get_or rings j 0 → i ≡ j

abbrev pub GivenPromise : Type 0
GivenPromise = (rings : List ℕ) → (given_ok rings ≡ true → Given rings) × (Given rings → given_ok rings ≡ true)

-- The lowest n: as many as were asked for, each one of the rings, rising, and each below every ring that is left out.
pub record Lowest (n : ℕ) (rings : List ℕ) : Type 0 where
  pub counted : n ≤ length rings → length (lowest n rings) ≡ n
  pub of_them : (x : ℕ) → elem x (lowest n rings) ≡ true → elem x rings ≡ true
  pub rise : (i j : ℕ) → i < j → j < length (lowest n rings) → get_or (lowest n rings) i 0 < get_or (lowest n rings) j 0
  pub left_out : (x y : ℕ) → elem x (lowest n rings) ≡ true → elem y rings ≡ true → elem y (lowest n rings) ≡ false → x < y

abbrev pub LowestPromise : Type 0
LowestPromise = (n : ℕ) (rings : List ℕ) → distinct rings ≡ true → Lowest n rings

-- The lowest: one of the rings, and none is lower.
pub record Least (rings : List ℕ) : Type 0 where
  pub of_them : 0 < length rings → elem (least rings) rings ≡ true
  pub none_lower : (x : ℕ) → elem x rings ≡ true → least rings ≤ x

abbrev pub LeastPromise : Type 0
LeastPromise = (rings : List ℕ) → Least rings

-- A free ring is a given one that is not live, not control's and not quarantined; and each such ring is free.
pub record Free (given live : List ℕ) (control : ℕ) (quarantined : List ℕ) (x : ℕ) : Type 0 where
  pub is_given : elem x given ≡ true
  pub not_live : elem x live ≡ false
  pub not_control : x ≡ control → ⊥
  pub not_quarantined : elem x quarantined ≡ false

abbrev pub FreePromise : Type 0
FreePromise =
    (given live : List ℕ) (control : ℕ) (quarantined : List ℕ) (x : ℕ) →
    (elem x (free_rings given live control quarantined) ≡ true → Free given live control quarantined x)
    × (Free given live control quarantined x → elem x (free_rings given live control quarantined) ≡ true)

-- Those in use and the others are together the given ones.
abbrev pub CountPromise : Type 0
CountPromise =
    (given used : List ℕ) → distinct given ≡ true → distinct used ≡ true → among used given ≡ true →
    length (not_among used given) + length used ≡ length given

-- Rings drawn where enough are free meet what 01 asks of rings offered for a claim.
abbrev pub DrawnPromise : Type 0
DrawnPromise =
    (n : ℕ) (given live : List ℕ) (control : ℕ) (quarantined : List ℕ) →
    given_ok given ≡ true →
    n ≤ length (free_rings given live control quarantined) →
    offer_ok n (lowest n (free_rings given live control quarantined)) live control quarantined ≡ true
