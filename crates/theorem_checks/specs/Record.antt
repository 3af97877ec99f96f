-- A sound record, spelled once more over its fields and arrays: 01, "The device record keeps the list", with 02's given rings and
-- quarantine. proofs/Record.antt proves that the definition is this.
use Rattle.std.specs.Prelude.{ℕ, ◌%◌, ◌<◌, ◌≤◌, ◌≡◌, ◌⊎◌, ◌↔◌, true, List, length, get_or, take}
use Rattle.descriptor_list.specs.Companions.{joined}
use Rattle.record_endpoint.specs.Endpoint.{blank}
use Rattle.device.specs.declared.record.Device.{Device}
use Rattle.device.specs.Sound.{sound}
use Rattle.theorem_checks.specs.Descriptors.{address_of, Differ, Each, AtMost, IsSuper, ListFits, CompanionsFit, Listed}

-- The words of the record's list.
abbrev pub words_in : Device → List ℕ
words_in d = take d.list_len d.list

-- The same with each companion above the 32 bits of its endpoint's word, where lookup passes over it.
abbrev pub list_in : Device → List ℕ
list_in d = joined (words_in d)

-- Endpoint k of a record, with its address, its owner and its ring.
pub record EndpointAt (d : Device) (k address owner ring : ℕ) : Type 0 where
  pub counted : k < d.ep_count
  pub inside : k < length d.eps
  pub address_is : (get_or d.eps k blank).address ≡ address
  pub owner_is : get_or d.ep_interfaces k 0 ≡ owner
  pub ring_is : (get_or d.eps k blank).ring ≡ ring

-- An address has an endpoint of an owner.
pub record HasEndpoint (d : Device) (address owner : ℕ) : Type 0 where
  pub at : ℕ
  pub ring : ℕ
  pub there : EndpointAt d at address owner ring

-- An interface holds an alternate.
pub record Holds (d : Device) (interface alternate : ℕ) : Type 0 where
  pub at : ℕ
  pub counted : at < d.held_count
  pub interface_is : get_or d.interfaces at 0 ≡ interface
  pub alternate_is : get_or d.alternates at 0 ≡ alternate

-- Lookup finds the alternate, and each address that it lists has an endpoint of the interface.
pub record Stands (d : Device) (interface alternate : ℕ) : Type 0 where
  pub words : List ℕ
  pub listed : Listed (list_in d) interface alternate words
  pub endpoints : (k : ℕ) → k < length words → HasEndpoint d (address_of (get_or words k 0)) interface

-- An address is one that a setting of its owner lists.
pub record Belongs (d : Device) (address owner : ℕ) : Type 0 where
  pub alternate : ℕ
  pub held : Holds d owner alternate
  pub words : List ℕ
  pub listed : Listed (list_in d) owner alternate words
  pub at : ℕ
  pub inside : at < length words
  pub same : address_of (get_or words at 0) ≡ address

-- Ring addresses: nonzero multiples of 16.
pub record IsRing (ring : ℕ) : Type 0 where
  pub nonzero : ring ≡ 0 → ⊥
  pub multiple : ring % 16 ≡ 0

-- A ring of an endpoint, one in quarantine, one given.
pub record EndpointRing (d : Device) (ring : ℕ) : Type 0 where
  pub at : ℕ
  pub address : ℕ
  pub owner : ℕ
  pub there : EndpointAt d at address owner ring

pub record Entry (array : List ℕ) (count ring : ℕ) : Type 0 where
  pub at : ℕ
  pub counted : at < count
  pub inside : at < length array
  pub same : get_or array at 0 ≡ ring

abbrev pub Live : Device → ℕ → Type 0
Live d ring = EndpointRing d ring ⊎ (d.control ≡ ring)

abbrev pub Quarantined : Device → ℕ → Type 0
Quarantined d ring = Entry d.quarantined d.quarantined_count ring

abbrev pub IsGiven : Device → ℕ → Type 0
IsGiven d ring = Entry d.given d.given_count ring

abbrev pub InUse : Device → ℕ → Type 0
InUse d ring = Live d ring ⊎ Quarantined d ring

-- Rings such as may be given: 1 to 64, nonzero multiples of 16, no two alike.
pub record RingsFit (rings : List ℕ) : Type 0 where
  pub some : 1 ≤ length rings
  pub few : length rings ≤ 64
  pub rings_are : Each IsRing rings
  pub differ : Differ rings

-- A sound record.
pub record SoundRecord (d : Device) : Type 0 where
  -- a slot from 1 to N, N at most 255, spacing 32 or 64, speed 1 to 5
  pub slot_low : 1 ≤ d.slot.0
  pub slot_high : d.slot.0 ≤ d.max_slots
  pub slots : d.max_slots ≤ 255
  pub spacing : (d.spacing ≡ 32) ⊎ (d.spacing ≡ 64)
  pub speed_low : 1 ≤ d.port_speed
  pub speed_high : d.port_speed ≤ 5
  -- the counts fit the arrays
  pub words_fit : d.list_len ≤ 256
  pub endpoints_fit : d.ep_count ≤ 30
  pub settings_fit : d.held_count ≤ 32
  pub quarantined_fit : d.quarantined_count ≤ 61
  pub given_fit : d.given_count ≤ 64
  -- a list that is valid at the speed
  pub list : ListFits d.port_speed (words_in d)
  pub companions : IsSuper d.port_speed → CompanionsFit (words_in d)
  -- distinct held interfaces
  pub interfaces :
      (j k : ℕ) → j < d.held_count → k < d.held_count → get_or d.interfaces j 0 ≡ get_or d.interfaces k 0 → j ≡ k
  -- whose alternates lookup finds, with an endpoint of the interface for each address
  pub settings : (i a : ℕ) → Holds d i a → Stands d i a
  -- exactly one for each address
  pub one :
      (j k address owner ring other_owner other_ring : ℕ) →
      EndpointAt d j address owner ring → EndpointAt d k address other_owner other_ring → j ≡ k
  -- and no others
  pub no_others : (k address owner ring : ℕ) → EndpointAt d k address owner ring → Belongs d address owner
  -- rings are nonzero multiples of 16
  pub rings : (ring : ℕ) → InUse d ring → IsRing ring
  -- the live ones distinct, control's among them
  pub live :
      (j k address owner ring other_address other_owner : ℕ) →
      EndpointAt d j address owner ring → EndpointAt d k other_address other_owner ring → j ≡ k
  pub control : EndpointRing d d.control → ⊥
  -- the quarantined ones distinct
  pub quarantine : Differ (take d.quarantined_count d.quarantined)
  -- all together, each counted once, at most 61
  pub together : AtMost 61 (InUse d)
  -- none quarantined while the record is usable
  pub clear : d.usable ≡ true → (ring : ℕ) → Quarantined d ring → ⊥
  -- the given rings fit, and all that are in use are among them
  pub given : RingsFit (take d.given_count d.given)
  pub from_given : (ring : ℕ) → InUse d ring → IsGiven d ring

abbrev pub SoundTells : Type 0
SoundTells = (d : Device) → (sound d ≡ true) ↔ SoundRecord d

-- A free ring: given, neither live nor in quarantine.
pub record IsFree (d : Device) (ring : ℕ) : Type 0 where
  pub given : IsGiven d ring
  pub not_live : Live d ring → ⊥
  pub not_quarantined : Quarantined d ring → ⊥

-- So many different rings are free.
pub record FreeRings (d : Device) (n : ℕ) : Type 0 where
  pub rings : List ℕ
  pub counted : length rings ≡ n
  pub differ : Differ rings
  pub free : Each (IsFree d) rings
