-- The record as words of 64 bits: a word for each number and each element of an array.
-- They stand by width (flags, bytes, words of 32 bits, words of 64, and what was appended), so that four runs tell what is an image and what is
-- not.
use Rattle.std.specs.Prelude.{ℕ, zero, suc, ◌+◌, ◌-◌, ◌≡◌, Bool, true, false, not, cond, ◌&&◌, eqb, ltb, length, get_or}
use mathlib.Core.List.{List, [], ◌∷◌, map, flatten}
use Rattle.descriptor_list.specs.Valid.{LIST-ROOM}
use Rattle.record_ring.specs.Rings.{RING-ROOM}
use Rattle.record_ring.specs.Store.{GIVEN-ROOM}
use Rattle.record_endpoint.specs.Order.{PLACES}
use Rattle.record_endpoint.specs.EndpointMap.{tabulated}
use Rattle.record_endpoint.specs.declared.entry.Handle.{Handle}
use Rattle.record_endpoint.specs.declared.entry.Handle.TheVariants.{Active, Revoked}
use Rattle.record_endpoint.specs.declared.entry.Endpoint.{Endpoint}
use Rattle.record_endpoint.specs.declared.entry.Endpoints.{Endpoints}
use Rattle.record_settings.specs.Held.{HELD-ROOM}
use Rattle.device.specs.declared.record.Device.{Device}
use Rattle.device.specs.Device.{put, rebuilt, no_device}
use Rattle.device_image.specs.Layout.{USABLE, CONFIGURED, CONTROL-REVOKED, EP-REVOKED, SLOT, MAX-SLOTS, PORT-SPEED, CURRENT-CONFIG-VALUE, EP-ADDRESSES, EP-INTERFACES, INTERFACES, ALTERNATES, LIST, SPACING, LIST-LEN, EP-COUNT, HELD-COUNT, QUARANTINED-COUNT, CONTROL, EP-RINGS, QUARANTINED, UP, GIVEN-COUNT, GIVEN, WORDS}

unfoldable pub flag : Bool → ℕ
flag true = 1
flag false = 0

unfoldable pub revoked : Handle → ℕ
revoked Active = 0
revoked Revoked = 1

unfoldable pub handle_word : Endpoint → ℕ
handle_word e = revoked e.handle

unfoldable pub address_word : Endpoint → ℕ
address_word e = e.address

unfoldable pub ring_word : Endpoint → ℕ
ring_word e = e.ring

-- The words of a record, part by part. The parts begin at USABLE, EP-REVOKED, SLOT, EP-ADDRESSES, EP-INTERFACES, INTERFACES, ALTERNATES,
-- LIST, SPACING, EP-RINGS, QUARANTINED, UP and GIVEN.
unfoldable pub parts : Device → List (List ℕ)
parts d =
    (flag d.usable ∷ flag d.configured ∷ revoked d.control_handle ∷ [])
    ∷ map handle_word d.eps
    ∷ (d.slot.0 ∷ d.max_slots ∷ d.port_speed ∷ d.current_config_value ∷ [])
    ∷ map address_word d.eps
    ∷ d.ep_interfaces
    ∷ d.interfaces
    ∷ d.alternates
    ∷ d.list
    ∷ (d.spacing ∷ d.list_len ∷ d.ep_count ∷ d.held_count ∷ d.quarantined_count ∷ d.control ∷ [])
    ∷ map ring_word d.eps
    ∷ d.quarantined
    ∷ (flag d.up ∷ d.given_count ∷ [])
    ∷ d.given
    ∷ []

unfoldable pub encode : Device → List ℕ
encode d = flatten (parts d)

-- What a word says.
unfoldable pub is_set : ℕ → Bool
is_set w = not (eqb w 0)

unfoldable pub handle_in : ℕ → Handle
handle_in w = cond (eqb w 0) Active Revoked

unfoldable pub number_at : List ℕ → ℕ → ℕ
number_at l i = get_or l i 0

unfoldable pub endpoint_in : List ℕ → ℕ → Endpoint
endpoint_in l i =
    record {
      address = get_or l (EP-ADDRESSES + i) 0;
      ring = get_or l (EP-RINGS + i) 0;
      handle = handle_in (get_or l (EP-REVOKED + i) 0);
    }

unfoldable pub endpoints_in : List ℕ → Endpoints
endpoints_in l =
    record {
      eps = tabulated (endpoint_in l) PLACES 0;
      owners = tabulated (number_at l) PLACES EP-INTERFACES;
      count = get_or l EP-COUNT 0;
    }

-- The record of a list, endpoints, the interfaces and the alternates of settings, a handle, quarantined and given rings, with its numbers as
-- words say.
abbrev pub numbered : List ℕ → List ℕ → Endpoints → List ℕ → List ℕ → Handle → List ℕ → List ℕ → Device
numbered l list endpoints interfaces alternates handle rings given =
    rebuilt
    (put
    (record {
      slot = get_or l SLOT 0;
      max_slots = get_or l MAX-SLOTS 0;
      spacing = get_or l SPACING 0;
      speed = get_or l PORT-SPEED 0;
      list = list;
      list_length = get_or l LIST-LEN 0;
      control = get_or l CONTROL 0;
      given = given;
      given_count = get_or l GIVEN-COUNT 0;
    }))
    (put
    (record {
      usable = is_set (get_or l USABLE 0);
      up = is_set (get_or l UP 0);
      configured = is_set (get_or l CONFIGURED 0);
      value = get_or l CURRENT-CONFIG-VALUE 0;
      handle = handle;
    }))
    (put endpoints) (put (record { interfaces = interfaces; alternates = alternates; count = get_or l HELD-COUNT 0 }))
    (put (rings, get_or l QUARANTINED-COUNT 0)) no_device

-- The record that words say, 0 past their end.
unfoldable pub read : List ℕ → Device
unfolding rebuilt endpoints_in
read l =
    numbered l (tabulated (number_at l) LIST-ROOM LIST) (endpoints_in l) (tabulated (number_at l) HELD-ROOM INTERFACES)
    (tabulated (number_at l) HELD-ROOM ALTERNATES) (handle_in (get_or l CONTROL-REVOKED 0)) (tabulated (number_at l) RING-ROOM QUARANTINED)
    (tabulated (number_at l) GIVEN-ROOM GIVEN)

-- The list and the given rings of a record, which no call on it changes, are those that words say.
pub record FixedIn (d : Device) (l : List ℕ) : Type 0 where
  pub list : d.list ≡ (read l).list
  pub given : d.given ≡ (read l).given

-- A record over a buffer: its words, or what was there where the length is another.
unfoldable pub stored : Device → List ℕ → List ℕ
stored d l = cond (eqb (length l) WORDS) (encode d) l

-- Whether k words from i on are below a bound.
unfoldable pub below : ℕ → ℕ → ℕ → List ℕ → Bool
below bound zero i l = true
below bound (suc k) i l = ltb (get_or l i 0) bound && below bound k (i + 1) l

-- Whether a buffer holds an image: what `encode` makes of the record that `decode` reads.
unfoldable pub is_image : List ℕ → Bool
is_image l =
    eqb (length l) WORDS
    && (below 2 (SLOT - USABLE) USABLE l
    && (below 256 (LIST - SLOT) SLOT l && (below 4294967296 (SPACING - LIST) LIST l && below 2 (GIVEN-COUNT - UP) UP l)))

-- Words that are no image say zeros.
unfoldable pub decode : List ℕ → Device
decode l = read (cond (is_image l) l [])
