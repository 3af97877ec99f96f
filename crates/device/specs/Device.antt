-- What a record says, and what a call makes of it.
use Rattle.std.specs.Prelude.{ℕ, ◌≡◌, Bool, true, false, cond, List, length, take, replicate}
use Rattle.descriptor_list.specs.Valid.{LIST-ROOM}
use Rattle.descriptor_list.specs.Companions.{joined}
use Rattle.record_ring.specs.Rings.{RING-ROOM, entered}
use Rattle.record_ring.specs.Store.{GIVEN-ROOM, free_rings}
use Rattle.record_endpoint.specs.Order.{PLACES}
use Rattle.record_endpoint.specs.declared.endpoint_map.EndpointMap.{EndpointMap}
use Rattle.record_endpoint.specs.declared.entry.Endpoints.{Endpoints}
use Rattle.record_endpoint.specs.declared.entry.Handle.{Handle}
use Rattle.record_endpoint.specs.declared.entry.Handle.TheVariants.{Active, Revoked}
use Rattle.record_endpoint.specs.EndpointMap.{endpoint_map_of, endpoints_of, owners_of}
use Rattle.record_endpoint.specs.Endpoint.{blank, padded, rings_of}
use Rattle.record_settings.specs.Held.{HELD-ROOM, Held, held_in, interfaces_of, alternates_of}
use Rattle.device.specs.declared.record.Device.{Device}

-- The words of a record's descriptor list.
unfoldable pub words_of : Device → List ℕ
words_of d = take d.list_len d.list

-- The same with each endpoint word and its companion as one; the endpoints by place, the held settings, the quarantined rings and the given ones.
unfoldable pub list_of : Device → List ℕ
list_of d = joined (words_of d)

unfoldable pub endpoint_map_in : Device → EndpointMap
endpoint_map_in d = endpoint_map_of d.ep_count d.eps d.ep_interfaces

unfoldable pub held_of : Device → List Held
held_of d = held_in d.held_count d.interfaces d.alternates

unfoldable pub quarantined_of : Device → List ℕ
quarantined_of d = take d.quarantined_count d.quarantined

unfoldable pub given_of : Device → List ℕ
given_of d = take d.given_count d.given

-- The given rings that are not an endpoint's, not control's and not quarantined.
unfoldable pub free_of : Device → List ℕ
free_of d = free_rings (given_of d) (rings_of (take d.ep_count d.eps)) d.control (quarantined_of d)

-- What a bring-up says for good: no later call changes it.
pub record Fixed : Type 0 where
  pub slot : ℕ
  pub max_slots : ℕ
  pub spacing : ℕ
  pub speed : ℕ
  pub list : List ℕ
  pub list_length : ℕ
  pub control : ℕ
  pub given : List ℕ
  pub given_count : ℕ

-- The second record says for good what the first does.
pub record Same (d e : Device) : Type 0 where
  pub slot : e.slot ≡ d.slot
  pub max_slots : e.max_slots ≡ d.max_slots
  pub spacing : e.spacing ≡ d.spacing
  pub speed : e.port_speed ≡ d.port_speed
  pub list : words_of e ≡ words_of d
  pub list_length : e.list_len ≡ d.list_len
  pub control : e.control ≡ d.control
  pub given : given_of e ≡ given_of d
  pub given_count : e.given_count ≡ d.given_count

-- The marks, the configuration value and control's handle.
pub record Status : Type 0 where
  pub usable : Bool
  pub up : Bool
  pub configured : Bool
  pub value : ℕ
  pub handle : Handle

-- The held settings, in arrays beside their count.
pub record HeldArrays : Type 0 where
  pub interfaces : List ℕ
  pub alternates : List ℕ
  pub count : ℕ

-- What becomes of a part of a record: it stays, or is another.
abbrev pub keep : {A : Type 0} → A → A
keep was = was

abbrev pub put : {A : Type 0} → A → A → A
put new was = new

-- The record with its parts made anew: what a bring-up said, the status, the endpoints, the settings, the quarantine.
unfoldable pub rebuilt :
    (Fixed → Fixed) → (Status → Status) → (Endpoints → Endpoints) → (HeldArrays → HeldArrays) → (List ℕ × ℕ → List ℕ × ℕ) → Device → Device
rebuilt fixed status endpoints settings quarantine d =
    let f =
    fixed
    (record {
      slot = d.slot.0;
      max_slots = d.max_slots;
      spacing = d.spacing;
      speed = d.port_speed;
      list = d.list;
      list_length = d.list_len;
      control = d.control;
      given = d.given;
      given_count = d.given_count;
    }) in
    let t =
    status
    (record {
      usable = d.usable;
      up = d.up;
      configured = d.configured;
      value = d.current_config_value;
      handle = d.control_handle;
    }) in
    let e = endpoints (record { eps = d.eps; owners = d.ep_interfaces; count = d.ep_count }) in
    let s = settings (record { interfaces = d.interfaces; alternates = d.alternates; count = d.held_count }) in
    let q = quarantine (d.quarantined, d.quarantined_count) in
    record {
      usable = t.usable;
      up = t.up;
      slot = record { 0 = f.slot };
      max_slots = f.max_slots;
      spacing = f.spacing;
      port_speed = f.speed;
      configured = t.configured;
      current_config_value = t.value;
      list = f.list;
      list_len = f.list_length;
      eps = e.eps;
      ep_interfaces = e.owners;
      ep_count = e.count;
      interfaces = s.interfaces;
      alternates = s.alternates;
      held_count = s.count;
      control = f.control;
      control_handle = t.handle;
      quarantined = q.0;
      quarantined_count = q.1;
      given = f.given;
      given_count = f.given_count;
    }

-- The record of a refused bring-up: unusable and otherwise empty.
unfoldable pub no_device : Device
no_device =
    record {
      usable = false;
      up = false;
      slot = record { 0 = 0 };
      max_slots = 0;
      spacing = 0;
      port_speed = 0;
      configured = false;
      current_config_value = 0;
      list = replicate LIST-ROOM 0;
      list_len = 0;
      eps = replicate PLACES blank;
      ep_interfaces = replicate PLACES 0;
      ep_count = 0;
      interfaces = replicate HELD-ROOM 0;
      alternates = replicate HELD-ROOM 0;
      held_count = 0;
      control = 0;
      control_handle = Active;
      quarantined = replicate RING-ROOM 0;
      quarantined_count = 0;
      given = replicate GIVEN-ROOM 0;
      given_count = 0;
    }

-- A status marked unusable, one with a configuration value, one with control's handle revoked, and that of a device that is gone.
abbrev pub lost : Status → Status
lost t = record { usable = false; up = t.up; configured = t.configured; value = t.value; handle = t.handle }

abbrev pub used : Bool → Status → Status
used usable t = record { usable = usable; up = t.up; configured = t.configured; value = t.value; handle = t.handle }

abbrev pub valued : ℕ → Status → Status
valued value t = record { usable = t.usable; up = t.up; configured = true; value = value; handle = t.handle }

abbrev pub control_revoked : Status → Status
control_revoked t = record { usable = t.usable; up = t.up; configured = t.configured; value = t.value; handle = Revoked }

abbrev pub gone : Status → Status
gone t = record { usable = false; up = false; configured = t.configured; value = t.value; handle = Revoked }

-- The arrays of some endpoints, by rising address, blanks past them; of some settings; of some rings.
unfoldable pub endpoint_arrays : EndpointMap → Endpoints
endpoint_arrays c =
    record { eps = padded PLACES blank (endpoints_of c); owners = padded PLACES 0 (owners_of c); count = length (endpoints_of c) }

unfoldable pub setting_arrays : List Held → HeldArrays
setting_arrays hs =
    record { interfaces = padded HELD-ROOM 0 (interfaces_of hs); alternates = padded HELD-ROOM 0 (alternates_of hs); count = length hs }

unfoldable pub ring_array : List ℕ → List ℕ × ℕ
ring_array rings = (padded RING-ROOM 0 rings, length rings)

-- The record with its mark as it is said.
unfoldable pub with_usable : Bool → Device → Device
unfolding rebuilt
with_usable usable d = rebuilt keep (used usable) keep keep keep d

-- The record marked unusable.
unfoldable pub unusable : Device → Device
unfolding rebuilt
unusable d = rebuilt keep lost keep keep keep d

-- The record with a configuration value.
unfoldable pub with_configuration : ℕ → Device → Device
unfolding rebuilt
with_configuration value d = rebuilt keep (valued value) keep keep keep d

-- The record with other endpoints.
unfoldable pub with_endpoints : EndpointMap → Device → Device
unfolding rebuilt endpoint_arrays
with_endpoints c d = rebuilt keep keep (put (endpoint_arrays c)) keep keep d

-- The record with other held settings.
unfoldable pub with_held : List Held → Device → Device
unfolding rebuilt setting_arrays
with_held hs d = rebuilt keep keep keep (put (setting_arrays hs)) keep d

-- The record with more rings in quarantine.
unfoldable pub with_quarantined : List ℕ → Device → Device
unfolding rebuilt ring_array
with_quarantined rings d = rebuilt keep keep keep keep (put (ring_array (entered (quarantined_of d) rings))) d

-- The same where they are in doubt.
unfoldable pub quarantines : Bool → List ℕ → Device → Device
quarantines doubted rings d = cond doubted (with_quarantined rings d) d
