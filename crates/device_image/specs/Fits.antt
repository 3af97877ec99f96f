-- A record whose arrays have their lengths and whose numbers are of their types.
use Rattle.std.specs.Prelude.{◌<◌, ◌≡◌, map, length}
use Rattle.laws.specs.Bounds.{Below}
use Rattle.descriptor_list.specs.Valid.{LIST-ROOM}
use Rattle.record_ring.specs.Rings.{RING-ROOM}
use Rattle.record_ring.specs.Store.{GIVEN-ROOM}
use Rattle.record_endpoint.specs.Order.{PLACES}
use Rattle.record_settings.specs.Held.{HELD-ROOM}
use Rattle.device.specs.declared.record.Device.{Device}
use Rattle.device_image.specs.Image.{address_word}

pub record Fits (d : Device) : Type 0 where
  pub slot : d.slot.0 < 256
  pub max_slots : d.max_slots < 256
  pub speed : d.port_speed < 256
  pub value : d.current_config_value < 256
  pub list : (length d.list ≡ LIST-ROOM) × Below 4294967296 d.list
  pub eps : (length d.eps ≡ PLACES) × Below 256 (map address_word d.eps)
  pub owners : (length d.ep_interfaces ≡ PLACES) × Below 256 d.ep_interfaces
  pub interfaces : (length d.interfaces ≡ HELD-ROOM) × Below 256 d.interfaces
  pub alternates : (length d.alternates ≡ HELD-ROOM) × Below 256 d.alternates
  pub quarantined : length d.quarantined ≡ RING-ROOM
  pub given : length d.given ≡ GIVEN-ROOM
