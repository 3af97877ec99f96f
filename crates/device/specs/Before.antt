-- The lists of a record where there are no companions: at speeds 1 to 3 they are what they were before 02's request 11.
use Rattle.std.specs.Prelude.{Bool, true, false, ◌&&◌, ◌≡◌, take}
use Rattle.def.specs.Speed.{is_super}
use Rattle.descriptor_list.specs.Valid.{valid_list}
use Rattle.record_endpoint.specs.Endpoint.{addresses, addresses_fit}
use Rattle.record_settings.specs.Held.{settings_sound}
use Rattle.record_settings.specs.Match.{endpoints_match}
use Rattle.device.specs.declared.record.Device.{Device}
use Rattle.device.specs.Device.{words_of, list_of, endpoint_map_in, held_of}
use Rattle.device.specs.Sound.{lists_sound, sound}

unfoldable pub lists_sound_before : Device → Bool
lists_sound_before d =
    valid_list (words_of d)
    && (settings_sound (words_of d) (held_of d)
    && (addresses_fit (addresses (take d.ep_count d.eps)) && endpoints_match (words_of d) (held_of d) (endpoint_map_in d)))

pub record AsBefore (d : Device) : Type 0 where
  pub lists : lists_sound d ≡ lists_sound_before d
  -- and what lookup works on is the list itself
  pub list : sound d ≡ true → list_of d ≡ words_of d

abbrev pub BeforePromise : Type 0
BeforePromise = (d : Device) → is_super d.port_speed ≡ false → AsBefore d
