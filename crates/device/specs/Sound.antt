-- 01's sound record.
use Rattle.std.specs.Prelude.{ℕ, Bool, ◌&&◌, List, [], ◌∷◌, ◌++◌, take}
use Rattle.record_endpoint.specs.Endpoint.{addresses, rings_of}
use Rattle.record_checks.specs.Rings.{sound_rings}
use Rattle.record_checks.specs.Store.{sound_store}
use Rattle.record_checks.specs.Sound.{sound_slot, sound_counts, sound_lists}
use Rattle.device.specs.declared.record.Device.{Device}
use Rattle.device.specs.Device.{words_of, endpoint_map_in, held_of, quarantined_of, given_of}

unfoldable pub slot_sound : Device → Bool
slot_sound d = sound_slot d.slot.0 d.max_slots d.spacing d.port_speed

-- The counts fit their arrays.
unfoldable pub counts_fit : Device → Bool
counts_fit d = sound_counts d.list_len d.ep_count d.held_count d.quarantined_count d.given_count

unfoldable pub lists_sound : Device → Bool
lists_sound d = sound_lists d.port_speed (words_of d) (held_of d) (addresses (take d.ep_count d.eps)) (endpoint_map_in d)

-- The endpoints' rings and control's.
unfoldable pub live_rings : Device → List ℕ
live_rings d = rings_of (take d.ep_count d.eps) ++ (d.control ∷ [])

-- A quarantined ring may be live or control's too.
unfoldable pub rings_sound : Device → Bool
rings_sound d = sound_rings d.usable (live_rings d) (quarantined_of d)

-- The given rings fit, and those in use are among them.
unfoldable pub store_sound : Device → Bool
store_sound d = sound_store (given_of d) (live_rings d) (quarantined_of d)

unfoldable pub sound : Device → Bool
sound d = slot_sound d && (counts_fit d && (lists_sound d && (rings_sound d && store_sound d)))
