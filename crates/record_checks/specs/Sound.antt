-- What 01's sound record asks of a place, of counts, and of the list with the settings and endpoints beside it.
use Rattle.std.specs.Prelude.{ℕ, Bool, ◌&&◌, ◌||◌, List, eqb, leb}
use Rattle.def.specs.Speed.{speed_known}
use Rattle.descriptor_list.specs.Valid.{LIST-ROOM}
use Rattle.descriptor_list.specs.Companions.{joined, valid_at}
use Rattle.record_ring.specs.Rings.{RING-ROOM}
use Rattle.record_ring.specs.Store.{GIVEN-ROOM}
use Rattle.record_endpoint.specs.declared.endpoint_map.EndpointMap.{EndpointMap}
use Rattle.record_endpoint.specs.Order.{PLACES}
use Rattle.record_endpoint.specs.Endpoint.{addresses_fit}
use Rattle.record_settings.specs.Held.{HELD-ROOM, Held, settings_sound}
use Rattle.record_settings.specs.Match.{endpoints_match}

-- A slot from 1 to N, N at most 255, spacing 32 or 64, speed 1 to 5.
abbrev pub sound_slot : ℕ → ℕ → ℕ → ℕ → Bool
sound_slot slot slots spacing speed =
    (leb 1 slot && (leb slot slots && leb slots 255)) && ((eqb spacing 32 || eqb spacing 64) && speed_known speed)

-- The words of the list, endpoints, held settings, quarantined and given rings that the arrays of a record have room for.
abbrev pub sound_counts : ℕ → ℕ → ℕ → ℕ → ℕ → Bool
sound_counts words endpoints held quarantined given =
    leb words LIST-ROOM && (leb endpoints PLACES && (leb held HELD-ROOM && (leb quarantined RING-ROOM && leb given GIVEN-ROOM)))

-- Settings that joined words have, endpoint addresses that have places, endpoints that are those of the settings.
abbrev pub lists_match : List ℕ → List Held → List ℕ → EndpointMap → Bool
lists_match words hs addresses c = settings_sound words hs && (addresses_fit addresses && endpoints_match words hs c)

-- A list that is valid at the speed, and these beside it.
abbrev pub sound_lists : ℕ → List ℕ → List Held → List ℕ → EndpointMap → Bool
sound_lists speed list hs addresses c =
    valid_at speed list && lists_match (joined list) hs addresses c
