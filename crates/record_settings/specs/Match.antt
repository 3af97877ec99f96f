-- Whether the endpoints of a record are those of its held settings, from 01's sound record: exactly one endpoint with owner and
-- ring for each distinct address of those alternates and no others, no address under two owners.
use Rattle.std.specs.Prelude.{ℕ, zero, suc, ◌+◌, Bool, true, false, not, ◌&&◌, ◌||◌, List, [], ◌∷◌, eqb, get_or}
use Rattle.descriptor.specs.Word.{endpoint_descriptor}
use Rattle.record_endpoint.specs.Order.{PLACES, place_of}
use Rattle.record_endpoint.specs.EndpointMap.{is_owned, tabulated}
use Rattle.record_endpoint.specs.declared.endpoint_map.EndpointMap.{EndpointMap}
use Rattle.record_endpoint.specs.declared.endpoint_map.Owner.TheVariants.{Interface}
use Rattle.record_settings.specs.Held.{Held, is_held, setting_words, each_setting}

-- Whether some endpoint word is of the address at a place.
unfoldable pub has_place : ℕ → List ℕ → Bool
has_place place [] = false
has_place place (w ∷ ws) = eqb (place_of (endpoint_descriptor w).address) place || has_place place ws

-- The same for every place.
unfoldable pub places_of : List ℕ → List Bool
places_of words = tabulated (λ p. has_place p words) PLACES 0

unfoldable pub agree : Bool → Bool → Bool
agree true b = b
agree false b = not b

-- Whether k places from `place` on pass a test, and whether every place does.
unfoldable pub each_from : (ℕ → Bool) → ℕ → ℕ → Bool
each_from test zero place = true
each_from test (suc k) place = test place && each_from test k (place + 1)

unfoldable pub each_place : (ℕ → Bool) → Bool
each_place test = each_from test PLACES 0

-- A setting's words and its interface's endpoints are at the same places.
unfoldable pub owns_places : List ℕ → ℕ → EndpointMap → Bool
owns_places words i c = each_place (λ p. agree (has_place p words) (is_owned (Interface i) c p))

unfoldable pub all_own : List ℕ → List Held → EndpointMap → Bool
all_own list hs c = each_setting (λ i a. owns_places (setting_words list i a) i c) hs

-- Each endpoint is owned by an interface that holds a setting.
unfoldable pub owners_held : List Held → EndpointMap → Bool
owners_held hs c = each_place (λ p. eqb (get_or c.rings p 0) 0 || is_held (get_or c.owners p 0) hs)

unfoldable pub endpoints_match : List ℕ → List Held → EndpointMap → Bool
endpoints_match list hs c = all_own list hs c && owners_held hs c

-- For a claim: a word's address has no endpoint of another interface.
unfoldable pub address_free : ℕ → ℕ → EndpointMap → Bool
address_free w i c =
    let place = place_of (endpoint_descriptor w).address in
    eqb (get_or c.rings place 0) 0 || eqb (get_or c.owners place 0) i

-- The same for each word. Otherwise 01's answer 9.
unfoldable pub addresses_free : List ℕ → ℕ → EndpointMap → Bool
addresses_free [] i c = true
addresses_free (w ∷ ws) i c = address_free w i c && addresses_free ws i c
