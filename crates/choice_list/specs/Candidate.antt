-- What an interface may choose for a wanted polling period: alternate words of the first configuration. 02, item 14.
use Rattle.std.specs.Prelude.{ℕ, ◌+◌, Bool, true, false, ◌&&◌, ◌||◌, Option, Some, None, List, [], ◌∷◌, eqb, leb, ltb, length, get_or}
use Rattle.descriptor.specs.declared.TransferType.{TransferType}
use Rattle.descriptor.specs.declared.TransferType.TheVariants.{Control, Isochronous, Bulk, Interrupt}
use Rattle.descriptor.specs.Word.{alternate_setting, endpoint_descriptor}
use Rattle.descriptor.specs.Endpoint.{periodic_interval}
use Rattle.descriptor_configuration.specs.Words.{up_to_configuration}
use Rattle.descriptor_list.specs.declared.EndpointWords.{EndpointWords}
use Rattle.descriptor_list.specs.Lookup.{of_interface, find_endpoints}
use Rattle.record_settings.specs.Held.{setting_words}

-- How many words of a list its first configuration has.
unfoldable pub first_length : List ℕ → ℕ
first_length [] = 0
first_length (w ∷ l) = length (up_to_configuration l) + 1

-- An interrupt endpoint word has a context interval no longer than one; any other word passes.
unfoldable pub short_as : TransferType → ℕ → ℕ → ℕ → Bool
short_as Control byte speed longest = true
short_as Isochronous byte speed longest = true
short_as Bulk byte speed longest = true
short_as Interrupt byte speed longest = leb (periodic_interval byte speed) longest

unfoldable pub is_short : ℕ → ℕ → ℕ → Bool
is_short speed longest w =
    let e = endpoint_descriptor w in
    short_as e.transfer_type e.interval speed longest

unfoldable pub all_short : ℕ → ℕ → List ℕ → Bool
all_short speed longest [] = true
all_short speed longest (w ∷ ws) = is_short speed longest w && all_short speed longest ws

-- Whether lookup finds the alternate word at a place.
unfoldable pub found_at : ℕ → Option EndpointWords → Bool
found_at place (Some words) = eqb words.start (place + 1)
found_at place None = false

-- The endpoint words of the alternate word at a place, which is an interface's.
unfoldable pub words_at : List ℕ → ℕ → ℕ → List ℕ
words_at list interface place = setting_words list interface (alternate_setting (get_or list place 0))

-- A place of the first configuration that an interface may choose.
unfoldable pub is_candidate : List ℕ → ℕ → ℕ → ℕ → ℕ → Bool
is_candidate list speed longest interface place =
    let w = get_or list place 0 in
    ltb place (first_length list)
    && (of_interface interface w
    && (found_at place (find_endpoints list interface (alternate_setting w))
    && all_short speed longest (words_at list interface place)))

unfoldable pub has_address : ℕ → List ℕ → Bool
has_address a [] = false
has_address a (w ∷ ws) = eqb (endpoint_descriptor w).address a || has_address a ws
