-- Worked values of the definitions, with companions and without them: a device read and written, and each ground on which bytes are malformed with the bytes just beside it.
use Prim.Native.Nat.{ℕ}
use mathlib.Core.Path.{◌≡◌, refl}
use mathlib.Core.Bool.{Bool, true, false}
use mathlib.Core.List.{List, [], ◌∷◌, ◌++◌}
use Rattle.laws.specs.Distinct.{elem}
use Rattle.descriptor.specs.Word.{kind, configuration_value, interface_number, alternate_setting, direction_in, endpoint_number, type_number, transfer_type, companion_burst, companion_mult, companion_bytes, companion_of, endpoint_descriptor, endpoint_ok, word_ok}
use Rattle.descriptor_list.specs.Lookup.{endpoint_run, of_interface}
use Rattle.descriptor_list.specs.Valid.{begins_with_configuration, words_ok, run_fits, runs_fit, configurations, has_interface, last_alternate, interfaces, valid_list}
use Rattle.descriptor_raw.specs.Descriptor.{size_of}
use Rattle.descriptor_raw.specs.Claims.{up_to, bytes_of, interface_numbers, endpoints, distinct_count, bytes_after, interfaces_after, endpoints_after}
use Rattle.descriptor_raw.specs.Words.{configuration_word, alternate_word, endpoint_word}
use Rattle.descriptor_raw.specs.Read.{cut, descriptors, whole, borne_out, all_whole, all_borne_out, well_formed, words_of, all_words, is_isochronous, settled_word, settled_after, read_words}
use Rattle.descriptor_raw.specs.Write.{configuration_descriptor, interface_descriptor, endpoint_bytes, companion_descriptor, word_packets, descriptor_of, all_descriptors, joined, written_bytes, packets_given}

-- a keyboard's
keyboard : List ℕ
keyboard =
    9 ∷ 2 ∷ 25 ∷ 0 ∷ 1 ∷ 1 ∷ 0 ∷ 0x80 ∷ 0x32
    ∷ 9 ∷ 4 ∷ 0 ∷ 0 ∷ 1 ∷ 3 ∷ 0 ∷ 0 ∷ 0
    ∷ 7 ∷ 5 ∷ 0x81 ∷ 3 ∷ 8 ∷ 0 ∷ 4 ∷ []

words : List ℕ
words = 0x00400000 ∷ 0x40000000 ∷ 0xa3808410 ∷ []

read : (super : Bool) →
    (well_formed super (descriptors keyboard) ≡ true)
    × (read_words super keyboard ≡ words)
    × (valid_list words ≡ true)
    × (well_formed super (descriptors []) ≡ true)
    × (well_formed super (descriptors (2 ∷ 9 ∷ 3 ∷ 0 ∷ 0 ∷ [])) ≡ true)
    × (well_formed super (descriptors (2 ∷ [])) ≡ false)
    × (well_formed super (descriptors (1 ∷ [])) ≡ false)
    × (well_formed super (descriptors (0 ∷ [])) ≡ false)
    × (well_formed super (descriptors (keyboard ++ (2 ∷ []))) ≡ false)
unfolding keyboard words size_of cut descriptors whole borne_out all_whole all_borne_out well_formed words_of all_words is_isochronous settled_word settled_after read_words up_to bytes_of interface_numbers endpoints distinct_count bytes_after interfaces_after endpoints_after configuration_word alternate_word endpoint_word elem valid_list begins_with_configuration words_ok run_fits runs_fit configurations has_interface last_alternate interfaces of_interface endpoint_run kind interface_number direction_in endpoint_number type_number endpoint_ok word_ok
read true = (refl, refl, refl, refl, refl, refl, refl, refl, refl)
read false = (refl, refl, refl, refl, refl, refl, refl, refl, refl)

write :
    (written_bytes words
    ≡ 9 ∷ 2 ∷ 25 ∷ 0 ∷ 1 ∷ 1 ∷ 0 ∷ 0x80 ∷ 0
    ∷ 9 ∷ 4 ∷ 0 ∷ 0 ∷ 1 ∷ 0 ∷ 0 ∷ 0 ∷ 0
    ∷ 7 ∷ 5 ∷ 0x81 ∷ 3 ∷ 8 ∷ 0 ∷ 4 ∷ [])
    × (packets_given words ≡ true)
    × (packets_given (0xa3808010 ∷ []) ≡ false)
unfolding words size_of up_to bytes_of interface_numbers endpoints distinct_count bytes_after interfaces_after endpoints_after configuration_descriptor interface_descriptor endpoint_bytes companion_descriptor word_packets descriptor_of all_descriptors joined written_bytes packets_given kind configuration_value interface_number alternate_setting direction_in endpoint_number type_number transfer_type companion_burst companion_mult companion_bytes companion_of endpoint_descriptor elem
write = (refl, refl, refl)

-- descriptors as a device may have them
abbrev conf : ℕ → ℕ → List ℕ
conf total interfaces = 9 ∷ 2 ∷ total ∷ 0 ∷ interfaces ∷ 1 ∷ 0 ∷ 0xa0 ∷ 50 ∷ []

abbrev face : ℕ → ℕ → ℕ → List ℕ
face number alternate endpoints = 9 ∷ 4 ∷ number ∷ alternate ∷ endpoints ∷ 3 ∷ 1 ∷ 1 ∷ 0 ∷ []

abbrev point : ℕ → List ℕ
point high = 7 ∷ 5 ∷ 0x81 ∷ 2 ∷ 0 ∷ high ∷ 0 ∷ []

abbrev other : List ℕ
other = 3 ∷ 0x24 ∷ 1 ∷ []

abbrev formed : Bool → List ℕ → Bool
formed super bytes = well_formed super (descriptors bytes)

grounds : (super : Bool) →
    -- a total ends at the next configuration, or at the end
    (formed super (conf 12 0 ++ (other ++ conf 9 0)) ≡ true)
    × (formed super (conf 21 0 ++ (other ++ conf 9 0)) ≡ false)
    × (formed super (conf 9 0 ++ (other ++ conf 9 0)) ≡ false)
    × (formed super (conf 13 0 ++ (other ++ conf 9 0)) ≡ false)
    -- interfaces are counted without repeats
    × (formed super (conf 36 2 ++ (face 0 0 0 ++ (face 1 0 0 ++ face 0 1 0))) ≡ true)
    × (formed super (conf 36 3 ++ (face 0 0 0 ++ (face 1 0 0 ++ face 0 1 0))) ≡ false)
    -- endpoints with them, whatever stands between
    × (formed super (conf 35 1 ++ (face 0 0 2 ++ (point 0 ++ (other ++ point 0)))) ≡ true)
    × (formed super (conf 35 1 ++ (face 0 0 1 ++ (point 0 ++ (other ++ point 0)))) ≡ false)
    -- also outside a configuration
    × (formed super (face 0 0 1 ++ point 0) ≡ true)
    × (formed super (face 0 0 0 ++ point 0) ≡ false)
    -- bits 12 and 11
    × (formed super (point 0x10) ≡ true)
    × (formed super (point 0x18) ≡ false)
    × (formed super (point 0xe0) ≡ true)
    -- lengths
    × (formed super (8 ∷ 4 ∷ 0 ∷ 0 ∷ 0 ∷ 3 ∷ 1 ∷ 1 ∷ []) ≡ false)
    × (formed super (10 ∷ 4 ∷ 0 ∷ 0 ∷ 0 ∷ 3 ∷ 1 ∷ 1 ∷ 0 ∷ 0 ∷ []) ≡ true)
    × (formed super (6 ∷ 5 ∷ 0x81 ∷ 2 ∷ 0 ∷ 0 ∷ []) ≡ false)
    × (formed super (1 ∷ 2 ∷ 0x24 ∷ []) ≡ false)
    × (formed super (4 ∷ 0x24 ∷ 1 ∷ []) ≡ false)
unfolding size_of cut descriptors whole borne_out all_whole all_borne_out well_formed up_to bytes_of interface_numbers endpoints distinct_count bytes_after interfaces_after endpoints_after elem
grounds true =
    (refl, refl, refl, refl, refl, refl, refl, refl, refl, refl, refl, refl, refl, refl, refl, refl, refl, refl)
grounds false =
    (refl, refl, refl, refl, refl, refl, refl, refl, refl, refl, refl, refl, refl, refl, refl, refl, refl, refl)
