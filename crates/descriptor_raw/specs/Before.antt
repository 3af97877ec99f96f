-- Reader and writer without companions, as 02's request 2 has them before request 11; at speeds 1 to 3 they are the same.
use Rattle.std.specs.Prelude.{ℕ, ◌+◌, Bool, true, cond, ◌&&◌, List, [], ◌∷◌, ◌++◌, eqb, leb, length, set, replicate}
use Rattle.descriptor.specs.Word.{CONFIGURATION, ALTERNATE, kind, configuration_value, interface_number, alternate_setting, type_number, endpoint_descriptor}
use Rattle.descriptor_list.specs.Valid.{valid_list}
use Rattle.function_answer.specs.declared.Refusal.TheVariants.{TooShort, DescriptorList, Malformed}
use Rattle.function_answer.specs.Answer.{Left, accepts, unless}
use Rattle.descriptor_raw.specs.Descriptor.{CONFIGURATION-TYPE, INTERFACE-TYPE, ENDPOINT-TYPE, LENGTH, TYPE, TOTAL-LENGTH, NUM-INTERFACES, CONFIGURATION-VALUE, CONFIGURATION-ATTRIBUTES, INTERFACE-NUMBER, ALTERNATE-SETTING, NUM-ENDPOINTS, ENDPOINT-ADDRESS, ENDPOINT-ATTRIBUTES, MAX-PACKET-SIZE, INTERVAL, byte_at, two_bytes_at, is_configuration, is_interface, is_endpoint}
use Rattle.descriptor_raw.specs.Claims.{bytes_after, interfaces_after, endpoints_after}
use Rattle.descriptor_raw.specs.Words.{configuration_word, alternate_word, endpoint_word}
use Rattle.descriptor_raw.specs.Read.{descriptors, all_borne_out}
use Rattle.descriptor_raw.specs.Write.{with_byte, with_two_bytes, RESERVED-ONE, word_packets, joined, packets_given}

-- The size of a descriptor by its type; one of another type has at least a length and a type.
unfoldable pub size_of : ℕ → ℕ
size_of type =
    cond (eqb type CONFIGURATION-TYPE) 9 (cond (eqb type INTERFACE-TYPE) 9 (cond (eqb type ENDPOINT-TYPE) 7 2))

-- A descriptor that has the bytes that its length says, and its type's size at least.
unfoldable pub whole : List ℕ → Bool
whole d = leb (size_of (byte_at TYPE d)) (byte_at LENGTH d) && eqb (length d) (byte_at LENGTH d)

unfoldable pub all_whole : List (List ℕ) → Bool
all_whole [] = true
all_whole (d ∷ ds) = whole d && all_whole ds

-- Other descriptors are malformed.
unfoldable pub well_formed : List (List ℕ) → Bool
well_formed ds = all_whole ds && all_borne_out ds

-- A word for a configuration, an interface and an endpoint, none for a descriptor of another type.
unfoldable pub words_of : List ℕ → List ℕ
words_of d =
    cond (is_configuration d) (configuration_word (byte_at CONFIGURATION-VALUE d) ∷ [])
    (cond (is_interface d) (alternate_word (byte_at INTERFACE-NUMBER d) (byte_at ALTERNATE-SETTING d) ∷ [])
    (cond (is_endpoint d)
    (endpoint_word (byte_at ENDPOINT-ADDRESS d) (byte_at ENDPOINT-ATTRIBUTES d) (two_bytes_at MAX-PACKET-SIZE d) (byte_at INTERVAL d) ∷ [])
    []))

unfoldable pub all_words : List (List ℕ) → List ℕ
all_words [] = []
all_words (d ∷ ds) = words_of d ++ all_words ds

-- The words that bytes are read as.
unfoldable pub read_words : List ℕ → List ℕ
read_words bytes = all_words (descriptors bytes)

-- What the reader answers and leaves in the words that it is lent: 3, 20, 4 in this order.
unfoldable pub read_descriptors : List ℕ → List ℕ → Left
read_descriptors bytes buffer =
    unless (leb 256 (length buffer)) TooShort buffer
    (unless (well_formed (descriptors bytes)) Malformed buffer
    (unless (valid_list (read_words bytes)) DescriptorList buffer
    (accepts (read_words bytes) buffer)))

-- A descriptor of a type, with every other byte 0.
abbrev pub blank_descriptor : ℕ → List ℕ
blank_descriptor type = set (set (replicate (size_of type) 0) LENGTH (size_of type)) TYPE type

unfoldable pub configuration_descriptor : ℕ → ℕ → ℕ → List ℕ
configuration_descriptor total interfaces value =
    with_byte CONFIGURATION-ATTRIBUTES RESERVED-ONE
    (with_byte CONFIGURATION-VALUE value
    (with_byte NUM-INTERFACES interfaces
    (with_two_bytes TOTAL-LENGTH total (blank_descriptor CONFIGURATION-TYPE))))

unfoldable pub interface_descriptor : ℕ → ℕ → ℕ → List ℕ
interface_descriptor interface alternate endpoints =
    with_byte NUM-ENDPOINTS endpoints
    (with_byte ALTERNATE-SETTING alternate (with_byte INTERFACE-NUMBER interface (blank_descriptor INTERFACE-TYPE)))

unfoldable pub endpoint_bytes : ℕ → ℕ → ℕ → ℕ → List ℕ
endpoint_bytes address type packet interval =
    with_byte INTERVAL interval
    (with_two_bytes MAX-PACKET-SIZE packet
    (with_byte ENDPOINT-ATTRIBUTES type (with_byte ENDPOINT-ADDRESS address (blank_descriptor ENDPOINT-TYPE))))

-- The descriptor of a word, before the descriptors of the words after it.
unfoldable pub descriptor_of : ℕ → List (List ℕ) → List ℕ
descriptor_of w after =
    cond (eqb (kind w) CONFIGURATION)
    (configuration_descriptor (size_of CONFIGURATION-TYPE + bytes_after after) (interfaces_after after) (configuration_value w))
    (cond (eqb (kind w) ALTERNATE)
    (interface_descriptor (interface_number w) (alternate_setting w) (endpoints_after after))
    (endpoint_bytes (endpoint_descriptor w).address (type_number w) (word_packets w) (endpoint_descriptor w).interval))

unfoldable pub all_descriptors : List ℕ → List (List ℕ)
all_descriptors [] = []
all_descriptors (w ∷ l) = descriptor_of w (all_descriptors l) ∷ all_descriptors l

-- The bytes that a list is written as.
unfoldable pub written_bytes : List ℕ → List ℕ
written_bytes list = joined (all_descriptors list)

-- What the writer answers and leaves in the bytes that it is lent: 3, 4, 20 in this order.
unfoldable pub write_descriptors : List ℕ → List ℕ → Left
write_descriptors list buffer =
    unless (leb 2304 (length buffer)) TooShort buffer
    (unless (valid_list list) DescriptorList buffer
    (unless (packets_given list) Malformed buffer
    (accepts (written_bytes list) buffer)))
