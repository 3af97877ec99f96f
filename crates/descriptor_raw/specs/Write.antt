-- The writer: descriptor words to bytes.
use Rattle.std.specs.Prelude.{ℕ, ◌+◌, ◌-◌, ◌/◌, ◌%◌, Bool, true, not, cond, ◌&&◌, List, [], ◌∷◌, ◌++◌, eqb, leb, length, set, replicate}
use Rattle.def.specs.Speed.{speed_known}
use Rattle.descriptor.specs.Word.{CONFIGURATION, ALTERNATE, ENDPOINT, COMPANION, kind, configuration_value, interface_number, alternate_setting, type_number, companion_burst, companion_mult, companion_bytes, endpoint_descriptor}
use Rattle.descriptor_list.specs.Companions.{list_ok, companions_fit}
use Rattle.function_answer.specs.declared.Refusal.TheVariants.{TooShort, Speed, DescriptorList, Companion, Malformed}
use Rattle.function_answer.specs.Answer.{Left, accepts, unless}
use Rattle.descriptor_raw.specs.Descriptor.{CONFIGURATION-TYPE, INTERFACE-TYPE, ENDPOINT-TYPE, COMPANION-TYPE, LENGTH, TYPE, TOTAL-LENGTH, NUM-INTERFACES, CONFIGURATION-VALUE, CONFIGURATION-ATTRIBUTES, INTERFACE-NUMBER, ALTERNATE-SETTING, NUM-ENDPOINTS, ENDPOINT-ADDRESS, ENDPOINT-ATTRIBUTES, MAX-PACKET-SIZE, INTERVAL, MAX-BURST, COMPANION-ATTRIBUTES, BYTES-PER-INTERVAL, packet_field, size_of}
use Rattle.descriptor_raw.specs.Claims.{bytes_after, interfaces_after, endpoints_after}

-- A descriptor of a type, with every other byte 0.
abbrev pub blank_descriptor : ℕ → List ℕ
blank_descriptor type = set (set (replicate (size_of true type) 0) LENGTH (size_of true type)) TYPE type

abbrev pub with_byte : ℕ → ℕ → List ℕ → List ℕ
with_byte place value d = set d place value

abbrev pub with_two_bytes : ℕ → ℕ → List ℕ → List ℕ
with_two_bytes place value d = set (set d place (value % 256)) (place + 1) (value / 256)

-- The attributes of a configuration: bit 7 is always set (table 9-10).
abbrev pub RESERVED-ONE : ℕ
RESERVED-ONE = 0x80

unfoldable pub configuration_descriptor : ℕ → ℕ → ℕ → List ℕ
configuration_descriptor total interfaces value =
    with_byte CONFIGURATION-ATTRIBUTES RESERVED-ONE
    (with_byte CONFIGURATION-VALUE value
    (with_byte NUM-INTERFACES interfaces
    (with_two_bytes TOTAL-LENGTH total (blank_descriptor CONFIGURATION-TYPE))))

unfoldable pub interface_descriptor : ℕ → ℕ → ℕ → List ℕ
interface_descriptor interface alternate endpoints =
    with_byte NUM-ENDPOINTS endpoints
    (with_byte ALTERNATE-SETTING alternate (with_byte INTERFACE-NUMBER interface (blank_descriptor INTERFACE-TYPE)))

unfoldable pub endpoint_bytes : ℕ → ℕ → ℕ → ℕ → List ℕ
endpoint_bytes address type packet interval =
    with_byte INTERVAL interval
    (with_two_bytes MAX-PACKET-SIZE packet
    (with_byte ENDPOINT-ATTRIBUTES type (with_byte ENDPOINT-ADDRESS address (blank_descriptor ENDPOINT-TYPE))))

unfoldable pub companion_descriptor : ℕ → ℕ → ℕ → List ℕ
companion_descriptor burst mult bytes =
    with_two_bytes BYTES-PER-INTERVAL bytes
    (with_byte COMPANION-ATTRIBUTES mult (with_byte MAX-BURST burst (blank_descriptor COMPANION-TYPE)))

-- The packet size field of a word.
unfoldable pub word_packets : ℕ → ℕ
word_packets w =
    packet_field (endpoint_descriptor w).max_packet_size ((endpoint_descriptor w).packets_per_microframe - 1)

-- The descriptor of a word, before the descriptors of the words after it.
unfoldable pub descriptor_of : ℕ → List (List ℕ) → List ℕ
descriptor_of w after =
    cond (eqb (kind w) CONFIGURATION)
    (configuration_descriptor (size_of true CONFIGURATION-TYPE + bytes_after after) (interfaces_after after) (configuration_value w))
    (cond (eqb (kind w) ALTERNATE)
    (interface_descriptor (interface_number w) (alternate_setting w) (endpoints_after after))
    (cond (eqb (kind w) COMPANION) (companion_descriptor (companion_burst w) (companion_mult w) (companion_bytes w))
    (endpoint_bytes (endpoint_descriptor w).address (type_number w) (word_packets w) (endpoint_descriptor w).interval)))

unfoldable pub all_descriptors : List ℕ → List (List ℕ)
all_descriptors [] = []
all_descriptors (w ∷ l) = descriptor_of w (all_descriptors l) ∷ all_descriptors l

unfoldable pub joined : List (List ℕ) → List ℕ
joined [] = []
joined (d ∷ ds) = d ++ joined ds

-- The bytes that a list is written as.
unfoldable pub written_bytes : List ℕ → List ℕ
written_bytes list = joined (all_descriptors list)

-- No endpoint word has packets 0.
unfoldable pub packets_given : List ℕ → Bool
packets_given [] = true
packets_given (w ∷ l) =
    not (eqb (kind w) ENDPOINT && eqb (endpoint_descriptor w).packets_per_microframe 0) && packets_given l

-- What the writer answers and leaves in the bytes that it is lent: 3, 6, 4, 26, 20 in this order.
unfoldable pub write_descriptors : ℕ → List ℕ → List ℕ → Left
write_descriptors speed list buffer =
    unless (leb 2304 (length buffer)) TooShort buffer
    (unless (speed_known speed) Speed buffer
    (unless (list_ok speed list) DescriptorList buffer
    (unless (companions_fit speed list) Companion buffer
    (unless (packets_given list) Malformed buffer
    (accepts (written_bytes list) buffer)))))
