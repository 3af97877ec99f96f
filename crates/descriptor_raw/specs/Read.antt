-- The reader: bytes to descriptor words.
use Rattle.std.specs.Prelude.{ℕ, zero, suc, ◌+◌, ◌-◌, Bool, true, not, cond, ◌&&◌, ◌||◌, List, [], ◌∷◌, ◌++◌, eqb, leb, length, take}
use Rattle.def.specs.Speed.{speed_known, is_super}
use Rattle.descriptor.specs.Word.{ENDPOINT, COMPANION, kind, type_number, companion_mult}
use Rattle.descriptor_list.specs.Companions.{list_ok, companions_fit}
use Rattle.function_answer.specs.declared.Refusal.TheVariants.{TooShort, Speed, DescriptorList, Companion, Malformed}
use Rattle.function_answer.specs.Answer.{Left, accepts, unless}
use Rattle.descriptor_raw.specs.Descriptor.{LENGTH, TYPE, TOTAL-LENGTH, NUM-INTERFACES, CONFIGURATION-VALUE, INTERFACE-NUMBER, ALTERNATE-SETTING, NUM-ENDPOINTS, ENDPOINT-ADDRESS, ENDPOINT-ATTRIBUTES, MAX-PACKET-SIZE, INTERVAL, MAX-BURST, COMPANION-ATTRIBUTES, BYTES-PER-INTERVAL, packets_less_one, size_of, byte_at, two_bytes_at, is_configuration, is_interface, is_endpoint, is_companion}
use Rattle.descriptor_raw.specs.Claims.{bytes_after, interfaces_after, endpoints_after}
use Rattle.descriptor_raw.specs.Words.{placed, configuration_word, alternate_word, endpoint_word, companion_word}

-- Bytes cut into descriptors by their length bytes, each from the end of the one before, of which `left` bytes are still to come. One
-- whose length goes past the end has the bytes that there are.
unfoldable pub cut : ℕ → List ℕ → List (List ℕ)
cut left [] = []
cut zero (b ∷ l) = take b (b ∷ l) ∷ cut (b - 1) l
cut (suc left) (b ∷ l) = cut left l

unfoldable pub descriptors : List ℕ → List (List ℕ)
descriptors bytes = cut 0 bytes

-- A descriptor that has the bytes that its length says, and its type's size at least.
unfoldable pub whole : Bool → List ℕ → Bool
whole super d = leb (size_of super (byte_at TYPE d)) (byte_at LENGTH d) && eqb (length d) (byte_at LENGTH d)

-- What it says of those after it is so, and bits 12 and 11 of an endpoint's packet size field are not 3.
unfoldable pub borne_out : List ℕ → List (List ℕ) → Bool
borne_out d after =
    cond (is_configuration d)
    (eqb (two_bytes_at TOTAL-LENGTH d) (length d + bytes_after after) && eqb (byte_at NUM-INTERFACES d) (interfaces_after after))
    (cond (is_interface d) (eqb (byte_at NUM-ENDPOINTS d) (endpoints_after after))
    (cond (is_endpoint d) (not (eqb (packets_less_one (two_bytes_at MAX-PACKET-SIZE d)) 3)) true))

unfoldable pub all_whole : Bool → List (List ℕ) → Bool
all_whole super [] = true
all_whole super (d ∷ ds) = whole super d && all_whole super ds

unfoldable pub all_borne_out : List (List ℕ) → Bool
all_borne_out [] = true
all_borne_out (d ∷ ds) = borne_out d ds && all_borne_out ds

-- Other descriptors are malformed.
unfoldable pub well_formed : Bool → List (List ℕ) → Bool
well_formed super ds = all_whole super ds && all_borne_out ds

-- A word for a configuration, an interface and an endpoint, at speeds 4 and 5 for a companion, none for a descriptor of another type.
unfoldable pub words_of : Bool → List ℕ → List ℕ
words_of super d =
    cond (is_configuration d) (configuration_word (byte_at CONFIGURATION-VALUE d) ∷ [])
    (cond (is_interface d) (alternate_word (byte_at INTERFACE-NUMBER d) (byte_at ALTERNATE-SETTING d) ∷ [])
    (cond (is_endpoint d)
    (endpoint_word (byte_at ENDPOINT-ADDRESS d) (byte_at ENDPOINT-ATTRIBUTES d) (two_bytes_at MAX-PACKET-SIZE d) (byte_at INTERVAL d) ∷ [])
    (cond (super && is_companion d)
    (companion_word (byte_at MAX-BURST d) (byte_at COMPANION-ATTRIBUTES d) (two_bytes_at BYTES-PER-INTERVAL d) ∷ [])
    [])))

unfoldable pub all_words : Bool → List (List ℕ) → List ℕ
all_words super [] = []
all_words super (d ∷ ds) = words_of super d ++ all_words super ds

-- An isochronous endpoint's word.
unfoldable pub is_isochronous : ℕ → Bool
is_isochronous w = eqb (kind w) ENDPOINT && eqb (type_number w) 1

-- Mult is an isochronous endpoint's: behind any other word a companion has none.
unfoldable pub settled_word : Bool → ℕ → ℕ → ℕ
settled_word super p w =
    cond (super && (eqb (kind w) COMPANION && not (is_isochronous p))) (w - placed 6 2 (companion_mult w)) w

unfoldable pub settled_after : Bool → ℕ → List ℕ → List ℕ
settled_after super p [] = []
settled_after super p (w ∷ l) = settled_word super p w ∷ settled_after super w l

-- The words that bytes are read as, the first as if behind 0, a configuration's word.
unfoldable pub read_words : Bool → List ℕ → List ℕ
read_words super bytes = settled_after super 0 (all_words super (descriptors bytes))

-- No companion's burst is above 15.
unfoldable pub burst_fits : Bool → List ℕ → Bool
burst_fits super d = not (super && is_companion d) || leb (byte_at MAX-BURST d) 15

unfoldable pub bursts_fit : Bool → List (List ℕ) → Bool
bursts_fit super [] = true
bursts_fit super (d ∷ ds) = burst_fits super d && bursts_fit super ds

-- What the reader answers and leaves in the words that it is lent: 3, 6, 20, 4, 26 in this order.
unfoldable pub read_descriptors : ℕ → List ℕ → List ℕ → Left
read_descriptors speed bytes buffer =
    let words = read_words (is_super speed) bytes in
    unless (leb 256 (length buffer)) TooShort buffer
    (unless (speed_known speed) Speed buffer
    (unless (well_formed (is_super speed) (descriptors bytes)) Malformed buffer
    (unless (list_ok speed words) DescriptorList buffer
    (unless (bursts_fit (is_super speed) (descriptors bytes) && companions_fit speed words) Companion buffer
    (accepts words buffer)))))
