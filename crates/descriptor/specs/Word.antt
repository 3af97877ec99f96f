-- 01's descriptor word, 32 bits, fields from the most significant bit: kind 2, then by kind
--   0, configuration: value 8; 1, alternate: interface 8, alternate 8;
--   2, endpoint: IN 1, number 4, type 2, packet size 11, packets per microframe 2, interval 8.
-- At speeds 4 and 5 each endpoint word has its companion directly behind it (02, request 11):
--   3, companion: burst 4, mult 2, bytes per interval 16.
use Rattle.std.specs.Prelude.{ℕ, ◌+◌, ◌*◌, ◌/◌, ◌^◌, Bool, false, not, cond, ◌&&◌, Option, Some, None, eqb}
use Rattle.def.specs.Packed.{packed, rest_below}
use Rattle.descriptor.specs.declared.EndpointDescriptor.{EndpointDescriptor}
use Rattle.descriptor.specs.declared.TransferType.{TransferType}
use Rattle.descriptor.specs.declared.WordKind.{WordKind}
use Rattle.descriptor.specs.declared.WordKind.TheVariants.{Configuration, Alternate, Endpoint}
use Rattle.descriptor.specs.declared.TransferType.TheVariants.{Control, Isochronous, Bulk, Interrupt}

abbrev pub CONFIGURATION : ℕ
CONFIGURATION = 0

abbrev pub ALTERNATE : ℕ
ALTERNATE = 1

abbrev pub ENDPOINT : ℕ
ENDPOINT = 2

abbrev pub COMPANION : ℕ
COMPANION = 3

unfoldable pub kind : ℕ → ℕ
kind w = packed 32 0 2 w

unfoldable pub is_companion : ℕ → Bool
is_companion w = eqb (kind w) COMPANION

-- The kind by its name; a companion is no word by itself.
unfoldable pub word_kind : ℕ → Option WordKind
word_kind w =
    cond (eqb (kind w) CONFIGURATION) (Some Configuration)
    (cond (eqb (kind w) ALTERNATE) (Some Alternate)
    (cond (eqb (kind w) ENDPOINT) (Some Endpoint) None))

unfoldable pub configuration_value : ℕ → ℕ
configuration_value w = packed 32 2 8 w

unfoldable pub interface_number : ℕ → ℕ
interface_number w = packed 32 2 8 w

unfoldable pub alternate_setting : ℕ → ℕ
alternate_setting w = packed 32 10 8 w

-- 1 for an IN endpoint, 0 for an OUT endpoint.
unfoldable pub direction_in : ℕ → ℕ
direction_in w = packed 32 2 1 w

unfoldable pub endpoint_number : ℕ → ℕ
endpoint_number w = packed 32 3 4 w

unfoldable pub type_number : ℕ → ℕ
type_number w = packed 32 7 2 w

unfoldable pub transfer_type : ℕ → TransferType
transfer_type t = cond (eqb t 1) Isochronous (cond (eqb t 2) Bulk (cond (eqb t 3) Interrupt Control))

-- The fields of a companion.
unfoldable pub companion_burst : ℕ → ℕ
companion_burst c = packed 32 2 4 c

unfoldable pub companion_mult : ℕ → ℕ
companion_mult c = packed 32 6 2 c

unfoldable pub companion_bytes : ℕ → ℕ
companion_bytes c = packed 32 8 16 c

-- An endpoint word and its companion as one number: the companion above the word's 32 bits, 0 for none. All else is read from the bits below.
unfoldable pub with_companion : ℕ → ℕ → ℕ
with_companion w c = w + 2 ^ 32 * c

unfoldable pub companion_of : ℕ → ℕ
companion_of w = w / 2 ^ 32

-- An endpoint word taken apart, its companion too.
unfoldable pub endpoint_descriptor : ℕ → EndpointDescriptor
endpoint_descriptor w =
    record {
      address = direction_in w * 128 + endpoint_number w;
      transfer_type = transfer_type (type_number w);
      max_packet_size = packed 32 9 11 w;
      packets_per_microframe = packed 32 20 2 w;
      interval = packed 32 22 8 w;
      burst = companion_burst (companion_of w);
      mult = companion_mult (companion_of w);
      bytes_per_interval = companion_bytes (companion_of w);
    }

-- Number 0 and type 0 are refused.
unfoldable pub endpoint_ok : ℕ → Bool
endpoint_ok w = not (eqb (endpoint_number w) 0) && not (eqb (type_number w) 0)

-- No unused bit is set in a companion.
unfoldable pub companion_ok : ℕ → Bool
companion_ok c = eqb (rest_below 32 24 c) 0

-- A word that may stand in a valid list, companions apart: no kind 3, no unused bit set.
unfoldable pub word_ok : ℕ → Bool
word_ok w =
    cond (eqb (kind w) CONFIGURATION) (eqb (rest_below 32 10 w) 0)
    (cond (eqb (kind w) ALTERNATE) (eqb (rest_below 32 18 w) 0)
    (cond (eqb (kind w) ENDPOINT) (endpoint_ok w && eqb (rest_below 32 30 w) 0) false))
