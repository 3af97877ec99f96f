-- The descriptors of USB 2.0, section 9.6, and the companion of USB 3.2, section 9.6.7. A descriptor is the list of its bytes; a field of two bytes has the low one first.
use Rattle.std.specs.Prelude.{ℕ, ◌+◌, ◌*◌, ◌/◌, ◌%◌, Bool, cond, ◌&&◌, List, eqb, get_or}
use Rattle.descriptor_raw.specs.declared.DescriptorKind.{DescriptorKind}
use Rattle.descriptor_raw.specs.declared.DescriptorKind.TheVariants.{Configuration, Interface, Endpoint, Companion, Other}

-- Descriptor types (table 9-5).
abbrev pub CONFIGURATION-TYPE : ℕ
CONFIGURATION-TYPE = 2

abbrev pub INTERFACE-TYPE : ℕ
INTERFACE-TYPE = 4

abbrev pub ENDPOINT-TYPE : ℕ
ENDPOINT-TYPE = 5

-- (At speeds 1 to 3 a companion is one of the other types.)
abbrev pub COMPANION-TYPE : ℕ
COMPANION-TYPE = 48

-- Where the fields stand: of every descriptor,
abbrev pub LENGTH : ℕ
LENGTH = 0

abbrev pub TYPE : ℕ
TYPE = 1

-- of a configuration (table 9-10),
abbrev pub TOTAL-LENGTH : ℕ
TOTAL-LENGTH = 2

abbrev pub NUM-INTERFACES : ℕ
NUM-INTERFACES = 4

abbrev pub CONFIGURATION-VALUE : ℕ
CONFIGURATION-VALUE = 5

abbrev pub CONFIGURATION-ATTRIBUTES : ℕ
CONFIGURATION-ATTRIBUTES = 7

-- of an interface (table 9-12),
abbrev pub INTERFACE-NUMBER : ℕ
INTERFACE-NUMBER = 2

abbrev pub ALTERNATE-SETTING : ℕ
ALTERNATE-SETTING = 3

abbrev pub NUM-ENDPOINTS : ℕ
NUM-ENDPOINTS = 4

-- of a companion (USB 3.2, section 9.6.7),
abbrev pub MAX-BURST : ℕ
MAX-BURST = 2

abbrev pub COMPANION-ATTRIBUTES : ℕ
COMPANION-ATTRIBUTES = 3

abbrev pub BYTES-PER-INTERVAL : ℕ
BYTES-PER-INTERVAL = 4

-- of an endpoint (table 9-13).
abbrev pub ENDPOINT-ADDRESS : ℕ
ENDPOINT-ADDRESS = 2

abbrev pub ENDPOINT-ATTRIBUTES : ℕ
ENDPOINT-ATTRIBUTES = 3

abbrev pub MAX-PACKET-SIZE : ℕ
MAX-PACKET-SIZE = 4

abbrev pub INTERVAL : ℕ
INTERVAL = 6

-- Of the packet size field bits 10 to 0 are the size, and bits 12 and 11 the packets per microframe less one.
abbrev pub packet_size : ℕ → ℕ
packet_size field = field % 2048

abbrev pub packets_less_one : ℕ → ℕ
packets_less_one field = field / 2048 % 4

abbrev pub packet_field : ℕ → ℕ → ℕ
packet_field size less_one = size + 2048 * less_one

-- The size of a descriptor by its type, and whether the device is of speed 4 or 5; one of another type has at least a length and a type.
unfoldable pub size_of : Bool → ℕ → ℕ
size_of super type =
    cond (eqb type CONFIGURATION-TYPE) 9
    (cond (eqb type INTERFACE-TYPE) 9
    (cond (eqb type ENDPOINT-TYPE) 7
    (cond (super && eqb type COMPANION-TYPE) 6 2)))

-- The kind of a descriptor by its type.
unfoldable pub kind_of : ℕ → DescriptorKind
kind_of type =
    cond (eqb type CONFIGURATION-TYPE) Configuration
    (cond (eqb type INTERFACE-TYPE) Interface
    (cond (eqb type ENDPOINT-TYPE) Endpoint (cond (eqb type COMPANION-TYPE) Companion Other)))

abbrev pub byte_at : ℕ → List ℕ → ℕ
byte_at place d = get_or d place 0

abbrev pub two_bytes_at : ℕ → List ℕ → ℕ
two_bytes_at place d = byte_at place d + 256 * byte_at (place + 1) d

abbrev pub is_configuration : List ℕ → Bool
is_configuration d = eqb (byte_at TYPE d) CONFIGURATION-TYPE

abbrev pub is_interface : List ℕ → Bool
is_interface d = eqb (byte_at TYPE d) INTERFACE-TYPE

abbrev pub is_endpoint : List ℕ → Bool
is_endpoint d = eqb (byte_at TYPE d) ENDPOINT-TYPE

abbrev pub is_companion : List ℕ → Bool
is_companion d = eqb (byte_at TYPE d) COMPANION-TYPE
