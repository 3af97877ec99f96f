-- What an endpoint's descriptor says to the controller: its Dci, its type, its interval, its burst and its payload.
use Rattle.std.specs.Prelude.{ℕ, zero, suc, ◌+◌, ◌-◌, ◌*◌, ◌/◌, ◌%◌, min, max, Bool, true, false, cond, ◌&&◌, eqb, leb}
use Rattle.def.specs.Speed.{FULL, HIGH, SUPER-PLUS}
use Rattle.descriptor.specs.declared.TransferType.{TransferType}
use Rattle.descriptor.specs.declared.TransferType.TheVariants.{Control, Isochronous, Bulk, Interrupt}

-- Of an endpoint address: 2 × number + IN.
unfoldable pub dci_of : ℕ → ℕ
dci_of address = 2 * (address % 16) + address / 128

-- EP Type of xHCI 1.2, table 6-9.
unfoldable pub endpoint_type : TransferType → ℕ → ℕ
endpoint_type Control address = 4
endpoint_type Isochronous address = 1 + 4 * (address / 128)
endpoint_type Bulk address = 2 + 4 * (address / 128)
endpoint_type Interrupt address = 3 + 4 * (address / 128)

-- How often a number can be halved before it is 1 or 0; `k` bounds the count.
unfoldable pub halvings : ℕ → ℕ → ℕ
halvings zero b = 0
halvings (suc k) b = cond (leb b 1) 0 (suc (halvings k (b / 2)))

-- A byte that is an exponent, held to 1 through 16.
unfoldable pub held_exponent : ℕ → ℕ
held_exponent byte = min (max byte 1) 16

-- At speeds 3 to 5 the byte is an exponent, less one; otherwise it is milliseconds, in eighths as a power of two.
unfoldable pub periodic_interval : ℕ → ℕ → ℕ
periodic_interval byte speed =
    cond (leb HIGH speed && leb speed SUPER-PLUS) (held_exponent byte - 1) (3 + halvings 8 byte)

-- Of an isochronous endpoint it is an exponent at Full speed too, there of milliseconds: xHCI 1.2, section 6.2.3.6.
unfoldable pub isochronous_interval : ℕ → ℕ → ℕ
isochronous_interval byte speed = cond (eqb speed FULL) (held_exponent byte + 2) (periodic_interval byte speed)

-- `calculate_xhci_interval`: the byte itself where the endpoint is not periodic.
unfoldable pub xhci_interval : ℕ → TransferType → ℕ → ℕ
xhci_interval byte Control speed = byte
xhci_interval byte Isochronous speed = isochronous_interval byte speed
xhci_interval byte Bulk speed = byte
xhci_interval byte Interrupt speed = periodic_interval byte speed

unfoldable pub is_periodic : TransferType → Bool
is_periodic Control = false
is_periodic Isochronous = true
is_periodic Bulk = false
is_periodic Interrupt = true

-- Packets per microframe less one (0 stays 0) of a periodic endpoint at High speed, otherwise 0.
unfoldable pub periodic_burst : TransferType → ℕ → ℕ → ℕ
periodic_burst t packets speed = cond (is_periodic t && eqb speed HIGH) (packets - 1) 0

-- Bytes in a service interval, as far as the field holds them.
unfoldable pub esit_payload : ℕ → ℕ → ℕ
esit_payload size burst = min (size * (burst + 1)) 65535
