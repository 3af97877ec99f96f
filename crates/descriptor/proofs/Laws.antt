-- What callers use of descriptor words and of what they say to the controller.
use Prim.Native.Nat.{ℕ, zero, suc, ◌+◌, ◌-◌, ◌*◌, ◌/◌, ◌%◌, ◌^◌, ◌≤◌, ◌<◌, min, max}
use mathlib.Core.Path.{◌≡◌, refl, sym, ◌∙◌}
use mathlib.Core.Logic.{◌≢◌, ◌⊎◌, inl, inr}
use mathlib.Core.Bool.{Bool, true, false, not, cond, ◌&&◌}
use native.Mathlib.Decide.{dec_lt}
use native.Mathlib.Nat.{mul-le-mul}
use native.Mathlib.Omega.{arith}
use borrow.Author.Tests.{le-leb, lt-leb, eqb-true, eqb-false, not-true}
use lib.Count.{count_leading_zeros}
use lib.Dec.{eqb, leb}
use Rattle.laws.proofs.Computed.{all, all_below}
use Rattle.laws.proofs.Tests.{and_left, and_right}
use Rattle.def.specs.Speed.{FULL, HIGH, SUPER-PLUS}
use Rattle.descriptor.specs.Endpoint.{dci_of, endpoint_type, halvings, held_exponent, periodic_interval, isochronous_interval, xhci_interval, is_periodic, periodic_burst, esit_payload}
use Rattle.descriptor.specs.Word.{ENDPOINT, kind, direction_in, endpoint_number, type_number, transfer_type, companion_burst, companion_mult, companion_bytes, endpoint_descriptor, endpoint_ok, word_ok}
use Rattle.descriptor.specs.declared.TransferType.{TransferType}
use Rattle.descriptor.specs.declared.TransferType.TheVariants.{Control, Isochronous, Bulk, Interrupt}

-- Ranges of the fields of any word, read as an endpoint's.
pub record FieldsFit (w : ℕ) : Type 0 where
  pub direction : direction_in w < 2
  pub number : endpoint_number w < 16
  pub type : type_number w < 4
  pub address : (endpoint_descriptor w).address < 256
  pub size : (endpoint_descriptor w).max_packet_size < 2 ^ 11
  pub packets : (endpoint_descriptor w).packets_per_microframe < 4
  pub interval : (endpoint_descriptor w).interval < 256
  pub burst : (endpoint_descriptor w).burst < 16
  pub mult : (endpoint_descriptor w).mult < 4
  pub bytes : (endpoint_descriptor w).bytes_per_interval < 65536

pub fields_fit : (w : ℕ) → FieldsFit w
unfolding direction_in endpoint_number type_number endpoint_descriptor companion_burst companion_mult companion_bytes
fields_fit w =
    record {
      direction = omega arith;
      number = omega arith;
      type = omega arith;
      address = omega arith;
      size = omega arith;
      packets = omega arith;
      interval = omega arith;
      burst = omega arith;
      mult = omega arith;
      bytes = omega arith;
    }

-- The highest bit of the address is IN.
pub address_in : (w : ℕ) → (endpoint_descriptor w).address / 128 ≡ direction_in w
unfolding endpoint_descriptor
address_in w = omega (arith, (fields_fit w).number)

-- The four lowest bits of the address are the number.
pub address_number : (w : ℕ) → (endpoint_descriptor w).address % 16 ≡ endpoint_number w
unfolding endpoint_descriptor
address_number w = omega (arith, (fields_fit w).number)

-- The Dci of a word's address.
pub dci_word : (w : ℕ) → dci_of (endpoint_descriptor w).address ≡ 2 * endpoint_number w + direction_in w
unfolding dci_of
dci_word w = rw (address_number w, address_in w)

-- Words with equal Dcis have equal addresses.
pub dci_injective :
    (w v : ℕ) →
    dci_of (endpoint_descriptor w).address ≡ dci_of (endpoint_descriptor v).address →
    (endpoint_descriptor w).address ≡ (endpoint_descriptor v).address
unfolding endpoint_descriptor
dci_injective w v e =
    omega (arith, sym (dci_word w) ∙ e ∙ dci_word v, (fields_fit w).direction, (fields_fit v).direction)

-- The Dci of any byte is one of a device context.
pub dci_small : (address : ℕ) → address < 256 → dci_of address < 32
unfolding dci_of
dci_small address h = omega arith

-- What a valid list refuses of an endpoint word: number 0 and type 0.
pub record EndpointWord (w : ℕ) : Type 0 where
  pub number : 1 ≤ endpoint_number w
  pub type : 1 ≤ type_number w

nonzero : (n : ℕ) → not (eqb n 0) ≡ true → 1 ≤ n
nonzero n h = let e : n ≢ 0 = eqb-false n 0 (not-true (eqb n 0) h) in omega arith

pub endpoint_word_lem : (w : ℕ) → kind w ≡ ENDPOINT → word_ok w ≡ true → EndpointWord w
unfolding word_ok endpoint_ok
endpoint_word_lem w k h =
    let number = not (eqb (endpoint_number w) 0) in
    let type = not (eqb (type_number w) 0) in
    let ok : (number && type) ≡ true = and_left (number && type) _ (rw k at h) in
    record { number = nonzero (endpoint_number w) (and_left number type ok); type = nonzero (type_number w) (and_right number type ok) }

-- The Dci of an endpoint word in a valid list is not control's.
pub dci_range :
    (w : ℕ) →
    kind w ≡ ENDPOINT →
    word_ok w ≡ true →
    (2 ≤ dci_of (endpoint_descriptor w).address) × (dci_of (endpoint_descriptor w).address ≤ 31)
dci_range w k h =
    let fit = fields_fit w in
    rw (dci_word w) (omega (arith, (endpoint_word_lem w k h).number), omega (arith, fit.direction, fit.number))

-- Each Dci from 2 to 31 is that of a word which may stand in a valid list, 31 being that of IN 15.
bulk_word : ℕ → ℕ
bulk_word d = 2 ^ 31 + d % 2 * 2 ^ 29 + d / 2 * 2 ^ 25 + 2 ^ 24

abbrev bulk_ok : ℕ → Bool
bulk_ok d =
    let w = bulk_word d in
    eqb (kind w) ENDPOINT && (word_ok w && eqb (dci_of (endpoint_descriptor w).address) d)

pub every_dci :
    (d : ℕ) → 2 ≤ d → d < 32 → (w : ℕ) × (kind w ≡ ENDPOINT) × (word_ok w ≡ true) × (dci_of (endpoint_descriptor w).address ≡ d)
unfolding kind word_ok endpoint_ok endpoint_number type_number direction_in endpoint_descriptor dci_of bulk_word
every_dci d two h =
    let w = bulk_word d in
    let back : d - 2 + 2 ≡ d = omega arith in
    let t = rw back at (all_below (λ k. bulk_ok (k + 2)) 30 refl (d - 2) (omega arith)) in
    let rest = and_right (eqb (kind w) ENDPOINT) _ t in
    (w, eqb-true _ _ (and_left _ _ t), and_left (word_ok w) _ rest, eqb-true _ _ (and_right (word_ok w) _ rest))

typed : (t : ℕ) → 1 ≤ t → t < 4 → transfer_type t ≡ Control → ◌≡◌ {A = ℕ} 0 1
unfolding transfer_type
typed zero l h e = absurd (omega arith)
typed (suc zero) l h e = cc
typed (suc (suc zero)) l h e = cc
typed (suc (suc (suc zero))) l h e = cc
typed (suc (suc (suc (suc t)))) l h e = absurd (omega arith)

-- No endpoint word in a valid list is of type Control.
pub not_control :
    (w : ℕ) → kind w ≡ ENDPOINT → word_ok w ≡ true → (endpoint_descriptor w).transfer_type ≢ Control
unfolding endpoint_descriptor
not_control w k h e =
    let z = typed (type_number w) (endpoint_word_lem w k h).type (fields_fit w).type e in omega arith

-- EP Type is a field of three bits.
pub endpoint_type_small : (t : TransferType) (address : ℕ) → address < 256 → endpoint_type t address < 8
unfolding endpoint_type
endpoint_type_small Control address h = omega arith
endpoint_type_small Isochronous address h = omega arith
endpoint_type_small Bulk address h = omega arith
endpoint_type_small Interrupt address h = omega arith

-- The interval at speeds 3 to 5.
pub interval_exponent :
    (byte speed : ℕ) → HIGH ≤ speed → speed ≤ SUPER-PLUS → periodic_interval byte speed ≡ min (max byte 1) 16 - 1
unfolding periodic_interval held_exponent
interval_exponent byte speed low high = rw (le-leb 3 speed low, le-leb speed 5 high)

halved : ℕ → Bool
halved b = eqb (3 + halvings 8 b) (10 - count_leading_zeros 8 (max b 1))

all_halved : all halved 256 ≡ true
unfolding halved halvings count_leading_zeros
all_halved = refl

-- The interval at the other speeds, by leading zeros of the byte held to at least one.
pub interval_zeros :
    (byte speed : ℕ) →
    byte < 256 →
    (speed < HIGH) ⊎ (SUPER-PLUS < speed) →
    periodic_interval byte speed ≡ 10 - count_leading_zeros 8 (max byte 1)
unfolding periodic_interval halved
interval_zeros byte speed h s =
    rw (other s) (eqb-true (3 + halvings 8 byte) _ (all_below halved 256 all_halved byte h))
  where
    other : (speed < HIGH) ⊎ (SUPER-PLUS < speed) → (leb HIGH speed && leb speed SUPER-PLUS) ≡ false
    other (inl l) = rw (lt-leb 3 speed l)
    other (inr l) = rw (le-leb 3 speed (omega arith), lt-leb speed 5 l)

periodic_small : (byte speed : ℕ) → byte < 256 → periodic_interval byte speed < 256
periodic_small byte speed h = go (dec_lt speed 3) (dec_lt 5 speed)
  where
    zeros : (speed < HIGH) ⊎ (SUPER-PLUS < speed) → periodic_interval byte speed < 256
    zeros s = rw (interval_zeros byte speed h s) (omega arith)

    go : Dec (speed < 3) → Dec (5 < speed) → periodic_interval byte speed < 256
    go (yes l) d = zeros (inl l)
    go (no l) (yes g) = zeros (inr g)
    go (no l) (no g) = rw (interval_exponent byte speed (omega arith) (omega arith)) (omega arith)

isochronous_small : (byte speed : ℕ) → byte < 256 → isochronous_interval byte speed < 256
unfolding isochronous_interval held_exponent
isochronous_small byte speed h = go (eqb speed FULL)
  where
    go : (full : Bool) → cond full (min (max byte 1) 16 + 2) (periodic_interval byte speed) < 256
    go true = omega arith
    go false = periodic_small byte speed h

-- Interval is a field of eight bits.
pub interval_small : (byte : ℕ) (t : TransferType) (speed : ℕ) → byte < 256 → xhci_interval byte t speed < 256
unfolding xhci_interval
interval_small byte Control speed h = h
interval_small byte Isochronous speed h = isochronous_small byte speed h
interval_small byte Bulk speed h = h
interval_small byte Interrupt speed h = periodic_small byte speed h

-- The burst of an endpoint word is at most 2.
pub burst_small : (t : TransferType) (packets speed : ℕ) → packets < 4 → periodic_burst t packets speed ≤ 2
unfolding periodic_burst
burst_small t packets speed h = go (is_periodic t && eqb speed HIGH)
  where
    go : (b : Bool) → cond b (packets - 1) 0 ≤ 2
    go true = omega arith
    go false = omega arith

-- A size times a count of packets is a u32.
pub product_fits : (size packets : ℕ) → size < 65536 → packets ≤ 256 → size * packets < 2 ^ 32
product_fits size packets s p =
    let size' : size ≤ 65535 = omega arith in omega (arith, mul-le-mul size' p)

-- Max ESIT Payload Lo and Average TRB Length are fields of sixteen bits.
pub payload_small : (size burst : ℕ) → esit_payload size burst < 65536
unfolding esit_payload
payload_small size burst = omega arith
