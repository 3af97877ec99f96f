-- Values that promises of contexts take from the function that also writes them, spelled once more: the first packet sizes, the fields of an
-- added endpoint that its interval and burst go into, the transaction translator and the route string. proofs/Values.antt proves each.
use Rattle.std.specs.Prelude.{ℕ, zero, suc, ◌+◌, ◌-◌, ◌*◌, ◌%◌, ◌/◌, ◌^◌, ◌<◌, ◌≤◌, min, max, ◌≡◌, ◌⊎◌, false, List, ◌∷◌, ◌++◌, eqb, length, get_or, Some, None}
use Rattle.hub.specs.Route.{route_string}
use Rattle.hub.specs.Translator.{translator_of}
use Rattle.hub.specs.declared.translator.Translator.{Translator}
use Rattle.transfer.specs.Routes.{Queue}
use Rattle.context_field.specs.declared.Field.{Field}
use Rattle.context_block.specs.Fields.{INTERVAL, EP-TYPE, MAX-PACKET-SIZE, MAX-BURST-SIZE}
use Rattle.context.specs.Place.{read_at}
use Rattle.context.specs.Promises.{AddressReads, ConfigureReads}
use Rattle.theorem_checks.specs.Descriptors.{bits, dci_of_word, IsSuper}
use Rattle.theorem_checks.specs.Hubs.{Chain}

-- The control endpoint's packet size that Address is given: 64, 8, 64, 512 and 512, by speed.
pub record FirstSize (speed size : ℕ) : Type 0 where
  pub full : speed ≡ 1 → size ≡ 64
  pub low : speed ≡ 2 → size ≡ 8
  pub high : speed ≡ 3 → size ≡ 64
  pub super : speed ≡ 4 → size ≡ 512
  pub super_plus : speed ≡ 5 → size ≡ 512

abbrev pub FirstSizes : Type 0
FirstSizes =
    (s speed route : ℕ) (translator : Translator) (root_port ring : ℕ) (ctx : List ℕ) →
    AddressReads s speed route translator root_port ring ctx → FirstSize speed (read_at s ctx 2 MAX-PACKET-SIZE)

-- Bits 24 and 23 of an endpoint word are its type: 1 isochronous, 2 bulk, 3 interrupt.
abbrev pub type_of : ℕ → ℕ
type_of w = bits 23 2 w

abbrev pub Periodic : ℕ → Type 0
Periodic w = (type_of w ≡ 1) ⊎ (type_of w ≡ 3)

-- Its interval byte is in milliseconds: an interrupt endpoint's at speeds 1 and 2, an isochronous one's at 2.
abbrev pub InMilliseconds : ℕ → ℕ → Type 0
InMilliseconds speed w = ((type_of w ≡ 3) × (speed ≡ 1)) ⊎ (Periodic w × (speed ≡ 2))

-- What the block of an added endpoint reads, by its word and the speed; at speeds 4 and 5 its companion stands above the word's 32 bits.
pub record EndpointValues (speed w : ℕ) (reads : Field → ℕ) : Type 0 where
  -- EP Type: 1 to 3 of OUT, 5 to 7 of IN
  pub type : reads EP-TYPE ≡ type_of w + 4 * bits 29 1 w
  -- of a bulk endpoint the interval is the byte itself
  pub bulk : type_of w ≡ 2 → reads INTERVAL ≡ bits 2 8 w
  -- of a periodic one, at speeds 3 to 5, the byte held to 1 through 16, less one
  pub exponent : Periodic w → 3 ≤ speed → speed ≤ 5 → reads INTERVAL ≡ min (max (bits 2 8 w) 1) 16 - 1
  -- of an isochronous one at Full speed the same plus 2
  pub full : type_of w ≡ 1 → speed ≡ 1 → reads INTERVAL ≡ min (max (bits 2 8 w) 1) 16 + 2
  -- of others the exponent of the highest power of two that is not above the byte's eighths of milliseconds, 0 taken as 1
  pub not_above : InMilliseconds speed w → 2 ^ reads INTERVAL ≤ 8 * max (bits 2 8 w) 1
  pub highest : InMilliseconds speed w → 8 * max (bits 2 8 w) 1 < 2 ^ (reads INTERVAL + 1)
  -- packets per microframe less one, 0 stays 0, at High speed; 0 at speeds 1 and 2; at 4 and 5 the companion's, in bits 29 to 26 of it
  pub burst : Periodic w → speed ≡ 3 → reads MAX-BURST-SIZE ≡ bits 10 2 w - 1
  pub no_burst : Periodic w → speed ≤ 2 → reads MAX-BURST-SIZE ≡ 0
  pub companion_burst : IsSuper speed → reads MAX-BURST-SIZE ≡ bits (32 + 26) 4 w

-- Of several words of a Dci the last counts; of a valid word the type is not 0.
abbrev pub ConfigureValues : Type 0
ConfigureValues =
    (s speed interface alternate : ℕ) (dropped added : List ℕ) (queues : List Queue) (dcis was ctx : List ℕ) →
    ConfigureReads s speed interface alternate dropped added queues dcis was ctx →
    (xs ys : List ℕ) (w : ℕ) → added ≡ xs ++ (w ∷ ys) →
    ((j : ℕ) → j < length ys → dci_of_word (get_or ys j 0) ≡ dci_of_word w → ⊥) → 1 ≤ type_of w →
    EndpointValues speed w (read_at s ctx (dci_of_word w + 1))

-- The hub at an index is of High speed.
abbrev pub IsHigh : List ℕ → ℕ → Type 0
IsHigh hubs at = bits 40 3 (get_or hubs at 0) ≡ 3

-- The port on hub j of a way: the device's own on the first, after it the port that the hub before is on.
unfoldable pub port_on : List ℕ → List ℕ → ℕ → ℕ → ℕ
port_on hubs way port zero = port
port_on hubs way port (suc j) = bits 32 8 (get_or hubs (get_or way j 0) 0)

-- Slot, multi flag and port of hub j of a way.
pub record IsAt (hubs way : List ℕ) (port j : ℕ) (t : Translator) : Type 0 where
  pub slot : t.slot_id ≡ bits 46 8 (get_or hubs (get_or way j 0) 0)
  pub multi : t.multi ≡ eqb (bits 31 1 (get_or hubs (get_or way j 0) 0)) 1
  pub port_is : t.port ≡ port_on hubs way port j

pub record IsNone (t : Translator) : Type 0 where
  pub slot : t.slot_id ≡ 0
  pub multi : t.multi ≡ false
  pub port_is : t.port ≡ 0

-- Of a way with so many hubs below the root hub: the first that is of High speed.
pub record Nearest (hubs way : List ℕ) (port above : ℕ) (t : Translator) : Type 0 where
  pub there : (j : ℕ) → j < above → IsHigh hubs (get_or way j 0) → ((k : ℕ) → k < j → IsHigh hubs (get_or way k 0) → ⊥) → IsAt hubs way port j t
  pub nowhere : ((j : ℕ) → j < above → IsHigh hubs (get_or way j 0) → ⊥) → IsNone t

-- A Full or Low speed device below a hub has the nearest High hub's; every other device none.
pub record TranslatorIs (speed : ℕ) (hubs : List ℕ) (port : ℕ) : Type 0 where
  pub below : (at : ℕ) (c : Chain hubs at) → (speed ≡ 1) ⊎ (speed ≡ 2) → Nearest hubs c.way port c.above (translator_of speed hubs (Some at) port)
  pub fast : (at : ℕ) → (speed ≡ 1 → ⊥) → (speed ≡ 2 → ⊥) → IsNone (translator_of speed hubs (Some at) port)
  pub alone : IsNone (translator_of speed hubs None port)

abbrev pub TranslatorTells : Type 0
TranslatorTells = (speed : ℕ) (hubs : List ℕ) (port : ℕ) → TranslatorIs speed hubs port

-- The route string over so many hubs below the root hub: for hub j of the way a nibble, at 4 × its depth, of the port on it, held to 15; no
-- higher bit.
pub record Nibbles (hubs way : List ℕ) (port above route : ℕ) : Type 0 where
  pub nibble : (j : ℕ) → j < above → route / 16 ^ (above - 1 - j) % 16 ≡ min (port_on hubs way port j) 15
  pub high : route < 16 ^ above

pub record RouteIs (hubs : List ℕ) (port : ℕ) : Type 0 where
  pub below : (at : ℕ) (c : Chain hubs at) → Nibbles hubs c.way port c.above (route_string hubs (Some at) port)
  pub alone : route_string hubs None port ≡ 0

abbrev pub RouteTells : Type 0
RouteTells = (hubs : List ℕ) (port : ℕ) → RouteIs hubs port
