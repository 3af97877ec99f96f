-- A valid list of descriptor words and what lookup finds in it, spelled once more: 01, "Descriptor word", in bits, places and lists.
-- proofs/Descriptors.antt proves that the definitions are these.
use Rattle.std.specs.Prelude.{ℕ, suc, ◌+◌, ◌*◌, ◌/◌, ◌%◌, ◌^◌, ◌<◌, ◌≤◌, ◌≡◌, ◌⊎◌, ◌↔◌, true, List, ◌∷◌, ◌++◌, length, get_or}
use Rattle.descriptor_list.specs.Valid.{valid_list}
use Rattle.descriptor_list.specs.Companions.{list_ok, companions_fit}
use Rattle.descriptor_list.specs.Promises.{passed_over}
use Rattle.record_settings.specs.Held.{is_found, setting_words}
use Rattle.descriptor_list.specs.Lookup.{find_endpoints}

-- So many bits of a word, from a bit on.
abbrev pub bits : ℕ → ℕ → ℕ → ℕ
bits from width w = w / 2 ^ from % 2 ^ width

-- Bits 31 and 30 are the kind.
abbrev pub IsConfiguration : ℕ → Type 0
IsConfiguration w = bits 30 2 w ≡ 0

-- Of an alternate bits 29 to 22 are the interface, bits 21 to 14 the alternate.
pub record IsAlternate (interface alternate w : ℕ) : Type 0 where
  pub kind : bits 30 2 w ≡ 1
  pub interface_is : bits 22 8 w ≡ interface
  pub alternate_is : bits 14 8 w ≡ alternate

abbrev pub IsEndpoint : ℕ → Type 0
IsEndpoint w = bits 30 2 w ≡ 2

-- Kind 3 is the companion of an endpoint.
abbrev pub IsCompanion : ℕ → Type 0
IsCompanion w = bits 30 2 w ≡ 3

-- Of an endpoint bit 29 is IN, bits 28 to 25 are the number; in an address IN is bit 7.
abbrev pub address_of : ℕ → ℕ
address_of w = bits 29 1 w * 128 + bits 25 4 w

-- 2 × number + IN.
abbrev pub dci_of_word : ℕ → ℕ
dci_of_word w = 2 * bits 25 4 w + bits 29 1 w

-- A word by itself: no kind 3, no unused bit, of an endpoint neither number 0 nor type 0.
pub record EndpointFits (w : ℕ) : Type 0 where
  pub kind : bits 30 2 w ≡ 2
  pub number : 1 ≤ bits 25 4 w
  pub type : 1 ≤ bits 23 2 w
  pub unused : w % 2 ^ 2 ≡ 0

abbrev pub WordFits : ℕ → Type 0
WordFits w = ((bits 30 2 w ≡ 0) × (w % 2 ^ 22 ≡ 0)) ⊎ (((bits 30 2 w ≡ 1) × (w % 2 ^ 14 ≡ 0)) ⊎ EndpointFits w)

-- Word k of a list follows an alternate with nothing but endpoints between, and is one of the first 30 behind it.
pub record Follows (l : List ℕ) (k : ℕ) : Type 0 where
  pub at : ℕ
  pub before : at < k
  pub few : k ≤ at + 30
  pub alternate : bits 30 2 (get_or l at 0) ≡ 1
  pub between : (j : ℕ) → at < j → j < k → IsEndpoint (get_or l j 0)

-- No number stands twice in a list.
abbrev pub Differ : List ℕ → Type 0
Differ l = (i j : ℕ) → i < length l → j < length l → get_or l i 0 ≡ get_or l j 0 → i ≡ j

-- Each number of a list is such a one.
abbrev pub Each : (ℕ → Type 0) → List ℕ → Type 0
Each P l = (i : ℕ) → i < length l → P (get_or l i 0)

-- At most so many numbers are such.
abbrev pub AtMost : ℕ → (ℕ → Type 0) → Type 0
AtMost n P = (l : List ℕ) → Differ l → Each P l → length l ≤ n

-- Word k of a list is a configuration's.
abbrev pub ConfigurationAt : List ℕ → ℕ → Type 0
ConfigurationAt l k = (k < length l) × IsConfiguration (get_or l k 0)

-- Some alternate of a list is an interface's.
pub record HasInterface (l : List ℕ) (interface : ℕ) : Type 0 where
  pub at : ℕ
  pub inside : at < length l
  pub kind : bits 30 2 (get_or l at 0) ≡ 1
  pub number : bits 22 8 (get_or l at 0) ≡ interface

-- A valid list: at most 256 words, the first one a configuration's, each endpoint behind an alternate of its configuration, 30 behind one,
-- at most 8 configurations and 32 interfaces.
pub record ValidList (l : List ℕ) : Type 0 where
  pub few : length l ≤ 256
  pub begins : 0 < length l → IsConfiguration (get_or l 0 0)
  pub words : (k : ℕ) → k < length l → WordFits (get_or l k 0)
  pub endpoints : (k : ℕ) → k < length l → IsEndpoint (get_or l k 0) → Follows l k
  pub configurations : AtMost 8 (ConfigurationAt l)
  pub interfaces : AtMost 32 (HasInterface l)

abbrev pub ValidTells : Type 0
ValidTells = (l : List ℕ) → (valid_list l ≡ true) ↔ ValidList l

-- Speed 4 or 5.
abbrev pub IsSuper : ℕ → Type 0
IsSuper speed = (4 ≤ speed) × (speed ≤ 5)

-- A list that does not give 4 at a speed: at most 256 words, companions among them, the first one a configuration's; companions at speeds
-- 4 and 5 only, without an unused bit; and the words that are none are a valid list.
pub record ListFits (speed : ℕ) (l : List ℕ) : Type 0 where
  pub few : length l ≤ 256
  pub begins : 0 < length l → IsConfiguration (get_or l 0 0)
  pub companions : (k : ℕ) → k < length l → IsCompanion (get_or l k 0) → IsSuper speed × (get_or l k 0 % 2 ^ 8 ≡ 0)
  pub others : ValidList (passed_over l)

abbrev pub ListTells : Type 0
ListTells = (speed : ℕ) (l : List ℕ) → (list_ok speed l ≡ true) ↔ ListFits speed l

-- Word k of a list has a companion directly behind it, with a mult of 0 to 2 if it is an isochronous endpoint's, else 0: bits 24 and 23 of
-- an endpoint are its type, bits 25 and 24 of a companion its mult.
pub record HasCompanion (l : List ℕ) (k : ℕ) : Type 0 where
  pub inside : suc k < length l
  pub kind : IsCompanion (get_or l (suc k) 0)
  pub isochronous : bits 23 2 (get_or l k 0) ≡ 1 → bits 24 2 (get_or l (suc k) 0) ≤ 2
  pub other : (bits 23 2 (get_or l k 0) ≡ 1 → ⊥) → bits 24 2 (get_or l (suc k) 0) ≡ 0

-- A list that does not give 26: each endpoint has its companion, and there is no other.
pub record CompanionsFit (l : List ℕ) : Type 0 where
  pub each : (k : ℕ) → k < length l → IsEndpoint (get_or l k 0) → HasCompanion l k
  pub first : 0 < length l → IsCompanion (get_or l 0 0) → ⊥
  pub others : (k : ℕ) → suc k < length l → IsCompanion (get_or l (suc k) 0) → IsEndpoint (get_or l k 0)

-- At speeds 1 to 3 nothing is asked of companions: there are none.
abbrev pub CompanionsTell : Type 0
CompanionsTell = (speed : ℕ) (l : List ℕ) → (companions_fit speed l ≡ true) ↔ (IsSuper speed → CompanionsFit l)

-- The endpoint words of an interface's alternate in a list: those behind the first word of that alternate, whatever configuration it is in,
-- up to the next word that is none.
pub record Listed (l : List ℕ) (interface alternate : ℕ) (words : List ℕ) : Type 0 where
  pub before : List ℕ
  pub word : ℕ
  pub after : List ℕ
  pub parts : l ≡ before ++ (word ∷ (words ++ after))
  pub is : IsAlternate interface alternate word
  pub first : (k : ℕ) → k < length before → IsAlternate interface alternate (get_or before k 0) → ⊥
  pub endpoints : (k : ℕ) → k < length words → IsEndpoint (get_or words k 0)
  pub ends : 0 < length after → IsEndpoint (get_or after 0 0) → ⊥

-- Lookup finds what is listed, and nothing else.
pub record FoundTells (l : List ℕ) (interface alternate : ℕ) : Type 0 where
  pub found : is_found (find_endpoints l interface alternate) ≡ true → Listed l interface alternate (setting_words l interface alternate)
  pub listed :
      (words : List ℕ) → Listed l interface alternate words →
      (is_found (find_endpoints l interface alternate) ≡ true) × (setting_words l interface alternate ≡ words)

abbrev pub LookupTells : Type 0
LookupTells = (l : List ℕ) (interface alternate : ℕ) → FoundTells l interface alternate
