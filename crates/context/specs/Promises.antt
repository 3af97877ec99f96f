-- What a context reads after each step, at either spacing and whatever it held before: proofs/Promises.antt proves each `..Promise`.
use Rattle.std.specs.Prelude.{ℕ, ◌+◌, ◌^◌, ◌≤◌, ◌<◌, Bool, true, false, cond, ◌||◌, ◌⊎◌, List, [], ◌∷◌, ◌++◌, ◌≡◌, eqb, ltb, length, get_or}
use Rattle.def.specs.Speed.{FULL, HIGH, SUPER, SUPER-PLUS, first_packet_size, exponent_ok, header_packet_size}
use Rattle.descriptor.specs.Word.{endpoint_descriptor}
use Rattle.hub.specs.declared.translator.Translator.{Translator}
use Rattle.transfer.specs.Routes.{Queue, ring_for}
use Rattle.context_field.specs.declared.Field.{Field}
use Rattle.context_field.specs.Field.{read_field, InBlock}
use Rattle.context_block.specs.Fields.{DROP-FLAGS, ADD-FLAGS, DROP-FLAG, ADD-FLAG, CONFIGURATION-VALUE, INTERFACE-NUMBER, ALTERNATE-SETTING, MTT, HUB, CONTEXT-ENTRIES, NUMBER-OF-PORTS, TT-THINK-TIME, CERR, EP-TYPE, MAX-PACKET-SIZE, AVERAGE-TRB-LENGTH, apart_from_all}
use Rattle.context_block.specs.FieldWrite.{FieldWrite, ◌:=◌}
use Rattle.context_block.specs.Blocks.{word_dci, some_dci}
use Rattle.context_block.specs.Promises.{Holds, fields_of, slot_reads, ring_reads, endpoint_reads}
use Rattle.context.specs.Place.{CONTROL, SLOT, written, block_at, read_at, OutsideBlock, Spaced}
use Rattle.context.specs.Steps.{address_context, max_packet_writes, add_all, context_entries, configure_writes, configuration_writes, hub_writes}

-- The listed fields of a block read the values beside them, and every field apart from these reads as `old` has it.
pub record Reads (block : List ℕ) (listed : List FieldWrite) (old : Field → ℕ) : Type 0 where
  pub named : Holds block listed
  pub others : (g : Field) → InBlock g → apart_from_all g (fields_of listed) ≡ true → read_field block g ≡ old g

-- The control block of each step but Address: drop flags 2 to 31 and the add flags are as told, the listed fields read the values
-- beside them, and every field apart from these reads as in the block before.
pub record ControlReads (block was : List ℕ) (drop add : ℕ → Bool) (listed : List FieldWrite) : Type 0 where
  pub drops : (d : ℕ) → 2 ≤ d → d < 32 → read_field block (DROP-FLAG d) ≡ cond (drop d) 1 0
  pub adds : (d : ℕ) → d < 32 → read_field block (ADD-FLAG d) ≡ cond (add d) 1 0
  pub named : Holds block listed
  pub others :
      (g : Field) →
      InBlock g →
      apart_from_all g (DROP-FLAGS ∷ ADD-FLAGS ∷ fields_of listed) ≡ true →
      read_field block g ≡ read_field was g

-- `address_context`: block 2 is the control endpoint's, and what is not named is 0.
abbrev pub zero_field : Field → ℕ
zero_field g = 0

pub record AddressReads (s speed route : ℕ) (translator : Translator) (root_port ring : ℕ) (ctx : List ℕ) : Type 0 where
  pub control : Reads (block_at s ctx CONTROL) ((ADD-FLAGS := 3) ∷ []) zero_field
  pub slot : Reads (block_at s ctx SLOT) (slot_reads speed route translator root_port) zero_field
  pub endpoint :
      Reads (block_at s ctx 2)
      ((CERR := 3) ∷ (EP-TYPE := 4) ∷ (MAX-PACKET-SIZE := first_packet_size speed) ∷ (AVERAGE-TRB-LENGTH := 8) ∷ ring_reads ring)
      zero_field
  pub rest : (k : ℕ) → OutsideBlock s CONTROL k → OutsideBlock s SLOT k → OutsideBlock s 2 k → get_or ctx k 0 ≡ 0

abbrev pub AddressPromise : Type 0
AddressPromise =
    (s speed route : ℕ) (translator : Translator) (root_port ring : ℕ) (ctx : List ℕ) →
    Spaced s (length ctx) →
    speed < 2 ^ 4 →
    route < 2 ^ 20 →
    translator.slot_id < 2 ^ 8 →
    translator.port < 2 ^ 8 →
    root_port < 2 ^ 8 →
    ring < 2 ^ 64 →
    AddressReads s speed route translator root_port ring (address_context s speed route translator root_port ring ctx)

-- `setup_max_packet`.
pub record MaxPacketReads (s size : ℕ) (was ctx : List ℕ) : Type 0 where
  pub control : ControlReads (block_at s ctx CONTROL) (block_at s was CONTROL) (λ d. false) (λ d. ltb d 2) []
  pub endpoint : Reads (block_at s ctx 2) ((MAX-PACKET-SIZE := size) ∷ []) (read_at s was 2)
  pub rest : (k : ℕ) → OutsideBlock s CONTROL k → OutsideBlock s 2 k → get_or ctx k 0 ≡ get_or was k 0

abbrev pub MaxPacketPromise : Type 0
MaxPacketPromise =
    (s speed byte : ℕ) (ctx : List ℕ) →
    Spaced s (length ctx) →
    byte < 2 ^ 8 →
    exponent_ok speed byte ≡ true →
    MaxPacketReads s (header_packet_size speed byte) ctx (written s (max_packet_writes speed byte) ctx)

-- At SuperSpeed and SuperSpeedPlus the size is 512.
abbrev pub SuperPacketPromise : Type 0
SuperPacketPromise =
    (s speed byte : ℕ) (ctx : List ℕ) →
    Spaced s (length ctx) →
    (speed ≡ SUPER) ⊎ (speed ≡ SUPER-PLUS) →
    exponent_ok speed byte ≡ true →
    MaxPacketReads s 512 ctx (written s (max_packet_writes speed byte) ctx)

-- `configuration_context`.
pub record ConfigurationReads (s value : ℕ) (was ctx : List ℕ) : Type 0 where
  pub control :
      ControlReads (block_at s ctx CONTROL) (block_at s was CONTROL) (λ d. false) (λ d. eqb d 0)
      ((CONFIGURATION-VALUE := value) ∷ [])
  pub rest : (k : ℕ) → OutsideBlock s CONTROL k → get_or ctx k 0 ≡ get_or was k 0

abbrev pub ConfigurationPromise : Type 0
ConfigurationPromise =
    (s value : ℕ) (ctx : List ℕ) →
    Spaced s (length ctx) →
    value < 2 ^ 8 →
    ConfigurationReads s value ctx (written s (configuration_writes value) ctx)

-- `hub_context`: the multi flag stays without multi but at Full speed, the think time stays but at High speed.
pub record HubReads (s speed ports : ℕ) (multi : Bool) (think : ℕ) (was ctx : List ℕ) : Type 0 where
  pub control : ControlReads (block_at s ctx CONTROL) (block_at s was CONTROL) (λ d. false) (λ d. eqb d 0) []
  pub slot :
      Reads (block_at s ctx SLOT)
      ((HUB := 1)
      ∷ (NUMBER-OF-PORTS := ports)
      ∷ (MTT := cond multi 1 (cond (eqb speed FULL) 0 (read_at s was SLOT MTT)))
      ∷ (TT-THINK-TIME := cond (eqb speed HIGH) think (read_at s was SLOT TT-THINK-TIME)) ∷ [])
      (read_at s was SLOT)
  pub rest : (k : ℕ) → OutsideBlock s CONTROL k → OutsideBlock s SLOT k → get_or ctx k 0 ≡ get_or was k 0

abbrev pub HubPromise : Type 0
HubPromise =
    (s speed ports : ℕ) (multi : Bool) (think : ℕ) (ctx : List ℕ) →
    Spaced s (length ctx) →
    ports < 2 ^ 8 →
    think < 2 ^ 2 →
    HubReads s speed ports multi think ctx (written s (hub_writes speed ports multi think) ctx)

-- Words whose Dcis are 2 or more, as those of a valid list are.
abbrev pub Endpoints : List ℕ → Type 0
Endpoints words = (d : ℕ) → some_dci d words ≡ true → 2 ≤ d

-- Dcis of endpoints, as those of a record are.
abbrev pub EndpointDcis : List ℕ → Type 0
EndpointDcis dcis = (i : ℕ) → i < length dcis → (2 ≤ get_or dcis i 0) × (get_or dcis i 0 < 32)

-- Drop flags 2 to 31 of a context are those of some words.
abbrev pub Flagged : List ℕ → List ℕ → Type 0
Flagged dropped ctx = (d : ℕ) → 2 ≤ d → d < 32 → read_field ctx (DROP-FLAG d) ≡ cond (some_dci d dropped) 1 0

-- A Dci of the record's that a Configure does not flag for drop.
abbrev pub Stays : List ℕ → List ℕ → ℕ → Type 0
Stays dropped dcis d = (i : ℕ) × (i < length dcis) × (get_or dcis i 0 ≡ d) × (some_dci d dropped ≡ false)

-- Context Entries: no Dci that is added or stays lies above it, and it is one of these, or 1; so its five bits hold it.
pub record EntriesReads (dropped dcis added : List ℕ) (entries : ℕ) : Type 0 where
  pub over_added : (d : ℕ) → some_dci d added ≡ true → d ≤ entries
  pub over_staying : (d : ℕ) → Stays dropped dcis d → d ≤ entries
  pub least : 1 ≤ entries
  pub reached : (entries ≡ 1) ⊎ ((some_dci entries added ≡ true) ⊎ Stays dropped dcis entries)
  pub fits : entries ≤ 31

module _ (s speed : ℕ) (added : List ℕ) (queues : List Queue) (was ctx : List ℕ) where
  -- The block of an added word that is the only one of its Dci.
  abbrev pub EndpointReads : Type 0
  EndpointReads =
      (xs ys : List ℕ) (w : ℕ) →
      added ≡ xs ++ (w ∷ ys) →
      some_dci (word_dci w) xs ≡ false →
      some_dci (word_dci w) ys ≡ false →
      let block = word_dci w + 1 in
      Reads (block_at s ctx block)
      (endpoint_reads (block_at s was block) speed (endpoint_descriptor w) (ring_for (word_dci w) queues 0))
      (read_at s was block)

  -- The block of one that is the last of its Dci: over what the words before it left.
  abbrev pub LastReads : Type 0
  LastReads =
      (xs ys : List ℕ) (w : ℕ) →
      added ≡ xs ++ (w ∷ ys) →
      some_dci (word_dci w) ys ≡ false →
      let block = word_dci w + 1 in
      let before = written s (add_all speed queues xs) was in
      Reads (block_at s ctx block)
      (endpoint_reads (block_at s before block) speed (endpoint_descriptor w) (ring_for (word_dci w) queues 0))
      (read_at s before block)

-- `prepare_configure_context`: `idle` is of the block of a Dci that no added word has, `rest` of a byte that is none of the blocks'.
pub record ConfigureReads (s speed interface alternate : ℕ) (dropped added : List ℕ) (queues : List Queue) (dcis was ctx : List ℕ) : Type 0 where
  pub control :
      ControlReads (block_at s ctx CONTROL) (block_at s was CONTROL) (λ d. some_dci d dropped) (λ d. eqb d 0 || some_dci d added)
      ((INTERFACE-NUMBER := interface) ∷ (ALTERNATE-SETTING := alternate) ∷ [])
  pub slot : Reads (block_at s ctx SLOT) ((CONTEXT-ENTRIES := context_entries dropped dcis added) ∷ []) (read_at s was SLOT)
  pub entries : EntriesReads dropped dcis added (read_at s ctx SLOT CONTEXT-ENTRIES)
  pub endpoint : EndpointReads s speed added queues was ctx
  pub last : LastReads s speed added queues was ctx
  pub idle : (d : ℕ) → 1 ≤ d → some_dci d added ≡ false → block_at s ctx (d + 1) ≡ block_at s was (d + 1)
  pub rest :
      (k : ℕ) →
      OutsideBlock s CONTROL k →
      OutsideBlock s SLOT k →
      ((d : ℕ) → some_dci d added ≡ true → OutsideBlock s (d + 1) k) →
      get_or ctx k 0 ≡ get_or was k 0

abbrev pub ConfigurePromise : Type 0
ConfigurePromise =
    (s speed interface alternate : ℕ) (dropped added : List ℕ) (queues : List Queue) (dcis ctx : List ℕ) →
    Spaced s (length ctx) →
    interface < 2 ^ 8 →
    alternate < 2 ^ 8 →
    Endpoints dropped →
    Endpoints added →
    ((d : ℕ) → ring_for d queues 0 < 2 ^ 64) →
    EndpointDcis dcis →
    ConfigureReads s speed interface alternate dropped added queues dcis ctx
    (written s (configure_writes speed interface alternate dropped added queues dcis) ctx)
