-- What a block's fields read after each list of settings, whatever the block of 32 bytes held: proofs/Promises.antt proves each `..Promise`.
use Rattle.std.specs.Prelude.{ℕ, ◌/◌, ◌%◌, ◌^◌, ◌<◌, Bool, true, false, cond, List, [], ◌∷◌, ◌++◌, ◌≢◌, ◌≡◌, eqb, ltb, length}
use Rattle.def.specs.Speed.{FULL, HIGH, is_super, first_packet_size}
use Rattle.descriptor.specs.declared.EndpointDescriptor.{EndpointDescriptor}
use Rattle.descriptor.specs.Word.{endpoint_descriptor}
use Rattle.descriptor.specs.Endpoint.{endpoint_type, xhci_interval, is_periodic, periodic_burst, esit_payload}
use Rattle.hub.specs.declared.translator.Translator.{Translator}
use Rattle.context_field.specs.declared.Field.{Field}
use Rattle.context_field.specs.Field.{read_field, InBlock}
use Rattle.context_block.specs.Fields.{DROP-FLAGS, ADD-FLAGS, DROP-FLAG, ADD-FLAG, CONFIGURATION-VALUE, INTERFACE-NUMBER, ALTERNATE-SETTING, ROUTE-STRING, SPEED, MTT, HUB, CONTEXT-ENTRIES, ROOT-HUB-PORT-NUMBER, NUMBER-OF-PORTS, PARENT-HUB-SLOT-ID, PARENT-PORT-NUMBER, TT-THINK-TIME, MULT, MAX-PSTREAMS, INTERVAL, MAX-ESIT-PAYLOAD-HI, CERR, EP-TYPE, MAX-BURST-SIZE, MAX-PACKET-SIZE, DCS, TR-DEQUEUE-POINTER-LO, TR-DEQUEUE-POINTER-HI, AVERAGE-TRB-LENGTH, MAX-ESIT-PAYLOAD-LO, apart_from_all}
use Rattle.context_block.specs.FieldWrite.{FieldWrite, ◌:=◌, fields_written}
use Rattle.context_block.specs.Blocks.{changed, ring_fields, address_slot, address_endpoint, error_count, periodic_fields, burst_of, basic_fields, endpoint_fields, some_dci, drop_flags, hub_fields}

-- Every field listed reads the value beside it.
unfoldable pub Holds : List ℕ → List FieldWrite → Type 0
Holds block [] = Unit {0}
Holds block (s ∷ ss) = (read_field block s.field ≡ s.value) × Holds block ss

unfoldable pub fields_of : List FieldWrite → List Field
fields_of [] = []
fields_of (s ∷ ss) = s.field ∷ fields_of ss

-- After the settings `ss` every field of `listed` reads the value beside it, and every field apart from these reads as before.
pub record Leaves (block : List ℕ) (ss listed : List FieldWrite) : Type 0 where
  pub named : Holds (fields_written ss block) listed
  pub others :
      (g : Field) → InBlock g → apart_from_all g (fields_of listed) ≡ true → read_field (fields_written ss block) g ≡ read_field block g

-- A field with what it holds.
abbrev pub unchanged : List ℕ → Field → FieldWrite
unchanged block f = f := read_field block f

-- A field that is made `v` in one case, and stays in the other.
abbrev pub made_if : Bool → List ℕ → Field → ℕ → FieldWrite
made_if made block f v = f := cond made v (read_field block f)

-- One setting of a value that the field has room for.
abbrev pub SinglePromise : Type 0
SinglePromise =
    (block : List ℕ) (f : Field) (v : ℕ) →
    length block ≡ 32 →
    InBlock f →
    v < 2 ^ f.width →
    Leaves block ((f := v) ∷ []) ((f := v) ∷ [])

-- The control block: drop flags 0 and 1 stay.
unfoldable pub changed_reads : List ℕ → List FieldWrite
changed_reads block =
    (DROP-FLAGS := 0) ∷ (ADD-FLAGS := 1) ∷ unchanged block (DROP-FLAG 0) ∷ unchanged block (DROP-FLAG 1) ∷ []

abbrev pub ChangedPromise : Type 0
ChangedPromise = (block : List ℕ) → length block ≡ 32 → Leaves block changed (changed_reads block)

-- The same by single flags.
abbrev pub ChangedFlagPromise : Type 0
ChangedFlagPromise =
    (block : List ℕ) (d : ℕ) →
    length block ≡ 32 →
    d < 32 →
    (read_field (fields_written changed block) (DROP-FLAG d) ≡ cond (ltb d 2) (read_field block (DROP-FLAG d)) 0)
    × (read_field (fields_written changed block) (ADD-FLAG d) ≡ cond (eqb d 0) 1 0)

abbrev pub InterfacePromise : Type 0
InterfacePromise =
    (block : List ℕ) (interface alternate : ℕ) →
    length block ≡ 32 →
    interface < 2 ^ 8 →
    alternate < 2 ^ 8 →
    Leaves block (changed ++ ((INTERFACE-NUMBER := interface) ∷ (ALTERNATE-SETTING := alternate) ∷ []))
    ((INTERFACE-NUMBER := interface) ∷ (ALTERNATE-SETTING := alternate) ∷ changed_reads block)

abbrev pub ConfigurationPromise : Type 0
ConfigurationPromise =
    (block : List ℕ) (value : ℕ) →
    length block ≡ 32 →
    value < 2 ^ 8 →
    Leaves block (changed ++ ((CONFIGURATION-VALUE := value) ∷ [])) ((CONFIGURATION-VALUE := value) ∷ changed_reads block)

-- With the control endpoint's flag, add flags 0 and 1 alone are set.
abbrev pub ControlPacketPromise : Type 0
ControlPacketPromise =
    (block : List ℕ) (d : ℕ) →
    length block ≡ 32 →
    d < 32 →
    read_field (fields_written (changed ++ ((ADD-FLAG 1 := 1) ∷ [])) block) (ADD-FLAG d) ≡ cond (ltb d 2) 1 0

-- Drop flags: those of the words are set, every other one and the other doublewords stay.
abbrev pub DropFlagsPromise : Type 0
DropFlagsPromise =
    (block ws : List ℕ) →
    length block ≡ 32 →
    ((d : ℕ) →
    d < 32 →
    read_field (fields_written (drop_flags ws) block) (DROP-FLAG d) ≡ cond (some_dci d ws) 1 (read_field block (DROP-FLAG d)))
    × ((g : Field) → InBlock g → g.word ≢ 0 → read_field (fields_written (drop_flags ws) block) g ≡ read_field block g)

-- The slot of a device.
unfoldable pub slot_reads : ℕ → ℕ → Translator → ℕ → List FieldWrite
slot_reads speed route translator root_port =
    (ROUTE-STRING := route)
    ∷ (SPEED := speed)
    ∷ (MTT := cond translator.multi 1 0)
    ∷ (CONTEXT-ENTRIES := 1)
    ∷ (ROOT-HUB-PORT-NUMBER := root_port)
    ∷ (PARENT-HUB-SLOT-ID := translator.slot_id)
    ∷ (PARENT-PORT-NUMBER := translator.port) ∷ []

abbrev pub AddressSlotPromise : Type 0
AddressSlotPromise =
    (block : List ℕ) (speed route : ℕ) (translator : Translator) (root_port : ℕ) →
    length block ≡ 32 →
    speed < 2 ^ 4 →
    route < 2 ^ 20 →
    translator.slot_id < 2 ^ 8 →
    translator.port < 2 ^ 8 →
    root_port < 2 ^ 8 →
    Leaves block (address_slot speed route translator root_port) (slot_reads speed route translator root_port)

-- The slot of a hub: the multi flag stays without multi but at Full speed, the think time stays but at High speed.
abbrev pub HubPromise : Type 0
HubPromise =
    (block : List ℕ) (speed ports : ℕ) (multi : Bool) (think : ℕ) →
    length block ≡ 32 →
    ports < 2 ^ 8 →
    think < 2 ^ 2 →
    Leaves block (hub_fields speed ports multi think)
    ((HUB := 1)
    ∷ (NUMBER-OF-PORTS := ports)
    ∷ (MTT := cond multi 1 (cond (eqb speed FULL) 0 (read_field block MTT)))
    ∷ made_if (eqb speed HIGH) block TT-THINK-TIME think ∷ [])

-- A ring of 64 bits: its four low bits are not kept.
unfoldable pub ring_reads : ℕ → List FieldWrite
ring_reads ring =
    (TR-DEQUEUE-POINTER-LO := ring / 2 ^ 4 % 2 ^ 28) ∷ (TR-DEQUEUE-POINTER-HI := ring / 2 ^ 32) ∷ (DCS := 1) ∷ []

-- The control endpoint's block.
abbrev pub AddressEndpointPromise : Type 0
AddressEndpointPromise =
    (block : List ℕ) (speed ring : ℕ) →
    length block ≡ 32 →
    ring < 2 ^ 64 →
    Leaves block (address_endpoint speed ring)
    ((CERR := 3) ∷ (EP-TYPE := 4) ∷ (MAX-PACKET-SIZE := first_packet_size speed) ∷ (AVERAGE-TRB-LENGTH := 8) ∷ ring_reads ring)

-- An endpoint's block at speeds 1 to 3: four of its fields stay at an endpoint that is not periodic, two at any.
unfoldable pub plain_reads : List ℕ → ℕ → EndpointDescriptor → List FieldWrite
plain_reads block speed e =
    let periodic = is_periodic e.transfer_type in
    let burst = periodic_burst e.transfer_type e.packets_per_microframe speed in
    let payload = esit_payload e.max_packet_size burst in
    made_if periodic block MAX-BURST-SIZE burst
    ∷ made_if periodic block MULT 0
    ∷ made_if periodic block AVERAGE-TRB-LENGTH payload
    ∷ made_if periodic block MAX-ESIT-PAYLOAD-LO payload
    ∷ unchanged block MAX-PSTREAMS
    ∷ unchanged block MAX-ESIT-PAYLOAD-HI ∷ []

-- At speeds 4 and 5 its burst is the companion's at any endpoint; four fields more are at a periodic one, and stay at another.
unfoldable pub companion_reads : List ℕ → EndpointDescriptor → List FieldWrite
companion_reads block e =
    let periodic = is_periodic e.transfer_type in
    (MAX-BURST-SIZE := e.burst)
    ∷ made_if periodic block MULT e.mult
    ∷ made_if periodic block AVERAGE-TRB-LENGTH e.bytes_per_interval
    ∷ made_if periodic block MAX-ESIT-PAYLOAD-LO e.bytes_per_interval
    ∷ unchanged block MAX-PSTREAMS
    ∷ made_if periodic block MAX-ESIT-PAYLOAD-HI 0 ∷ []

unfoldable pub endpoint_reads : List ℕ → ℕ → EndpointDescriptor → ℕ → List FieldWrite
endpoint_reads block speed e ring =
    (INTERVAL := xhci_interval e.interval e.transfer_type speed)
    ∷ (CERR := error_count e.transfer_type)
    ∷ (EP-TYPE := endpoint_type e.transfer_type e.address)
    ∷ (MAX-PACKET-SIZE := e.max_packet_size)
    ∷ (ring_reads ring ++ cond (is_super speed) (companion_reads block e) (plain_reads block speed e))

abbrev pub EndpointPromise : Type 0
EndpointPromise =
    (block : List ℕ) (speed w ring : ℕ) →
    length block ≡ 32 →
    ring < 2 ^ 64 →
    Leaves block (endpoint_fields speed (endpoint_descriptor w) ring) (endpoint_reads block speed (endpoint_descriptor w) ring)

-- What an endpoint's block gets without companions.
unfoldable pub fields_before : ℕ → EndpointDescriptor → ℕ → List FieldWrite
fields_before speed e ring =
    basic_fields speed e
    ++ (ring_fields ring
    ++ cond (is_periodic e.transfer_type)
    (periodic_fields (burst_of speed e) (esit_payload e.max_packet_size (burst_of speed e)))
    [])

-- At speeds 1 to 3 that is all.
abbrev pub BeforePromise : Type 0
BeforePromise =
    (speed : ℕ) (e : EndpointDescriptor) (ring : ℕ) → is_super speed ≡ false → endpoint_fields speed e ring ≡ fields_before speed e ring
