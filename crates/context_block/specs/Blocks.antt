-- What each step makes of the control block, the slot block and an endpoint block: document 01, context.rs and device.rs of the original.
use Rattle.std.specs.Prelude.{ℕ, ◌/◌, ◌^◌, Bool, false, cond, ◌||◌, List, [], ◌∷◌, ◌++◌, eqb}
use Rattle.def.specs.Speed.{FULL, HIGH, is_super, first_packet_size}
use Rattle.descriptor.specs.declared.EndpointDescriptor.{EndpointDescriptor}
use Rattle.descriptor.specs.declared.TransferType.{TransferType}
use Rattle.descriptor.specs.declared.TransferType.TheVariants.{Control, Isochronous, Bulk, Interrupt}
use Rattle.descriptor.specs.Word.{endpoint_descriptor}
use Rattle.descriptor.specs.Endpoint.{dci_of, endpoint_type, xhci_interval, is_periodic, periodic_burst, esit_payload}
use Rattle.hub.specs.declared.translator.Translator.{Translator}
use Rattle.context_block.specs.Fields.{DROP-FLAGS, ADD-FLAGS, DROP-FLAG, ROUTE-STRING, SPEED, MTT, HUB, CONTEXT-ENTRIES, ROOT-HUB-PORT-NUMBER, NUMBER-OF-PORTS, PARENT-HUB-SLOT-ID, PARENT-PORT-NUMBER, TT-THINK-TIME, MULT, INTERVAL, MAX-ESIT-PAYLOAD-HI, CERR, EP-TYPE, MAX-BURST-SIZE, MAX-PACKET-SIZE, DCS, TR-DEQUEUE-POINTER-LO, TR-DEQUEUE-POINTER-HI, AVERAGE-TRB-LENGTH, MAX-ESIT-PAYLOAD-LO}
use Rattle.context_block.specs.FieldWrite.{FieldWrite, ◌:=◌}

-- `perper_change`: drop flags 2 to 31 cleared, and of the add flags A0 alone set.
unfoldable pub changed : List FieldWrite
changed = (DROP-FLAGS := 0) ∷ (ADD-FLAGS := 1) ∷ []

-- An endpoint's ring, with the cycle state of a new ring.
unfoldable pub ring_fields : ℕ → List FieldWrite
ring_fields ring =
    (TR-DEQUEUE-POINTER-LO := ring / 2 ^ 4) ∷ (TR-DEQUEUE-POINTER-HI := ring / 2 ^ 32) ∷ (DCS := 1) ∷ []

-- `address`. What else the original sets is 0, as the whole context is before.
unfoldable pub address_slot : ℕ → ℕ → Translator → ℕ → List FieldWrite
address_slot speed route translator root_port =
    (ROUTE-STRING := route)
    ∷ (SPEED := speed)
    ∷ (MTT := cond translator.multi 1 0)
    ∷ (CONTEXT-ENTRIES := 1)
    ∷ (ROOT-HUB-PORT-NUMBER := root_port)
    ∷ (PARENT-HUB-SLOT-ID := translator.slot_id)
    ∷ (PARENT-PORT-NUMBER := translator.port) ∷ []

unfoldable pub address_endpoint : ℕ → ℕ → List FieldWrite
address_endpoint speed ring =
    (CERR := 3)
    ∷ (EP-TYPE := 4)
    ∷ (MAX-PACKET-SIZE := first_packet_size speed)
    ∷ (AVERAGE-TRB-LENGTH := 8) ∷ ring_fields ring

-- CErr: an isochronous endpoint's packets are not sent again.
unfoldable pub error_count : TransferType → ℕ
error_count Control = 3
error_count Isochronous = 0
error_count Bulk = 3
error_count Interrupt = 3

-- What only a periodic endpoint's block gets.
unfoldable pub periodic_fields : ℕ → ℕ → List FieldWrite
periodic_fields burst payload =
    (MAX-BURST-SIZE := burst) ∷ (MULT := 0) ∷ (AVERAGE-TRB-LENGTH := payload) ∷ (MAX-ESIT-PAYLOAD-LO := payload) ∷ []

unfoldable pub burst_of : ℕ → EndpointDescriptor → ℕ
burst_of speed e = periodic_burst e.transfer_type e.packets_per_microframe speed

-- What every endpoint's block gets besides its ring.
unfoldable pub basic_fields : ℕ → EndpointDescriptor → List FieldWrite
basic_fields speed e =
    (INTERVAL := xhci_interval e.interval e.transfer_type speed)
    ∷ (CERR := error_count e.transfer_type)
    ∷ (EP-TYPE := endpoint_type e.transfer_type e.address)
    ∷ (MAX-PACKET-SIZE := e.max_packet_size) ∷ []

-- What its packets per microframe give it; one that is not periodic gets nothing.
unfoldable pub plain_fields : ℕ → EndpointDescriptor → List FieldWrite
plain_fields speed e =
    cond (is_periodic e.transfer_type) (periodic_fields (burst_of speed e) (esit_payload e.max_packet_size (burst_of speed e))) []

-- What its companion gives it (xHCI 1.2, section 6.2.3, tables 6-8, 6-9 and 6-11): its burst; a periodic one also its mult, and its bytes
-- per interval as payload, the high part of which is 0, and as average length.
unfoldable pub companion_fields : EndpointDescriptor → List FieldWrite
companion_fields e =
    (MAX-BURST-SIZE := e.burst)
    ∷ cond (is_periodic e.transfer_type)
    ((MULT := e.mult)
    ∷ (MAX-ESIT-PAYLOAD-HI := 0)
    ∷ (AVERAGE-TRB-LENGTH := e.bytes_per_interval)
    ∷ (MAX-ESIT-PAYLOAD-LO := e.bytes_per_interval) ∷ [])
    []

-- An endpoint's block, from its descriptor and its ring. Fields that are not named keep what they hold.
unfoldable pub endpoint_fields : ℕ → EndpointDescriptor → ℕ → List FieldWrite
endpoint_fields speed e ring =
    basic_fields speed e ++ (ring_fields ring ++ cond (is_super speed) (companion_fields e) (plain_fields speed e))

-- The Dci of an endpoint word.
unfoldable pub word_dci : ℕ → ℕ
word_dci w = dci_of (endpoint_descriptor w).address

-- Whether one of some endpoint words has this Dci.
unfoldable pub some_dci : ℕ → List ℕ → Bool
some_dci d [] = false
some_dci d (w ∷ ws) = eqb (word_dci w) d || some_dci d ws

-- The drop flags of some endpoint words.
unfoldable pub drop_flags : List ℕ → List FieldWrite
drop_flags [] = []
drop_flags (w ∷ ws) = (DROP-FLAG (word_dci w) := 1) ∷ drop_flags ws

-- The multi flag of a hub: without multi it is cleared at Full speed only.
unfoldable pub multi_fields : ℕ → Bool → List FieldWrite
multi_fields speed multi = cond multi ((MTT := 1) ∷ []) (cond (eqb speed FULL) ((MTT := 0) ∷ []) [])

-- The think time is written at High speed only.
unfoldable pub think_fields : ℕ → ℕ → List FieldWrite
think_fields speed think = cond (eqb speed HIGH) ((TT-THINK-TIME := think) ∷ []) []

-- `update_hub_inner`.
unfoldable pub hub_fields : ℕ → ℕ → Bool → ℕ → List FieldWrite
hub_fields speed ports multi think =
    (HUB := 1) ∷ (multi_fields speed multi ++ ((NUMBER-OF-PORTS := ports) ∷ think_fields speed think))
