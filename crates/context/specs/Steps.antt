-- What each step writes into an input context: document 01, context.rs and device.rs of the original.
use Rattle.std.specs.Prelude.{ℕ, ◌+◌, max, Bool, cond, List, [], ◌∷◌, ◌++◌, length, replicate}
use Rattle.def.specs.Speed.{header_packet_size}
use Rattle.descriptor.specs.Word.{endpoint_descriptor}
use Rattle.hub.specs.declared.translator.Translator.{Translator}
use Rattle.transfer.specs.Routes.{Queue, ring_for}
use Rattle.context_block.specs.Fields.{ADD-FLAGS, ADD-FLAG, CONFIGURATION-VALUE, INTERFACE-NUMBER, ALTERNATE-SETTING, CONTEXT-ENTRIES, MAX-PACKET-SIZE}
use Rattle.context_block.specs.FieldWrite.{◌:=◌}
use Rattle.context_block.specs.Blocks.{changed, address_slot, address_endpoint, endpoint_fields, word_dci, some_dci, drop_flags, hub_fields}
use Rattle.context.specs.Place.{Write, in_block, CONTROL, SLOT, written}

-- `address`: the control block, the slot and the control endpoint.
unfoldable pub address_writes : ℕ → ℕ → Translator → ℕ → ℕ → List Write
address_writes speed route translator root_port ring =
    in_block CONTROL ((ADD-FLAGS := 3) ∷ [])
    ++ (in_block SLOT (address_slot speed route translator root_port) ++ in_block 2 (address_endpoint speed ring))

-- What Address is given.
unfoldable pub address_context : ℕ → ℕ → ℕ → Translator → ℕ → ℕ → List ℕ → List ℕ
address_context spacing speed route translator root_port ring ctx =
    written spacing (address_writes speed route translator root_port ring) (replicate (length ctx) 0)

-- `setup_max_packet`: the control endpoint's packet size, from the byte of the device descriptor's header.
unfoldable pub max_packet_writes : ℕ → ℕ → List Write
max_packet_writes speed byte =
    in_block CONTROL (changed ++ ((ADD-FLAG 1 := 1) ∷ [])) ++ in_block 2 ((MAX-PACKET-SIZE := header_packet_size speed byte) ∷ [])

-- An endpoint word added: its flag, and its block with the ring that the queues have for its Dci.
unfoldable pub add_writes : ℕ → List Queue → ℕ → List Write
add_writes speed queues w =
    in_block CONTROL ((ADD-FLAG (word_dci w) := 1) ∷ [])
    ++ in_block (word_dci w + 1) (endpoint_fields speed (endpoint_descriptor w) (ring_for (word_dci w) queues 0))

unfoldable pub add_all : ℕ → List Queue → List ℕ → List Write
add_all speed queues [] = []
add_all speed queues (w ∷ ws) = add_writes speed queues w ++ add_all speed queues ws

-- The highest of some Dcis, control's 1 if there is none.
unfoldable pub highest_dci : List ℕ → ℕ
highest_dci [] = 1
highest_dci (d ∷ ds) = max d (highest_dci ds)

unfoldable pub word_dcis : List ℕ → List ℕ
word_dcis [] = []
word_dcis (w ∷ ws) = word_dci w ∷ word_dcis ws

-- Those of the record's Dcis that no dropped word has.
unfoldable pub staying : List ℕ → List ℕ → List ℕ
staying dropped [] = []
staying dropped (d ∷ ds) = cond (some_dci d dropped) (staying dropped ds) (d ∷ staying dropped ds)

-- Context Entries, the index of the last endpoint context in use (xHCI 1.2, table 6-4): of the record's endpoints that stay and of the
-- added words.
unfoldable pub context_entries : List ℕ → List ℕ → List ℕ → ℕ
context_entries dropped dcis added = max (highest_dci (staying dropped dcis)) (highest_dci (word_dcis added))

-- `prepare_configure_context`.
unfoldable pub configure_writes : ℕ → ℕ → ℕ → List ℕ → List ℕ → List Queue → List ℕ → List Write
configure_writes speed interface alternate dropped added queues dcis =
    in_block CONTROL (changed ++ ((INTERFACE-NUMBER := interface) ∷ (ALTERNATE-SETTING := alternate) ∷ drop_flags dropped))
    ++ (add_all speed queues added ++ in_block SLOT ((CONTEXT-ENTRIES := context_entries dropped dcis added) ∷ []))

-- What the last Evaluate of a set configuration is given.
unfoldable pub configuration_writes : ℕ → List Write
configuration_writes value = in_block CONTROL (changed ++ ((CONFIGURATION-VALUE := value) ∷ []))

-- `update_hub_inner`.
unfoldable pub hub_writes : ℕ → ℕ → Bool → ℕ → List Write
hub_writes speed ports multi think = in_block CONTROL changed ++ in_block SLOT (hub_fields speed ports multi think)
