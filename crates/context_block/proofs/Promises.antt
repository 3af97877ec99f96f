-- Every promise of specs/Promises.antt.
use Prim.Native.Nat.{ℕ, ◌+◌, ◌-◌, ◌/◌, ◌%◌, ◌^◌, ◌<◌, ◌≤◌}
use mathlib.Core.Path.{◌≡◌, refl, sym, ◌∙◌}
use mathlib.Core.Logic.{◌≢◌, inl}
use mathlib.Core.Bool.{Bool, true, false, cond, ◌||◌}
use mathlib.Core.List.{List, [], ◌∷◌, ◌++◌}
use native.Mathlib.Decide.{dec_lt}
use native.Mathlib.Nat.{zero-div, zero-mod}
use native.Mathlib.Omega.{arith}
use borrow.Author.Tests.{eqb-true, le-leb, lt-leb, lt-ltb, le-ltb}
use lib.Dec.{eqb, ltb, lit<}
use lib.ListN.{length}
use Rattle.laws.proofs.Computed.{all, all_below}
use Rattle.laws.proofs.Tests.{and_left}
use Rattle.laws.proofs.Cases.{cond_or}
use Rattle.def.specs.Speed.{FULL, HIGH, is_super, first_packet_size}
use Rattle.descriptor.specs.declared.EndpointDescriptor.{EndpointDescriptor}
use Rattle.descriptor.specs.declared.TransferType.{TransferType}
use Rattle.descriptor.specs.declared.TransferType.TheVariants.{Control, Isochronous, Bulk, Interrupt}
use Rattle.descriptor.specs.Word.{endpoint_descriptor}
use Rattle.descriptor.specs.Endpoint.{is_periodic, esit_payload, endpoint_type, xhci_interval}
use Rattle.hub.specs.declared.translator.Translator.{Translator}
use Rattle.descriptor.proofs.Laws.{fields_fit, endpoint_type_small, interval_small, burst_small, payload_small, dci_small}
use Rattle.context_field.specs.declared.Field.{Field}
use Rattle.context_field.specs.Field.{read_field, write_field, InBlock, apart, within, read_after}
use Rattle.context_field.proofs.Laws.{within_self, length_write_field, read_apart, read_back}
use Rattle.context_block.specs.Fields.{DROP-FLAG, ADD-FLAG, MTT, HUB, NUMBER-OF-PORTS, TT-THINK-TIME, MULT, MAX-PSTREAMS, MAX-ESIT-PAYLOAD-HI, MAX-BURST-SIZE, AVERAGE-TRB-LENGTH, MAX-ESIT-PAYLOAD-LO, apart_from_all}
use Rattle.context_block.specs.FieldWrite.{◌:=◌, fields_written, after_field_writes, inside, all_inside, clear_cut}
use Rattle.context_block.specs.Blocks.{changed, ring_fields, address_slot, address_endpoint, error_count, periodic_fields, burst_of, basic_fields, plain_fields, companion_fields, endpoint_fields, word_dci, drop_flags, multi_fields, think_fields, hub_fields, some_dci}
use Rattle.context_block.specs.Promises.{Holds, fields_of, Leaves, unchanged, made_if, SinglePromise, changed_reads, ChangedPromise, ChangedFlagPromise, InterfacePromise, ConfigurationPromise, ControlPacketPromise, DropFlagsPromise, slot_reads, AddressSlotPromise, HubPromise, ring_reads, AddressEndpointPromise, plain_reads, companion_reads, endpoint_reads, EndpointPromise, fields_before, BeforePromise}
use Rattle.context_block.proofs.Laws.{fields_written_append, fields_written_length, bit_fields_written, apart_from, apart_part, clear, lies_in, covered, Follow, leaves, flag_set}

pub single_promise : SinglePromise
unfolding fields_written Holds apart_from_all fields_of
single_promise block f v size in_f h =
    record {
      named = (read_back block f v size in_f h, tt);
      others =
          λ g in_g a.
          read_apart block f v size in_f g in_g (apart_part f g f (and_left (apart g f) true a) (within_self f));
    }

pub changed_promise : ChangedPromise
unfolding changed changed_reads after_field_writes read_after apart within inside all_inside clear_cut clear lies_in covered Follow
changed_promise block size = leaves block changed (changed_reads block) size refl refl refl (omega arith)

pub interface_promise : InterfacePromise
unfolding changed changed_reads after_field_writes read_after apart within inside all_inside clear_cut clear lies_in covered Follow
interface_promise block interface alternate size i a = leaves block _ _ size refl refl refl (omega arith)

pub configuration_promise : ConfigurationPromise
unfolding changed changed_reads after_field_writes read_after apart within inside all_inside clear_cut clear lies_in covered Follow
configuration_promise block value size v = leaves block _ _ size refl refl refl (omega arith)

pub address_slot_promise : AddressSlotPromise
unfolding address_slot slot_reads after_field_writes read_after apart within inside all_inside clear_cut clear lies_in covered Follow
address_slot_promise block speed route translator root_port size s r t p q = go translator.multi
  where
    go :
        (multi : Bool) →
        let t : Translator = record { slot_id = translator.slot_id; multi = multi; port = translator.port } in
        Leaves block (address_slot speed route t root_port) (slot_reads speed route t root_port)
    go true = leaves block _ _ size refl refl refl (omega arith)
    go false = leaves block _ _ size refl refl refl (omega arith)

pub hub_promise : HubPromise
unfolding hub_fields multi_fields think_fields after_field_writes read_after apart within inside all_inside clear_cut clear lies_in covered Follow
hub_promise block speed ports multi think size p t = go multi (eqb speed FULL) (eqb speed HIGH)
  where
    go :
        (m f h : Bool) →
        Leaves block
        ((HUB := 1)
        ∷ (cond m ((MTT := 1) ∷ []) (cond f ((MTT := 0) ∷ []) [])
        ++ ((NUMBER-OF-PORTS := ports) ∷ cond h ((TT-THINK-TIME := think) ∷ []) [])))
        ((HUB := 1)
        ∷ (NUMBER-OF-PORTS := ports)
        ∷ (MTT := cond m 1 (cond f 0 (read_field block MTT)))
        ∷ (TT-THINK-TIME := cond h think (read_field block TT-THINK-TIME)) ∷ [])
    go true f true = leaves block _ _ size refl refl refl (omega arith)
    go true f false = leaves block _ _ size refl refl refl (omega arith)
    go false true true = leaves block _ _ size refl refl refl (omega arith)
    go false true false = leaves block _ _ size refl refl refl (omega arith)
    go false false true = leaves block _ _ size refl refl refl (omega arith)
    go false false false = leaves block _ _ size refl refl refl (omega arith)

first_size_small : (speed : ℕ) → first_packet_size speed < 2 ^ 16
unfolding first_packet_size
first_size_small speed = go (eqb speed 1) (eqb speed 2) (eqb speed 3) (eqb speed 4) (eqb speed 5)
  where
    go : (a b c d e : Bool) → cond a 64 (cond b 8 (cond c 64 (cond d 512 (cond e 512 0)))) < 2 ^ 16
    go true b c d e = lit< tt
    go false true c d e = lit< tt
    go false false true d e = lit< tt
    go false false false true e = lit< tt
    go false false false false true = lit< tt
    go false false false false false = lit< tt

pub address_endpoint_promise : AddressEndpointPromise
unfolding address_endpoint ring_fields ring_reads after_field_writes read_after apart within inside all_inside clear_cut clear lies_in covered Follow
address_endpoint_promise block speed ring size r =
    let p = first_size_small speed in leaves block _ _ size refl refl refl (omega arith)

error_count_small : (t : TransferType) → error_count t < 4
unfolding error_count
error_count_small Control = lit< tt
error_count_small Isochronous = lit< tt
error_count_small Bulk = lit< tt
error_count_small Interrupt = lit< tt

pub endpoint_promise : EndpointPromise
unfolding endpoint_fields basic_fields ring_fields periodic_fields plain_fields companion_fields ring_reads plain_reads companion_reads endpoint_reads burst_of after_field_writes read_after apart within inside all_inside clear_cut clear lies_in covered Follow
endpoint_promise block speed w ring size r = go (is_super speed) (is_periodic e.transfer_type)
  where
    e : EndpointDescriptor
    e = endpoint_descriptor w

    burst : ℕ
    burst = burst_of speed e

    payload : ℕ
    payload = esit_payload e.max_packet_size burst

    fit :
        (xhci_interval e.interval e.transfer_type speed < 256)
        × (error_count e.transfer_type < 4)
        × (endpoint_type e.transfer_type e.address < 8)
        × (e.max_packet_size < 2 ^ 11)
        × (burst ≤ 2)
        × (payload < 65536)
        × (e.burst < 16)
        × (e.mult < 4)
        × (e.bytes_per_interval < 65536)
    fit =
        let f = fields_fit w in (
          interval_small e.interval e.transfer_type speed f.interval,
          error_count_small e.transfer_type,
          endpoint_type_small e.transfer_type e.address f.address,
          f.size,
          burst_small e.transfer_type e.packets_per_microframe speed f.packets,
          payload_small e.max_packet_size burst,
          f.burst,
          f.mult,
          f.bytes,
        )

    bytes : ℕ
    bytes = e.bytes_per_interval

    go :
        (s p : Bool) →
        Leaves block
        (basic_fields speed e
        ++ (ring_fields ring
        ++ cond s
        ((MAX-BURST-SIZE := e.burst)
        ∷ cond p ((MULT := e.mult) ∷ (MAX-ESIT-PAYLOAD-HI := 0) ∷ (AVERAGE-TRB-LENGTH := bytes) ∷ (MAX-ESIT-PAYLOAD-LO := bytes) ∷ []) [])
        (cond p (periodic_fields burst payload) [])))
        (basic_fields speed e
        ++ (ring_reads ring
        ++ cond s
        ((MAX-BURST-SIZE := e.burst)
        ∷ made_if p block MULT e.mult
        ∷ made_if p block AVERAGE-TRB-LENGTH bytes
        ∷ made_if p block MAX-ESIT-PAYLOAD-LO bytes
        ∷ unchanged block MAX-PSTREAMS
        ∷ made_if p block MAX-ESIT-PAYLOAD-HI 0 ∷ [])
        (made_if p block MAX-BURST-SIZE burst
        ∷ made_if p block MULT 0
        ∷ made_if p block AVERAGE-TRB-LENGTH payload
        ∷ made_if p block MAX-ESIT-PAYLOAD-LO payload
        ∷ unchanged block MAX-PSTREAMS
        ∷ unchanged block MAX-ESIT-PAYLOAD-HI ∷ [])))
    go true true = leaves block _ _ size refl refl refl (omega (arith, fit))
    go true false = leaves block _ _ size refl refl refl (omega (arith, fit))
    go false true = leaves block _ _ size refl refl refl (omega (arith, fit))
    go false false = leaves block _ _ size refl refl refl (omega (arith, fit))

pub before_promise : BeforePromise
unfolding endpoint_fields plain_fields fields_before
before_promise speed e ring s = rw s

flag_bit : ℕ → Bool
flag_bit d = eqb (1 / 2 ^ (d - 0) % 2) (cond (eqb d 0) 1 0)

flag_bits : all flag_bit 32 ≡ true
unfolding flag_bit
flag_bits = refl

pub changed_flag_promise : ChangedFlagPromise
unfolding changed after_field_writes read_after apart inside all_inside flag_bit
changed_flag_promise block d size h = (
  bit_fields_written (DROP-FLAG d) (lit< tt, omega arith) changed block size refl refl ∙ go (dec_lt d 2),
  bit_fields_written (ADD-FLAG d) (lit< tt, omega arith) changed block size refl refl
      ∙ rw (lt-leb 32 d h, lt-leb (d + 1) 0 (omega arith)) (eqb-true _ _ (all_below flag_bit 32 flag_bits d h)),
)
  where
    go :
        Dec (d < 2) →
        after_field_writes changed (DROP-FLAG d) (read_field block (DROP-FLAG d)) ≡ cond (ltb d 2) (read_field block (DROP-FLAG d)) 0
    go (yes l) = rw (lt-leb 32 d h, le-leb (d + 1) 2 (omega arith), lt-ltb d 2 l)
    go (no l) = rw (lt-leb 32 d h, lt-leb (d + 1) 2 (omega arith), le-ltb d 2 (omega arith), zero-div, zero-mod)

-- both tests of an add flag: it is control's or, before that, the slot's
added_bit : ℕ → Bool
added_bit d = eqb (cond (eqb 1 d) 1 (cond (eqb d 0) 1 0)) (cond (ltb d 2) 1 0)

added_bits : all added_bit 32 ≡ true
unfolding added_bit
added_bits = refl

pub control_packet_promise : ControlPacketPromise
unfolding fields_written added_bit
control_packet_promise block d size h =
    rw (fields_written_append changed)
    (flag_set (fields_written changed block) 1 1 d (fields_written_length changed block ∙ size) (lit< tt) (lit< tt) h
    ∙ rw (changed_flag_promise block d size h).1 (eqb-true _ _ (all_below added_bit 32 added_bits d h)))

word_small : (w : ℕ) → word_dci w < 32
unfolding word_dci
word_small w = dci_small (endpoint_descriptor w).address (fields_fit w).address

flags_set :
    (ws block : List ℕ) →
    length block ≡ 32 →
    (d : ℕ) →
    d < 32 →
    read_field (fields_written (drop_flags ws) block) (DROP-FLAG d) ≡ cond (some_dci d ws) 1 (read_field block (DROP-FLAG d))
unfolding fields_written drop_flags some_dci
flags_set [] block size d h = refl
flags_set (w ∷ ws) block size d h =
    flags_set ws (write_field block (DROP-FLAG (word_dci w)) 1) (length_write_field block (DROP-FLAG (word_dci w)) 1 ∙ size) d h
    ∙ rw (flag_set block 0 (word_dci w) d size (lit< tt) (word_small w) h) (cond_or (eqb (word_dci w) d) (some_dci d ws) 1 (read_field block (DROP-FLAG d)))

flags_others :
    (ws block : List ℕ) →
    length block ≡ 32 →
    (g : Field) →
    InBlock g →
    g.word ≢ 0 →
    read_field (fields_written (drop_flags ws) block) g ≡ read_field block g
unfolding fields_written drop_flags
flags_others [] block size g in_g n = refl
flags_others (w ∷ ws) block size g in_g n =
    let f = DROP-FLAG (word_dci w) in
    let e : word_dci w < 32 = word_small w in
    flags_others ws (write_field block f 1) (length_write_field block f 1 ∙ size) g in_g n
    ∙ read_apart block f 1 size (lit< tt, omega arith) g in_g (apart_from f g (inl (λ e. n (sym e))))

pub drop_flags_promise : DropFlagsPromise
drop_flags_promise block ws size = (flags_set ws block size, flags_others ws block size)
