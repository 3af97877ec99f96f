use Prim.Native.Nat.{ℕ, ◌/◌, ◌^◌}
use mathlib.Core.Path.{◌≡◌, ap, ◌∙◌}
use mathlib.Core.List.{List}
use native.Mathlib.Omega.{arith}
use Rattle.context_field.specs.Field.{write_field}
use Rattle.context_field.proofs.Laws.{write_words}
use Rattle.context_block.specs.Fields.{DCS, TR-DEQUEUE-POINTER-LO, TR-DEQUEUE-POINTER-HI, AVERAGE-TRB-LENGTH}
use Rattle.context_block.specs.FieldWrite.{fields_written}
use Rattle.context_block.specs.Blocks.{ring_fields, address_endpoint}
use Rattle.context_block_writer.proofs.endpoint.address_endpoint.Goals as goal

-- The average length may be written before the ring.
average_first :
    (b : List ℕ) (ring : ℕ) →
    write_field (fields_written (ring_fields ring) b) AVERAGE-TRB-LENGTH 8
    ≡ fields_written (ring_fields ring) (write_field b AVERAGE-TRB-LENGTH 8)
unfolding fields_written ring_fields
average_first b ring =
    let lo = write_field b TR-DEQUEUE-POINTER-LO (ring / 2 ^ 4) in
    let hi = write_field lo TR-DEQUEUE-POINTER-HI (ring / 2 ^ 32) in
    write_words hi DCS AVERAGE-TRB-LENGTH 1 8 (omega arith)
    ∙ ap (λ (l : List ℕ). write_field l DCS 1)
    (write_words lo TR-DEQUEUE-POINTER-HI AVERAGE-TRB-LENGTH (ring / 2 ^ 32) 8 (omega arith)
    ∙ ap (λ (l : List ℕ). write_field l TR-DEQUEUE-POINTER-HI (ring / 2 ^ 32))
    (write_words b TR-DEQUEUE-POINTER-LO AVERAGE-TRB-LENGTH (ring / 2 ^ 4) 8 (omega arith)))

pub returns : goal.returns
unfolding fields_written address_endpoint
returns c =
    c.put_field.ensures ∙ rw (
      c.put_common.ensures,
      c.parse_default_max_packet_size_from_port_speed-first_size.ensures,
    ) (average_first _ c.args.ring)
