use native.Mathlib.Omega.{arith}
use Rattle.descriptor.specs.Word.{type_number}
use Rattle.descriptor_raw.specs.Write.{word_packets}
use Rattle.descriptor_writer.proofs.Placed.{packet_small}
use Rattle.descriptor_writer.proofs.made.endpoint_of.Goals as goal

pub overflow_mul-packet : goal.overflow_mul-packet
overflow_mul-packet c = omega (arith, (packet_small _ _ c.endpoint_descriptor-e.ensures).1)

pub overflow_add-packet : goal.overflow_add-packet
overflow_add-packet c = omega (arith, (packet_small _ _ c.endpoint_descriptor-e.ensures).0, (packet_small _ _ c.endpoint_descriptor-e.ensures).1)

pub returns : goal.returns
unfolding word_packets type_number
returns c = rw (c.endpoint_bytes.ensures, c.endpoint_descriptor-e.ensures)
