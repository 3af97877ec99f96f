use mathlib.Core.Path.{refl}
use native.Mathlib.Nat.{add-sub_cancel_left}
use native.Mathlib.Omega.{arith}
use Rattle.context_block.specs.FieldWrite.{fields_written, inside, all_inside}
use Rattle.context_block.specs.Blocks.{changed}
use Rattle.context.specs.Place.{on_part}
use Rattle.context.specs.Steps.{max_packet_writes}
use Rattle.context.proofs.Laws.{written_append, written_block}
use Rattle.context_block_writer.proofs.Laws.{control_written}
use Rattle.context_writer.proofs.address.setup_max_packet.Goals as goal

pub returns : goal.returns
unfolding max_packet_writes on_part changed fields_written inside all_inside
returns c =
    rw (
      written_append,
      control_written c.args.spacing _ c.args.ctx.now (omega arith) refl,
      written_block,
      c.put_field-2.ensures,
      c.put_field.ensures,
      c.add_flag.ensures,
      c.perper_change.ensures,
      c.header_packet_size-size.ensures,
      add-sub_cancel_left,
    )
