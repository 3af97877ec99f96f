use mathlib.Core.Path.{refl}
use native.Mathlib.Nat.{add-sub_cancel_left}
use native.Mathlib.Omega.{arith}
use Rattle.context_block.specs.FieldWrite.{inside, all_inside}
use Rattle.context_block.specs.Blocks.{changed}
use Rattle.context.specs.Place.{on_part}
use Rattle.context.specs.Steps.{hub_writes}
use Rattle.context.proofs.Laws.{written_append, written_slot}
use Rattle.context_block_writer.proofs.Laws.{control_written}
use Rattle.context_writer.proofs.evaluate.hub_context.Goals as goal

pub returns : goal.returns
unfolding hub_writes on_part changed inside all_inside
returns c =
    rw (
      written_append,
      control_written c.args.spacing changed c.args.ctx.now (omega arith) refl,
      written_slot,
      c.hub_slot.ensures,
      c.perper_change.ensures,
      add-sub_cancel_left,
    )
