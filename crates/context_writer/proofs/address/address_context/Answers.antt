use Rattle.std.proofs.Common.{◌≡◌, refl, arith, rules, length, replicate}
use native.Mathlib.Nat.{add-sub_cancel_left}
use lib.ListN.{length-replicate}
use Rattle.context_block.specs.FieldWrite.{fields_written, inside, all_inside}
use Rattle.context.specs.Place.{on_part}
use Rattle.context.specs.Steps.{address_context, address_writes}
use Rattle.context.proofs.Laws.{written_append, written_slot, written_block}
use Rattle.context_block_writer.proofs.Laws.{control_written}
use Rattle.context_writer.proofs.address.address_context.Goals as goal

pub returns : goal.returns
unfolding address_context address_writes on_part fields_written inside all_inside
returns c =
    rw (
      written_append,
      written_append,
      control_written c.args.spacing _ (replicate (length c.args.ctx.now) 0)
          (simp length-replicate (omega arith)) refl,
      written_slot,
      written_block,
      c.address_endpoint.ensures,
      c.address_slot.ensures,
      c.put_field.ensures,
      (let it : c.fill.new.self ≡ replicate (length c.args.ctx.now) 0 = search rules in it),
    ) (simp add-sub_cancel_left)
