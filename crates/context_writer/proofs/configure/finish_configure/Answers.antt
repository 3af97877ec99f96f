use native.Mathlib.Nat.{add-sub_cancel_left}
use Rattle.context_block.specs.FieldWrite.{fields_written}
use Rattle.context.specs.Place.{on_part}
use Rattle.context.proofs.Laws.{written_slot}
use Rattle.context_writer.proofs.configure.finish_configure.Goals as goal

pub returns : goal.returns
unfolding on_part fields_written
returns c = rw (written_slot, c.put_field.ensures, add-sub_cancel_left)
