use native.Mathlib.Omega.{arith}
use native.Mathlib.Nat.{add-sub_cancel_left}
use lib.Seq.{drop-drop}
use Rattle.context_field.specs.Field.{with_bits, write_field}
use Rattle.context_field.proofs.Laws.{bits_below, word_pasted}
use Rattle.context_field.proofs.put_field.Goals as goal

pub overflow_cast-x : goal.overflow_cast-x
overflow_cast-x c = omega (arith, bits_below _ _ _ c.args.value _ _ _ c.requires.1.1 c.word_at-d.ensures.1 c.power-end.ensures.0 c.power-scale.ensures.0 c.power-span.ensures.0)

pub returns : goal.returns
unfolding write_field with_bits
returns c = rw (c.copy_from_slice.ensures.after, c.to_le_bytes.ensures, word_pasted c.args.block.now c.args.f.word _ (omega arith), ← c.word_at-d.ensures.0, ← c.power-end.ensures.0, ← c.power-scale.ensures.0, ← c.power-span.ensures.0, add-sub_cancel_left, drop-drop)
