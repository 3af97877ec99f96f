use mathlib.Core.Path.{◌≡◌}
use Prim.Native.Nat.{ℕ}
use lib.ListN.{length}
use Rattle.context_block.specs.Blocks.{drop_flags}
use Rattle.context.specs.Place.{CONTROL, in_block, written}
use Rattle.descriptor_list.specs.Companions.{joined}
use Rattle.record_settings.specs.Held.{held_by, held_words}
use Rattle.course_set_configuration.proofs.Steps.{words_from}
use Rattle.course_set_configuration.proofs.held.prepare_drop.Given as goal

abbrev pub invariant-loop-i : goal.invariant-loop-i
invariant-loop-i l =
    (length l.ctx ≡ length l.initial.ctx) × ((s : ℕ) → written s (in_block CONTROL (drop_flags (held_words (joined l.list) (held_by l.a.held)))) l.initial.ctx ≡ written s (in_block CONTROL (drop_flags (words_from (joined l.list) l.a.held.interfaces l.a.held.alternates l.a.held.count l.i))) l.ctx)
