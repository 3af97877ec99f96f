use Rattle.std.proofs.Common.{◌≡◌, ℕ, drop}
use Rattle.context_block.specs.Blocks.{drop_flags}
use Rattle.context.specs.Place.{CONTROL, in_block, written}
use Rattle.context_writer.proofs.configure.drop_endpoints.Given as goal

abbrev pub invariant-loop-w : goal.invariant-loop-w
invariant-loop-w l =
    (s : ℕ) → written s (in_block CONTROL (drop_flags l.words)) l.initial.ctx ≡ written s (in_block CONTROL (drop_flags (drop l.w-index l.words))) l.ctx
