use Rattle.std.proofs.Common.{◌≡◌, take}
use Rattle.context_block.specs.Flags.{flags_of}
use Rattle.context_block.proofs.word_flags.Given as goal

abbrev pub invariant-loop-w : goal.invariant-loop-w
invariant-loop-w l = l.flags ≡ flags_of (take l.w-index l.words)
