use Rattle.context_block.proofs.Flags.{no_flags, flag_next}
use Rattle.context_block.proofs.word_flags.Goals as goal

pub loop-w-init : goal.loop-w-init
loop-w-init c = no_flags

pub loop-w-preserved : goal.loop-w-preserved
loop-w-preserved c = flag_next _ _ _ _ c.loop-w-test.true c.word_dci.ensures.0 c.word_dci.ensures.1 c.loop-w.invariant
