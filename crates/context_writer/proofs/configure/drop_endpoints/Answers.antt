use Rattle.std.proofs.Common.{sym, ◌∙◌, arith}
use lib.ListN.{drop_of_length-le}
use Rattle.context_block.specs.Blocks.{drop_flags}
use Rattle.context.specs.Place.{in_block, written}
use Rattle.context_writer.proofs.Laws.{drop_next}
use Rattle.context_writer.proofs.configure.drop_endpoints.Goals as goal

pub loop-w-preserved : goal.loop-w-preserved
loop-w-preserved c = λ s. c.loop-w.invariant s ∙ drop_next s _ _ _ _ _ c.loop-w-test.true (omega (arith, c.loop-w.auto.ctx, c.requires)) c.word_dci-dci.ensures.0 c.word_dci-dci.ensures.1 (c.put_field.ensures ∙ rw c.drop_flag.ensures)

pub returns : goal.returns
unfolding drop_flags in_block written
returns c = λ s. sym (c.loop-w.invariant s ∙ rw (drop_of_length-le c.args.words.now {i = c.loop-w.w-index} c.loop-w-test.false))
