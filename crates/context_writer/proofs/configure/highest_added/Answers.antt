use Rattle.std.proofs.Common.{sym, ◌∙◌, arith}
use Rattle.context.specs.Steps.{word_dcis}
use Rattle.context.proofs.Steps.{highest_next, highest_done, word_dcis_length, word_dcis_at}
use Rattle.context_writer.proofs.configure.highest_added.Goals as goal

pub loop-w-preserved : goal.loop-w-preserved
loop-w-preserved c =
    let ws = c.args.words.now in
    rw c.max-highest.ensures (
      omega (arith, c.loop-w.invariant.0),
      c.loop-w.invariant.1 ∙ highest_next (word_dcis ws) c.loop-w.w-index c.loop-w.highest _ (omega (arith, word_dcis_length ws))
          (rw (word_dcis_at ws c.loop-w.w-index c.loop-w-test.true, ← c.word_dci.ensures.0)),
    )

pub returns : goal.returns
returns c =
    sym (c.loop-w.invariant.1 ∙ highest_done (word_dcis c.args.words.now) c.loop-w.w-index c.loop-w.highest
    (omega (arith, word_dcis_length c.args.words.now)) c.loop-w.invariant.0)
