use mathlib.Core.Path.{refl}
use native.Mathlib.Omega.{arith}
use Rattle.descriptor_raw.specs.Read.{read_words}
use Rattle.descriptor_reader.proofs.Gather.{gathered_all, gathered_nothing, gathered_word, gathered_many}
use Rattle.descriptor_reader.proofs.words.gather.Goals as goal

pub loop-d-init : goal.loop-d-init
unfolding read_words
loop-d-init c = rw c.into_iter-d-iterator.ensures.into_iter_gives (record { room = omega arith; long = c.requires; same = refl; words = refl })

pub returns-then-count-eq-READ_WORDS : goal.returns-then-count-eq-READ_WORDS
returns-then-count-eq-READ_WORDS c =
    gathered_many _ _ _ _ _ _ c.loop-d.invariant _ _ c.in-Some.ensures.steps _ c.word_of.ensures _ c.in-Some-word_of.is c.if-count-eq-READ_WORDS.true

pub loop-d-preserved-in-Some-word_of : goal.loop-d-preserved-in-Some-word_of
loop-d-preserved-in-Some-word_of c =
    gathered_word _ _ _ _ _ _ c.loop-d.invariant _ _ c.in-Some.ensures.steps _ c.word_of.ensures _ c.in-Some-word_of.is (omega (arith, c.loop-d.invariant.room))
    _ c.settled_word.ensures

pub loop-d-preserved : goal.loop-d-preserved
loop-d-preserved c = gathered_nothing _ _ _ _ _ _ c.loop-d.invariant _ _ c.in-Some.ensures.steps _ c.word_of.ensures c.in_default.is

pub returns : goal.returns
returns c = gathered_all _ _ _ _ _ _ c.loop-d.invariant c.in-None.ensures.steps
