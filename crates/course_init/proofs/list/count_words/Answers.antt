use native.Mathlib.Omega.{arith}
use mathlib.Core.Path.{sym, ◌∙◌}
use Rattle.descriptor.proofs.Kind.{kind_equal}
use Rattle.course_init.proofs.Lists.{counted_other, counted_more, counted_end, counted_enough}
use Rattle.course_init.proofs.list.count_words.Goals.{then-eq+else-left-eq0, else-eq}
use Rattle.course_init.proofs.list.count_words.Goals as goal

pub returns-then-left-eq0 : goal.returns-then-left-eq0
returns-then-left-eq0 c =
    let k = kind_equal _ _ c.word_kind.ensures _ _ c.eq.ensures in
    (c.loop-i.invariant.inside, counted_enough _ _ _ _ c.loop-i.invariant c.loop-i-test.true (sym k ∙ c.if-eq.true) c.if-left-eq0.true)

pub loop-i-preserved : goal.loop-i-preserved
loop-i-preserved c =
    let k = kind_equal _ _ c.word_kind.ensures _ _ c.eq.ensures in
    elim c.if-eq.branch [
      | then-eq+else-left-eq0 w ↦ rw w.left-is (counted_more _ _ _ _ c.loop-i-test.true c.loop-i.invariant (sym k ∙ w.if-eq.true) (omega (arith, w.if-left-eq0.false)))
      | else-eq w ↦ rw w.left-is (counted_other _ _ _ _ c.loop-i-test.true c.loop-i.invariant (sym k ∙ w.if-eq.false))
    ]

pub returns : goal.returns
returns c = (omega arith, counted_end _ _ _ _ c.loop-i.invariant c.loop-i-test.false)
