use Rattle.course_init.proofs.Lists.{Counted}
use Rattle.course_init.proofs.list.count_words.Given as goal

abbrev pub invariant-loop-i : goal.invariant-loop-i
invariant-loop-i l = Counted l.list l.k l.left l.i
