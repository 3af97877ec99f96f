use Rattle.descriptor_list.proofs.Behind.{Behind}
use Rattle.descriptor_list.proofs.words_fit.Given as goal

abbrev pub invariant-loop-i : goal.invariant-loop-i
invariant-loop-i l = Behind l.list l.marks l.count l.run l.i
