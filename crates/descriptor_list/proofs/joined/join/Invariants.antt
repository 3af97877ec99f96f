use Rattle.descriptor_list.proofs.Joins.{Joining}
use Rattle.descriptor_list.proofs.joined.join.Given as goal

abbrev pub invariant-loop-i : goal.invariant-loop-i
invariant-loop-i l = Joining l.list l.words l.count l.i
