use Rattle.choice_list.proofs.Grouped.{Gathering}
use Rattle.choice_list.proofs.chosen.all_candidates.Given as goal

abbrev pub invariant-loop-i : goal.invariant-loop-i
invariant-loop-i l = Gathering l.list l.speed l.longest l.names l.all l.counts l.i l.end
