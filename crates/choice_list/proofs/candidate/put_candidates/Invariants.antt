use Rattle.choice_list.proofs.Listed.{Listing}
use Rattle.choice_list.proofs.candidate.put_candidates.Given as goal

abbrev pub invariant-loop-place : goal.invariant-loop-place
invariant-loop-place l = Listing l.list l.speed l.longest l.interface l.fn.all l.from l.all l.count l.place l.place-end
