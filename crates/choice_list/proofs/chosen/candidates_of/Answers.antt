use Rattle.choice_list.proofs.chosen.candidates_of.Goals as goal

pub returns : goal.returns
returns c = rw c.join-count.ensures.1 at c.all_candidates.ensures
