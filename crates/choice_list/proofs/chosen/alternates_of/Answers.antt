use Rattle.choice_list.proofs.chosen.alternates_of.Goals as goal

pub returns : goal.returns
returns c = rw c.join-count.ensures.1 at c.joined_alternates.ensures
