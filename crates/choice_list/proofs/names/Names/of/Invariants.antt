use Rattle.choice_list.proofs.Once.{Naming}
use Rattle.choice_list.proofs.names.Names.of.Given as goal

abbrev pub invariant-loop-name : goal.invariant-loop-name
invariant-loop-name l = Naming l.names l.once l.count l.name-index
