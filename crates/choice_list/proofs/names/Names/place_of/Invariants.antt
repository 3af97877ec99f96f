use lib.ListN.{take}
use Rattle.choice_list.proofs.Once.{Seeking}
use Rattle.choice_list.proofs.names.Names.place_of.Given as goal

abbrev pub invariant-loop-i : goal.invariant-loop-i
invariant-loop-i l = Seeking (take l.self.count l.self.names) l.picks l.self.count l.name l.i
