use lib.ListN.{take}
use Rattle.choice_search.specs.Search.{turned}
use Rattle.choice_list.specs.Choice.{alternate_at}
use Rattle.choice_list.specs.Tried.{place_of}
use Rattle.choice_list.proofs.Filled.{Filling}
use Rattle.choice_list.proofs.chosen.joined_alternates.Given as goal

abbrev pub invariant-loop-j : goal.invariant-loop-j
invariant-loop-j l =
    Filling (λ x. alternate_at l.list (place_of (take l.once.count l.once.names) (turned l.picks l.once.count) x)) l.names l.alternates l.j
