use Rattle.std.proofs.Common.{length}
use Rattle.choice_search.specs.Search.{grouped}
use Rattle.choice_search.proofs.Steps.{Searching, Remembered}
use Rattle.choice_search.proofs.+pick_from.Given as goal

abbrev pub decreases-pick_from : goal.decreases-pick_from
decreases-pick_from l = length l.counts.now

abbrev pub invariant-loop-c : goal.invariant-loop-c
invariant-loop-c l =
    record {
      searching : Searching (grouped l.rest l.others) l.c-items l.taken l.c-index l.blame;
      remembered : Remembered (grouped l.rest l.others) l.blames;
    }
