use lib.ListN.{length}
use Rattle.descriptor_writer.proofs.Placed.{Putting}
use Rattle.descriptor_writer.proofs.put.put_all.Given as goal

abbrev pub invariant-loop-w : goal.invariant-loop-w
invariant-loop-w l = Putting l.list l.initial.bytes l.words l.bytes l.at

abbrev pub decreases-loop-w : goal.decreases-loop-w
decreases-loop-w l = length l.words
