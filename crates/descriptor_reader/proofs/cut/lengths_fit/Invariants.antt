use mathlib.Core.Path.{◌≡◌}
use lib.ListN.{length}
use Rattle.descriptor_raw.specs.Read.{descriptors, all_whole}
use Rattle.descriptor_reader.proofs.cut.lengths_fit.Given as goal

abbrev pub invariant-loop-rest : goal.invariant-loop-rest
invariant-loop-rest l = all_whole l.companions (descriptors l.rest) ≡ all_whole l.companions (descriptors l.bytes)

abbrev pub decreases-loop-rest : goal.decreases-loop-rest
decreases-loop-rest l = length l.rest
