use mathlib.Core.Path.{◌≡◌}
use lib.ListN.{length}
use Rattle.descriptor_raw.specs.Read.{descriptors, all_borne_out}
use Rattle.descriptor_reader.proofs.claims.all_borne_out.Given as goal

abbrev pub invariant-loop-d : goal.invariant-loop-d
invariant-loop-d l = all_borne_out (descriptors l.after.bytes.now) ≡ all_borne_out (descriptors l.all.bytes.now)

abbrev pub decreases-loop-d : goal.decreases-loop-d
decreases-loop-d l = length l.after.bytes.now
