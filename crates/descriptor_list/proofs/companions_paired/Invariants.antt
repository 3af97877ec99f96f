use mathlib.Core.Path.{◌≡◌}
use lib.ListN.{drop}
use Rattle.descriptor_list.specs.Companions.{paired_after, paired}
use Rattle.descriptor_list.proofs.companions_paired.Given as goal

abbrev pub invariant-loop-w : goal.invariant-loop-w
invariant-loop-w l = paired l.list ≡ paired_after l.last (drop l.w-index l.list)
