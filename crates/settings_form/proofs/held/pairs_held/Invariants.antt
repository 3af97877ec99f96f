use Prim.Native.Nat.{◌≤◌}
use mathlib.Core.Path.{◌≡◌}
use lib.ListN.{length}
use Rattle.settings_form.specs.Held.{pairs_held}
use Rattle.settings_form.proofs.held.pairs_held.Given as goal

abbrev pub invariant-loop-left : goal.invariant-loop-left
invariant-loop-left l =
    record {
      small : l.least ≤ 256;
      rest : pairs_held l.least l.words l.left ≡ pairs_held 0 l.words l.pairs;
    }

abbrev pub decreases-loop-left : goal.decreases-loop-left
decreases-loop-left l = length l.left
