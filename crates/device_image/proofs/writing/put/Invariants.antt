use Prim.Native.Nat.{ℕ, ◌+◌, ◌≤◌}
use mathlib.Core.Path.{◌≡◌}
use mathlib.Core.List.{map}
use lib.ListN.{length}
use lib.Seq.{sets}
use Rattle.device_image.proofs.Steps.{rest}
use Rattle.device_image.proofs.writing.put.Given as goal

abbrev pub invariant-loop-i : goal.invariant-loop-i
invariant-loop-i g l =
    goal.F-IsAlwaysCallable g l.word
    × (l.from + length l.elements ≤ length l.image)
    × ((said : g.row.T.Denot → ℕ) → ((x : g.row.T.Denot) (w : ℕ) → goal.F-post g l.word x w → w ≡ said x) → sets l.initial.image l.from (map said l.elements) ≡ rest l.from (map said l.elements) l.i l.image)
