use Prim.Native.Nat.{ℕ, ◌≤◌, ◌-◌, ◌+◌}
use mathlib.Core.List.{List}
use mathlib.Core.Path.{◌≡◌}
use lib.ListN.{length}
use Rattle.command.specs.Course.{played}
use Rattle.course_init.specs.Reading.{bring_up_of}
use Rattle.course_init.specs.Parts.{bring_up_left}
use Rattle.course_init.proofs.run.read_descriptors.Given as goal

abbrev pub invariant-loop-i : goal.invariant-loop-i
invariant-loop-i l =
    (l.i ≤ l.all)
    × (l.all ≤ 8)
    × (length l.log ≡ length l.initial.log)
    × ((rings hubs ctx routes : List ℕ) (spacing : ℕ) →
    let a = bring_up_of l.a rings hubs l.list in
    played l.outcomes 5 (bring_up_left a spacing l.all 0 ctx routes) l.initial.log
    ≡ played l.outcomes (5 + l.i) (bring_up_left a spacing (l.all - l.i) l.i ctx routes) l.log)
