use Rattle.std.proofs.Common.{◌≡◌, List, ℕ, ◌+◌, length, drop}
use Rattle.command.specs.Course.{played}
use Rattle.command.specs.Sweep.{stop_each}
use Rattle.course_disconnect.proofs.stop_each.Given as goal

abbrev pub invariant-loop-i : goal.invariant-loop-i
invariant-loop-i l =
    (length l.log ≡ length l.initial.log)
    × ((ctx : List ℕ) → played l.outcomes l.n (stop_each ctx l.dcis) l.initial.log
    ≡ played l.outcomes (l.n + l.i) (stop_each ctx (drop l.i l.dcis)) l.log)
