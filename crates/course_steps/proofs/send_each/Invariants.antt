use Rattle.std.proofs.Common.{◌≡◌, List, ℕ, ◌+◌, length, drop}
use Rattle.command.specs.Course.{played}
use Rattle.course_steps.specs.Each.{Gives, send_from}
use Rattle.command.specs.declared.Command.{Command}
use Rattle.course_steps.proofs.send_each.Given as goal

abbrev pub invariant-loop-done : goal.invariant-loop-done
invariant-loop-done g l =
    (length l.log ≡ length l.initial.log)
    × ((of : ℕ → Command) (ctx : List ℕ) → Gives (goal.F-post g l.command) of →
    played l.outcomes l.n (send_from of ctx 0 l.dcis) l.initial.log
    ≡ played l.outcomes (l.n + l.done) (send_from of ctx l.done (drop l.done l.dcis)) l.log)
