-- The course of an unplugging after its checks: `_disconnect` of the original.
use Rattle.std.specs.Prelude.{ℕ, Bool, true, false, cond, List, ◌∷◌, Result, Ok, Err}
use Rattle.answer.specs.declared.Answer.TheVariants as answer
use Rattle.command.specs.declared.Command.TheVariants as command
use Rattle.command.specs.Course.{Course, ends, sends, on_sent, then, Played}
use Rattle.command.specs.Sweep.{stop_each}
use Rattle.transfer.specs.Routes.{without_slot}
use Rattle.course_steps.specs.End.{End, settings_kept, settings_moved}

-- Disable decides: done, no route of the slot is left; failed, the call is broken.
unfoldable pub disable : ℕ → List ℕ → List ℕ → Course End
disable slot ctx routes =
    sends command.Disable ctx
    (λ s.
    ends
    (on_sent s
    (settings_moved answer.Accepted ctx (without_slot routes slot))
    (λ code. settings_kept answer.InterfaceBroken 0 ctx routes)
    (settings_kept answer.Cut 0 ctx routes)))

-- Control, Dci 1, is stopped, then the endpoints in order, past failures; then the slot is disabled.
unfoldable pub disconnect_course : ℕ → List ℕ → List ℕ → List ℕ → Course End
disconnect_course slot dcis ctx routes =
    then (stop_each ctx (1 ∷ dcis)) (λ cut. cond cut (ends (settings_kept answer.Cut 0 ctx routes)) (disable slot ctx routes))

-- What stopping leaves, as its code says it: the words of the log, an error where it was cut.
abbrev pub stops_leave : Result ℕ ℕ → List ℕ → Played Bool
stops_leave (Ok n) log = record { end = false; count = n; log = log }
stops_leave (Err n) log = record { end = true; count = n; log = log }
