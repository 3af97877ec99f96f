-- The calls on a record. Each refuses, or runs its course and returns the record that the end of the course makes.
use Rattle.std.specs.Prelude.{ℕ, Bool, List, length, Ok, Err}
use Rattle.answer.specs.declared.Answer.{Answer}
use Rattle.answer.specs.Check.{Check}
use Rattle.command.specs.declared.Command.TheVariants as command
use Rattle.command.specs.Course.{Course, ends, sends, Played, played}
use Rattle.hub.specs.ThinkTime.{think_time}
use Rattle.context.specs.Place.{written}
use Rattle.context.specs.Steps.{hub_writes}
use Rattle.record_checks.specs.Think.{think_value}
use Rattle.course_steps.specs.End.{answer_of}
use Rattle.device.specs.declared.record.Device.{Device}
use Rattle.device.specs.Left.{Left, refused, marked}
use Rattle.device.specs.Check.{record_check, hub_check}

unfoldable pub on_check : Check → Left → (Answer → Left) → Left
on_check (Ok _) next refuse = next
on_check (Err a) next refuse = refuse a

-- Hub update: one Evaluate with the hub's slot fields.
unfoldable pub hub_context : Device → ℕ → Bool → ℕ → List ℕ → List ℕ
hub_context d ports multi ns ctx =
    written d.spacing (hub_writes d.port_speed ports multi (think_value (think_time ns))) ctx

unfoldable pub hub_course : List ℕ → Course Answer
hub_course ctx = sends command.Evaluate ctx (λ s. ends (answer_of s))

unfoldable pub hub_left : Device → List ℕ → List ℕ → Played Answer → Left
hub_left d ctx routes p =
    record { device = marked p.end d; answer = p.end; count = p.count; ctx = ctx; routes = routes; log = p.log }

unfoldable pub hub_update : Device → List ℕ → List ℕ → List ℕ → List ℕ → ℕ → Bool → ℕ → Left
hub_update d ctx routes log outcomes ports multi ns =
    on_check (record_check d (length ctx) (length routes) (length log) (hub_check d ns))
    (hub_left d (hub_context d ports multi ns ctx) routes (played outcomes 0 (hub_course (hub_context d ports multi ns ctx)) log))
    (λ a. refused d a ctx routes log)
