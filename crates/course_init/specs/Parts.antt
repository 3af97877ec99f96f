-- What the parts of the code leave: a part reads of the device with the log alone, and where it ends the bring-up, says how.
use Rattle.std.specs.Prelude.{ℕ, cond, List, eqb, length, Result, Ok, Err}
use Rattle.answer.specs.declared.Answer.TheVariants as answer
use Rattle.command.specs.Course.{Course, ends, Played}
use Rattle.course_init.specs.Reading.{BringUp, read_up_to, Brought, brought, leaves_read}
use Rattle.course_init.specs.Init.{bring_up_configs}
use Rattle.course_init.specs.declared.run.InitEnd.{InitEnd}

-- The course goes on from what the part read; else it has ended.
unfoldable pub or_ended : {A : Type 0} → Result A InitEnd → List ℕ → List ℕ → List ℕ → List ℕ → (A → Played Brought) → Played Brought
or_ended (Ok x) list ctx routes log next = next x
or_ended (Err e) list ctx routes log next = leaves_read e list ctx routes log

-- What `bring_up_device` goes on with, k configurations to be read from index i on; a device without configurations is brought up.
unfoldable pub bring_up_left : BringUp → ℕ → ℕ → ℕ → List ℕ → List ℕ → Course Brought
bring_up_left a spacing k i ctx routes =
    cond (eqb (length a.list) 0)
    (ends (brought answer.Accepted (read_up_to a 0) ctx routes))
    (bring_up_configs a spacing k i ctx routes)
