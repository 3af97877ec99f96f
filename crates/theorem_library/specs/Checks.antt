-- What the checks of the exported functions ask: of a buffer that holds a record, what the call asks of that record.
use Rattle.std.specs.Prelude.{◌≤◌, ◌≡◌, ◌↔◌, true, false, List}
use Rattle.answer.specs.declared.Answer.{Answer}
use Rattle.answer.specs.Answer.{number}
use Rattle.device_image.specs.Image.{decode}
use Rattle.theorem_checks.specs.Checks.{Condition, AllHold, FirstFails, conditions}
use Rattle.theorem_library.specs.Library.{Exchange, reads, Meets}

abbrev pub asked_of : Exchange → List Condition
asked_of e = conditions e.call.asked e.call.buffers (decode e.image) e.table

-- It returns a count of 1 or more exactly if all holds, and else 0 with the number of the first that does not; where the buffer holds no
-- record, 12 and 0.
pub record CheckedAcross (e : Exchange) : Type 0 where
  pub passes : reads e.call.asked e.image ≡ true → AllHold (asked_of e) ↔ (1 ≤ e.crossed.answered.count)
  pub refuses :
      reads e.call.asked e.image ≡ true → (a : Answer) → FirstFails (asked_of e) a →
      (e.crossed.answered.answer ≡ number a) × (e.crossed.answered.count ≡ 0)
  pub no_record : reads e.call.asked e.image ≡ false → (e.crossed.answered.answer ≡ 12) × (e.crossed.answered.count ≡ 0)

abbrev pub LibraryChecks : Type 0
LibraryChecks = (e : Exchange) → Meets e → CheckedAcross e
