-- What 19 leaves: exactly what 16 leaves, a header of another length in its place.
use Rattle.std.specs.Prelude.{ℕ, ◌≡◌, cond, false, List, eqb, length}
use Rattle.def.specs.Speed.{exponent_ok}
use Rattle.answer.specs.Answer.{number}
use Rattle.course_init.specs.Reading.{BringUp}
use Rattle.device.specs.Left.{Left}
use Rattle.device_bring_up.specs.BringUp.{bring_up}
use Rattle.theorem_checks.specs.Checks.{AllHold, bring_up_conditions}

-- The same bring-up of a device whose header has another number of bytes.
unfoldable pub with_header : ℕ → BringUp → BringUp
with_header header a = record a { header = header }

-- Record, count, context, routes and log are the same; so is the answer, but for 19 in 16's place.
pub record LeavesAs (l short : Left) : Type 0 where
  pub device : l.device ≡ short.device
  pub count : l.count ≡ short.count
  pub ctx : l.ctx ≡ short.ctx
  pub routes : l.routes ≡ short.routes
  pub log : l.log ≡ short.log
  pub answer : number l.answer ≡ cond (eqb (number short.answer) 16) 19 (number short.answer)

-- Of a bring-up of which all that its checks ask holds, whatever the outcomes: with a header of eight bytes that says a size of no such device, and with a header of
-- another length.
abbrev pub ExponentLeaves : Type 0
ExponentLeaves =
    (a : BringUp) (short : ℕ) (ctx routes log outcomes : List ℕ) →
    AllHold (bring_up_conditions a (length ctx) routes (length log)) →
    a.header ≡ 8 →
    exponent_ok a.speed a.packet ≡ false →
    (short ≡ 8 → ⊥) →
    LeavesAs (bring_up a ctx routes log outcomes) (bring_up (with_header short a) ctx routes log outcomes)
