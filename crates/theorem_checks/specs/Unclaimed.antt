-- The release of an interface that is not claimed: 02, item 10.
use Rattle.std.specs.Prelude.{ℕ, ◌≤◌, ◌≡◌, ◌↔◌, true, List, length}
use Rattle.answer.specs.declared.Answer.TheVariants as answer
use Rattle.answer.specs.Answer.{number}
use Rattle.device.specs.declared.record.Device.{Device}
use Rattle.device.specs.Left.{Left, refused}
use Rattle.device.specs.Release.{release}
use Rattle.theorem_slot.specs.Call.{Buffers}
use Rattle.theorem_checks.specs.Checks.{Fit, ContextFits, RoutesFit, HoldsSome}

-- What 12, 1, 2 and 3 ask, and that the interface holds no setting.
pub record IdleRelease (d : Device) (b : Buffers) (routes : List ℕ) (interface : ℕ) : Type 0 where
  pub fit : Fit d.usable d
  pub context : ContextFits d.spacing (length b.ctx)
  pub table : RoutesFit d.max_slots (length routes)
  pub log : 64 ≤ length b.log
  pub idle : HoldsSome d interface → ⊥

pub record Unclaimed (d : Device) (b : Buffers) (routes : List ℕ) (interface : ℕ) (l : Left) : Type 0 where
  -- 25 exactly then; nothing is changed or sent, and the record stays usable
  pub exactly : (number l.answer ≡ 25) ↔ IdleRelease d b routes interface
  pub nothing : IdleRelease d b routes interface → l ≡ refused d answer.NotClaimed b.ctx routes b.log
  pub usable : IdleRelease d b routes interface → l.device.usable ≡ true
  -- 8 is never met
  pub found : number l.answer ≡ 8 → ⊥
  -- one that sends a command is of a held setting: accepted it ends it, with any other answer it keeps it
  pub claimed : 1 ≤ l.count → HoldsSome d interface
  pub ended : number l.answer ≡ 0 → HoldsSome l.device interface → ⊥
  pub kept : (number l.answer ≡ 0 → ⊥) → HoldsSome d interface → HoldsSome l.device interface

abbrev pub UnclaimedPromise : Type 0
UnclaimedPromise =
    (d : Device) (b : Buffers) (routes : List ℕ) (interface : ℕ) →
    Unclaimed d b routes interface (release d b.ctx routes b.log b.outcomes interface)
