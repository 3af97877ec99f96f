-- A call: it checks, and refuses or runs its course.
use Prim.Native.Nat.{ℕ, ◌≤◌}
use mathlib.Core.Path.{◌≡◌, ◌∙◌, ap}
use mathlib.Core.Bool.{Bool}
use mathlib.Core.List.{List}
use lib.ListN.{length, take}
use Rattle.answer.specs.declared.Answer.{Answer}
use Rattle.answer.specs.Check.{Check, Pass}
use Rattle.command.specs.Course.{Course, words, played}
use Rattle.command.proofs.Operations.{ByteOperands, EachCommand}
use Rattle.device.specs.declared.record.Device.{Device}
use Rattle.device.specs.Left.{Left, refused}
use Rattle.device.specs.Calls.{on_check}
use Rattle.theorem_slot.specs.Call.{Buffers, Asked}
use Rattle.theorem_slot.specs.Plain.{Plain, Effect, observed}
use Rattle.theorem_slot.specs.Theorem.{State, called}
use Rattle.theorem_slot.proofs.Step.{MildCheck, on_mild, refused_mild, observed_refused}
use Rattle.theorem_slot.proofs.Words.{taken_words}
use Rattle.theorem_slot.proofs.Demand3.{turn}
use Rattle.theorem_device_state.specs.DeviceState.{Known, DeviceState, device_told}
use Rattle.theorem_device_state.specs.Theorem.{device_called}
use Rattle.theorem_device_state.proofs.Heard.{heard, told_course}
use Rattle.theorem_device_state.proofs.Kept.{Agrees}

-- What is to hold after it.
abbrev pub AgreesCalled : State → Asked → Buffers → Bool → DeviceState → Type 0
AgreesCalled s asked buffers keeps u =
    let t = turn s (record { asked = asked; buffers = buffers }) keeps in
    Agrees (called s t).plain (called s t).device (device_called s t u)

-- And of what it left, where the device is then in this state.
abbrev pub AgreesLeft : Effect → Buffers → (ℕ → List ℕ) → Plain → Left → DeviceState → Type 0
AgreesLeft effect buffers contexts p l w = Agrees (observed effect buffers l.answer (take l.count l.log) contexts p) l.device w

-- A refusal changes and tells nothing.
pub checked_agrees :
    (effect : Effect) (buffers : Buffers) (contexts : ℕ → List ℕ) (p : Plain) (d : Device) (u : DeviceState) → Agrees p d u →
    (tell : Left → DeviceState) (k : Check) (run : Left) (ctx routes log : List ℕ) → MildCheck k →
    ((a : Answer) → tell (refused d a ctx routes log) ≡ u) →
    (k ≡ Pass → AgreesLeft effect buffers contexts p run (tell run)) →
    let l = on_check k run (λ a. refused d a ctx routes log) in AgreesLeft effect buffers contexts p l (tell l)
unfolding refused
checked_agrees effect buffers contexts p d u g tell k run ctx routes log m same h =
    on_mild (λ l. AgreesLeft effect buffers contexts p l (tell l)) k run (λ a. refused d a ctx routes log) m h
    (λ a r. rw (same a, observed_refused effect buffers a contexts p (refused_mild a r)) g)

-- The log up to its count tells what the course tells.
pub log_told :
    {A : Type 0} (v : Known) (o : List ℕ) (c : Course A) (log : List ℕ) (u : DeviceState) → length (words o 0 c) ≤ length log →
    EachCommand ByteOperands c →
    device_told v o 0 (take (played o 0 c log).count (played o 0 c log).log) u ≡ heard v o 0 c u
log_told v o c log u h b = ap (λ ws. device_told v o 0 ws u) (taken_words o c log h) ∙ told_course v o 0 c u b
