-- What holds of a slot over lists of its own calls holds of each slot in a run of calls of many.
use Rattle.std.specs.Prelude.{ℕ, ◌<◌, ◌≡◌, Bool, true, false, List, [], ◌∷◌, ◌++◌}
use Rattle.answer.specs.declared.Answer.TheVariants as answer
use Rattle.transfer.specs.Routes.{route_of}
use Rattle.course_init.specs.Reading.{BringUp}
use Rattle.device_bring_up.specs.BringUp.{bring_up}
use Rattle.device.specs.declared.record.Device.{Device}
use Rattle.theorem_slot.specs.Call.{Buffers, brings_up, OfSlot}
use Rattle.theorem_slot.specs.Answers.{is_bring_up}
use Rattle.theorem_slot.specs.Theorem.{State, Turn, called, after, Between, Turns, start, Kept, is_outside}
use Rattle.theorem_device_state.specs.DeviceState.{nothing_known}
use Rattle.theorem_device_state.specs.Theorem.{DeviceKept, device_heard, device_through}
use Rattle.theorem_dispatch.specs.Isolation.{Run, run_slot, ran, table_after}
use Rattle.theorem_dispatch.specs.Desk.{Desk, Event, desk_in, started_in}

abbrev pub turn_of : Run → List ℕ → Bool → Turn
turn_of r table keeps = record { call = r.call; table = table; keeps = keeps }

-- The own calls of a slot in a run, as turns on it, each with the table as it is then: a call gets the record that the one before handed on,
-- a bring-up none. Words that are `still` are no words of the other slots.
pub data HandsOn (slot : ℕ) (still : ℕ → Bool) : State → List ℕ → List Run → List Turn → Type 0 where
  no_more : {s : State} {table : List ℕ} → HandsOn slot still s table [] []
  another :
      {s : State} {table : List ℕ} {r : Run} {rs : List Run} {ts : List Turn} →
      (run_slot r ≡ slot → ⊥) → ((k : ℕ) → still k ≡ true → is_outside (run_slot r) k ≡ true) →
      HandsOn slot still s (ran r table).routes rs ts → HandsOn slot still s table (r ∷ rs) ts
  own :
      {s : State} {table : List ℕ} {r : Run} {rs : List Run} {ts : List Turn} (keeps : Bool) →
      run_slot r ≡ slot → OfSlot slot r.call.asked → (is_bring_up r.call.asked ≡ false → r.device ≡ s.device) →
      HandsOn slot still (called s (turn_of r table keeps)) (ran r table).routes rs ts →
      HandsOn slot still s table (r ∷ rs) (turn_of r table keeps ∷ ts)

-- Such turns are a list of calls on the slot as every theorem over them asks, and the slot's words in the table are those of its state.
pub record Carried (slot : ℕ) (still : ℕ → Bool) (s : State) (table : List ℕ) (rs : List Run) (ts : List Turn) : Type 0 where
  pub turns : Turns slot still s ts
  pub words : Between slot still (after s ts).routes (table_after table rs)

abbrev pub CarriedOver : Type 0
CarriedOver =
    (slot : ℕ) (still : ℕ → Bool) (s : State) (table : List ℕ) (rs : List Run) (ts : List Turn) →
    Between slot still s.routes table → HandsOn slot still s table rs ts → Carried slot still s table rs ts

-- A bring-up as it is run.
abbrev pub brings : BringUp → Buffers → Device → Run
brings b l d = record { call = record { asked = brings_up b; buffers = l }; device = d }

-- The slot after its bring-up, on this table.
abbrev pub brought_on : BringUp → Buffers → List ℕ → State
brought_on b l table = start b (bring_up b l.ctx table l.log l.outcomes)

-- A slot in a run of the dispatcher: the calls started before its bring-up; the bring-up, accepted, where the slot's words were all 0; and the
-- calls after it, of which its own hand the record on.
pub record BroughtUp (d : Desk) (es : List Event) (b : BringUp) (l : Buffers) (still : ℕ → Bool) (turns : List Turn) : Type 0 where
  pub before : List Run
  pub given : Device
  pub rest : List Run
  -- the table that the bring-up gets
  pub table : List ℕ
  pub started : started_in d es ≡ before ++ (brings b l given ∷ rest)
  pub table_is : table ≡ table_after d.table before
  pub empty : (k : ℕ) → k < 32 → route_of table b.slot k ≡ 0
  pub accepted : (bring_up b l.ctx table l.log l.outcomes).answer ≡ answer.Accepted
  pub handed_on : HandsOn b.slot still (brought_on b l table) (brought_on b l table).routes rest turns

-- P of each slot in such a run, where P is as in AfterBringUp; and the slot's words in the dispatcher's table are those of its state.
abbrev pub InDesk : (ℕ → (ℕ → Bool) → List ℕ → State → Type 0) → Type 0
InDesk P =
    (d : Desk) (es : List Event) (b : BringUp) (l : Buffers) (still : ℕ → Bool) (turns : List Turn) (u : BroughtUp d es b l still turns) →
    let s = after (brought_on b l u.table) turns in
    P b.slot still u.table s × Between b.slot still s.routes (desk_in d es).table

-- Demand 3,
abbrev pub Demand3InDesk : Type 0
Demand3InDesk = InDesk Kept

-- and what the USB device was told.
abbrev pub DeviceToldInDesk : Type 0
DeviceToldInDesk =
    (d : Desk) (es : List Event) (b : BringUp) (l : Buffers) (still : ℕ → Bool) (turns : List Turn) (u : BroughtUp d es b l still turns) →
    let brought = bring_up b l.ctx u.table l.log l.outcomes in
    DeviceKept (after (start b brought) turns)
    (device_through (start b brought) turns (device_heard (brings_up b) l brought nothing_known))
