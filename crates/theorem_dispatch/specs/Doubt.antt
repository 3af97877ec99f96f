-- Rings in doubt of each slot in a run of the dispatcher.
use Rattle.std.specs.Prelude.{ℕ, ◌≡◌, Bool, true, false, List}
use Rattle.laws.specs.Distinct.{elem}
use Rattle.device.specs.Device.{free_of}
use Rattle.theorem_slot.specs.Theorem.{Turn, after, Between}
use Rattle.theorem_doubt.specs.Doubt.{Watched, watched_after, unborn, AllGiven64}
use Rattle.theorem_dispatch.specs.Desk.{Desk, Event, desk_in, started_in}
use Rattle.theorem_dispatch.specs.Turns.{HandsOn}

-- P of a slot whose calls, from its first bring-up on, hand the record on, where P is as in AfterAny; and the slot's words in the dispatcher's
-- table are those of its state.
abbrev pub AnyInDesk : (ℕ → Watched → Type 0) → Type 0
AnyInDesk P =
    (d : Desk) (es : List Event) (slot : ℕ) (still took : ℕ → Bool) (turns : List Turn) →
    AllGiven64 turns →
    HandsOn slot still (unborn d.table).state d.table (started_in d es) turns →
    P slot (watched_after took (unborn d.table) turns)
    × Between slot still (after (unborn d.table).state turns).routes (desk_in d es).table

-- No ring that the slot's controller may hold is free, and none is drawn.
abbrev pub NeverFreeInDesk : Type 0
NeverFreeInDesk = AnyInDesk (λ slot w. (d : ℕ) → (w.rings d ≡ 0 → ⊥) → w.state.plain.groups.free (w.rings d) ≡ false)

abbrev pub NeverDrawnInDesk : Type 0
NeverDrawnInDesk =
    AnyInDesk
    (λ slot w. w.state.device.up ≡ true → (d : ℕ) → (w.rings d ≡ 0 → ⊥) → elem (w.rings d) (free_of w.state.device) ≡ false)
