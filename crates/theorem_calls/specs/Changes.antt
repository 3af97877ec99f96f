-- What a call leaves as it was, whatever record and table it gets.
use Rattle.std.specs.Prelude.{ℕ, ◌≡◌, Bool, true, false, not, cond, ◌&&◌, List, eqb, ltb, take}
use Rattle.answer.specs.declared.Answer.{Answer}
use Rattle.answer.specs.Answer.{number, is_accepted}
use Rattle.theorem_controller.specs.Controller.{SET-CONFIGURATION, done_word}
use Rattle.device.specs.declared.record.Device.{Device}
use Rattle.device.specs.Device.{endpoint_map_in, held_of, Same}
use Rattle.device.specs.Left.{Left}
use Rattle.theorem_slot.specs.Call.{Asked, brings_up, claims, commits, releases, configures, updates_hub, disconnects, Call, left, OfSlot}
use Rattle.theorem_slot.specs.Answers.{is_bring_up}

-- No route, no held setting and no endpoint has changed: by address, its ring and the interface that owns it.
pub record Stood (d e : Device) (before now : List ℕ) : Type 0 where
  pub table : now ≡ before
  pub held : held_of e ≡ held_of d
  pub rings : (endpoint_map_in e).rings ≡ (endpoint_map_in d).rings
  pub owners : (endpoint_map_in e).owners ≡ (endpoint_map_in d).owners

-- Whether a call may change them, by its answer and its log: a bring-up that logged a command; a set configuration whose SetConfiguration
-- is done, but for an 18; a hub update never; any other exactly if it is accepted.
unfoldable pub changes : Asked → List ℕ → Left → Bool
changes (brings_up a) outcomes l = ltb 0 l.count
changes (claims interface alternate) outcomes l = is_accepted l.answer
changes (commits p) outcomes l = is_accepted l.answer
changes (releases interface) outcomes l = is_accepted l.answer
changes (configures value) outcomes l =
    done_word SET-CONFIGURATION outcomes 0 (take l.count l.log) && not (eqb (number l.answer) 18)
changes (updates_hub ports multi ns) outcomes l = false
changes disconnects outcomes l = is_accepted l.answer

-- A call on a record that does not leaves them, however far it came.
abbrev pub Unmoved : Type 0
Unmoved =
    (c : Call) (d : Device) (routes : List ℕ) →
    is_bring_up c.asked ≡ false → OfSlot d.slot.0 c.asked →
    changes c.asked c.buffers.outcomes (left c.asked c.buffers d routes) ≡ false →
    Stood d (left c.asked c.buffers d routes).device routes (left c.asked c.buffers d routes).routes

-- No call but a bring-up changes what a bring-up says for good: slot, number of slots, spacing, speed, list, control's ring, given rings.
abbrev pub FixedKept : Type 0
FixedKept =
    (c : Call) (d : Device) (routes : List ℕ) → is_bring_up c.asked ≡ false → Same d (left c.asked c.buffers d routes).device

-- The configuration value, and whether there is one: an accepted set configuration sets its own, no other call any.
unfoldable pub value_after : Asked → Answer → Bool × ℕ → Bool × ℕ
value_after (brings_up a) x was = was
value_after (claims interface alternate) x was = was
value_after (commits p) x was = was
value_after (releases interface) x was = was
value_after (configures value) x was = cond (is_accepted x) (true, value) was
value_after (updates_hub ports multi ns) x was = was
value_after disconnects x was = was

abbrev pub ValueKept : Type 0
ValueKept =
    (c : Call) (d : Device) (routes : List ℕ) →
    is_bring_up c.asked ≡ false →
    let l = left c.asked c.buffers d routes in
    (l.device.configured, l.device.current_config_value) ≡ value_after c.asked l.answer (d.configured, d.current_config_value)
