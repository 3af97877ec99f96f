-- What every list of calls on a slot tells its USB device, beside Demand 3: the held settings and the configuration value of the
-- record are the device's.
use Rattle.std.specs.Prelude.{ℕ, ◌<◌, ◌≡◌, Bool, true, false, List, [], ◌∷◌, take}
use Rattle.answer.specs.declared.Answer.TheVariants as answer
use Rattle.transfer.specs.Routes.{route_of, names}
use Rattle.record_settings.specs.Held.{Held}
use Rattle.course_init.specs.Reading.{BringUp}
use Rattle.device_bring_up.specs.BringUp.{bring_up}
use Rattle.device.specs.Device.{list_of, held_of}
use Rattle.device.specs.Left.{Left}
use Rattle.theorem_slot.specs.Call.{Buffers, Asked, brings_up, claims, commits, releases, configures, updates_hub, disconnects, left}
use Rattle.theorem_slot.specs.Plain.{HeldSetting, held_queues, is_up}
use Rattle.theorem_slot.specs.Theorem.{State, Turn, called, after, Turns, start}
use Rattle.theorem_device_state.specs.DeviceState.{Known, unknown, known, DeviceState, nothing_known, device_told}

-- What ReadConfiguration reads in a call: only a bring-up sends it.
unfoldable pub value_read : Asked → Known
value_read (brings_up a) = known a.value
value_read (claims interface alternate) = unknown
value_read (commits p) = unknown
value_read (releases interface) = unknown
value_read (configures value) = unknown
value_read (updates_hub ports multi ns) = unknown
value_read disconnects = unknown

-- The device hears what a call logged,
unfoldable pub device_heard : Asked → Buffers → Left → DeviceState → DeviceState
device_heard asked buffers l u = device_told (value_read asked) buffers.outcomes 0 (take l.count l.log) u

unfoldable pub device_called : State → Turn → DeviceState → DeviceState
device_called s t u =
    device_heard t.call.asked t.call.buffers (left t.call.asked t.call.buffers s.device t.table) u

-- and what each call of a list logged.
unfoldable pub device_through : State → List Turn → DeviceState → DeviceState
device_through s [] u = u
device_through s (t ∷ ts) u = device_through (called s t) ts (device_called s t u)

-- The device has the alternate of each held setting.
unfoldable pub EachSet : DeviceState → List HeldSetting → Type 0
EachSet u [] = Unit {0}
EachSet u (h ∷ hs) = (u.alternates h.interface ≡ known h.alternate) × EachSet u hs

-- No Dci is in two held settings.
unfoldable pub Apart : List HeldSetting → Type 0
Apart [] = Unit {0}
Apart (h ∷ hs) = ((d : ℕ) → names d h.queues ≡ true → names d (held_queues hs) ≡ false) × Apart hs

-- Interfaces with their alternates, as a record keeps them.
unfoldable pub held_pairs : List HeldSetting → List Held
held_pairs [] = []
held_pairs (h ∷ hs) = record { interface = h.interface; alternate = h.alternate } ∷ held_pairs hs

pub record DeviceKept (s : State) (u : DeviceState) : Type 0 where
  -- while the slot is up and before the first broken or cut answer, the device has the alternate of each held setting
  pub alternates : is_up s.plain.phase ≡ true → s.plain.broken ≡ false → EachSet u s.plain.held
  -- a usable record is up, its slot too, and there was no such answer
  pub unbroken : s.device.usable ≡ true → (s.device.up ≡ true) × ((is_up s.plain.phase ≡ true) × (s.plain.broken ≡ false))
  -- while it is usable, it has a configuration value, which is the device's
  pub configured : s.device.usable ≡ true → s.device.configured ≡ true
  pub configuration : s.device.usable ≡ true → u.configuration ≡ known s.device.current_config_value
  -- a record that is up, usable or not, holds what the plain slot holds, of the same list,
  pub held : s.device.up ≡ true → held_of s.device ≡ held_pairs s.plain.held
  pub list : s.device.up ≡ true → list_of s.device ≡ s.plain.list
  -- and no two of its settings share an endpoint
  pub apart : s.device.up ≡ true → Apart s.plain.held

-- For every list of Demand 3: the state after it, and the device that heard the bring-up and each call.
abbrev pub DeviceTold : Type 0
DeviceTold =
    (b : BringUp) (l : Buffers) (routes : List ℕ) (still : ℕ → Bool) (turns : List Turn) →
    let brought = bring_up b l.ctx routes l.log l.outcomes in
    ((d : ℕ) → d < 32 → route_of routes b.slot d ≡ 0) →
    brought.answer ≡ answer.Accepted →
    Turns b.slot still (start b brought) turns →
    DeviceKept (after (start b brought) turns)
    (device_through (start b brought) turns (device_heard (brings_up b) l brought nothing_known))

-- A release, a hub update and an unplugging tell the device nothing, whatever record and table they get.
unfoldable pub tells_nothing : Asked → Bool
tells_nothing (brings_up a) = false
tells_nothing (claims interface alternate) = false
tells_nothing (commits p) = false
tells_nothing (releases interface) = true
tells_nothing (configures value) = false
tells_nothing (updates_hub ports multi ns) = true
tells_nothing disconnects = true

abbrev pub ToldNothing : Type 0
ToldNothing = (s : State) (t : Turn) (u : DeviceState) → tells_nothing t.call.asked ≡ true → device_called s t u ≡ u
