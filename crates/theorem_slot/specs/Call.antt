-- The calls on a slot, with all that they are given but the record and the route table.
use Rattle.std.specs.Prelude.{ℕ, ◌<◌, ◌≡◌, Bool, List, take}
use Rattle.course_init.specs.Reading.{BringUp}
use Rattle.device_bring_up.specs.BringUp.{bring_up}
use Rattle.device.specs.declared.record.Device.{Device}
use Rattle.device.specs.Left.{Left}
use Rattle.device.specs.Calls.{hub_update}
use Rattle.device.specs.Claim.{claim}
use Rattle.device.specs.Ask.{Ask, commit}
use Rattle.device.specs.Disconnect.{disconnect}
use Rattle.device.specs.Release.{release}
use Rattle.device.specs.SetConfiguration.{set_configuration}

-- A context, a log and outcomes, of any length and contents.
pub record Buffers : Type 0 where
  pub ctx : List ℕ
  pub log : List ℕ
  pub outcomes : List ℕ

-- The same, with only the first i outcomes.
unfoldable pub cut_at : ℕ → Buffers → Buffers
cut_at i l = record { ctx = l.ctx; log = l.log; outcomes = take i l.outcomes }

pub data Asked : Type 0 where
  brings_up : BringUp → Asked
  -- interface, alternate
  claims : ℕ → ℕ → Asked
  -- what an ask returned
  commits : Ask → Asked
  -- interface
  releases : ℕ → Asked
  -- value
  configures : ℕ → Asked
  -- ports, multi, think time
  updates_hub : ℕ → Bool → ℕ → Asked
  disconnects : Asked

pub record Call : Type 0 where
  pub asked : Asked
  pub buffers : Buffers

-- What a call returns and leaves, on a record and a table; a bring-up takes the table only.
unfoldable pub left : Asked → Buffers → Device → List ℕ → Left
left (brings_up a) l d routes = bring_up a l.ctx routes l.log l.outcomes
left (claims interface alternate) l d routes =
    claim d l.ctx routes l.log l.outcomes interface alternate
left (commits p) l d routes = commit d l.ctx routes l.log l.outcomes p
left (releases interface) l d routes = release d l.ctx routes l.log l.outcomes interface
left (configures value) l d routes = set_configuration d l.ctx routes l.log l.outcomes value
left (updates_hub ports multi ns) l d routes =
    hub_update d l.ctx routes l.log l.outcomes ports multi ns
left disconnects l d routes = disconnect d l.ctx routes l.log l.outcomes

-- The context that the same call leaves, given only the first i outcomes.
unfoldable pub context_cut : Call → Device → List ℕ → ℕ → List ℕ
context_cut c d routes i = (left c.asked (cut_at i c.buffers) d routes).ctx

-- A call of this slot, with interfaces, alternates and values that are bytes, as the code's types have it.
unfoldable pub OfSlot : ℕ → Asked → Type 0
OfSlot slot (brings_up a) = a.slot ≡ slot
OfSlot slot (claims interface alternate) = (interface < 256) × (alternate < 256)
OfSlot slot (commits p) = (p.interface < 256) × (p.alternate < 256)
OfSlot slot (releases interface) = interface < 256
OfSlot slot (configures value) = value < 256
OfSlot slot (updates_hub ports multi ns) = Unit {0}
OfSlot slot disconnects = Unit {0}
