-- Unplugging: when it is accepted, and what each of its answers leaves.
use Rattle.std.specs.Prelude.{ℕ, ◌+◌, ◌<◌, ◌≤◌, ◌≡◌, Bool, true, false, ◌&&◌, List, [], length, Ok, Err}
use Rattle.laws.specs.Distinct.{distinct}
use Rattle.answer.specs.declared.Answer.TheVariants as answer
use Rattle.answer.specs.Check.{Check}
use Rattle.answer.specs.Answer.{is_accepted, is_lost}
use Rattle.command.specs.Command.{outcome_at}
use Rattle.transfer.specs.Routes.{route_of}
use Rattle.record_ring.specs.Rings.{RING-ROOM}
use Rattle.record_endpoint.specs.EndpointMap.{queues_of}
use Rattle.record_checks.specs.Rings.{each_once}
use Rattle.theorem_controller.specs.Controller.{is_done}
use Rattle.device.specs.declared.record.Device.{Device}
use Rattle.device.specs.Device.{endpoint_map_in, held_of, quarantined_of, Same}
use Rattle.device.specs.Sound.{live_rings, sound}
use Rattle.device.specs.Left.{Left, refused}
use Rattle.device.specs.Check.{disconnect_check}
use Rattle.theorem_slot.specs.Call.{Buffers, Asked, disconnects, left}
use Rattle.theorem_slot.specs.Answers.{is_bring_up}

unfoldable pub passes : Check → Bool
passes (Ok _) = true
passes (Err a) = false

-- Accepted exactly if its checks pass and Disable is done: the command after the Stops of control and of each endpoint.
abbrev pub AcceptedByDisable : Type 0
AcceptedByDisable =
    (d : Device) (b : Buffers) (routes : List ℕ) →
    is_accepted (left disconnects b d routes).answer
    ≡ (passes (disconnect_check d (length b.ctx) (length routes) (length b.log))
    && is_done (outcome_at b.outcomes (length (queues_of (endpoint_map_in d).rings) + 1)))

-- Accepted: the slot has no route; the record has no endpoint and no setting, keeps what it was brought up with and its quarantined
-- rings, and every call on it but a bring-up is refused with 12.
pub record Gone (d : Device) (l : Left) : Type 0 where
  pub routes : (dci : ℕ) → dci < 32 → route_of l.routes d.slot.0 dci ≡ 0
  pub endpoints : queues_of (endpoint_map_in l.device).rings ≡ []
  pub held : held_of l.device ≡ []
  pub same : Same d l.device
  pub quarantined : quarantined_of l.device ≡ quarantined_of d
  pub refuses :
      (asked : Asked) (b : Buffers) (routes : List ℕ) → is_bring_up asked ≡ false →
      left asked b l.device routes ≡ refused l.device answer.Unusable b.ctx routes b.log

abbrev pub AcceptedLeaves : Type 0
AcceptedLeaves =
    (d : Device) (b : Buffers) (routes : List ℕ) →
    let l = left disconnects b d routes in
    l.answer ≡ answer.Accepted → Gone d l

-- 14 and 15: the table, the held settings and the endpoints' rings are as they were.
pub record LostKeeps (d : Device) (routes : List ℕ) (l : Left) : Type 0 where
  pub table : l.routes ≡ routes
  pub held : held_of l.device ≡ held_of d
  pub rings : (endpoint_map_in l.device).rings ≡ (endpoint_map_in d).rings
  pub same : Same d l.device

abbrev pub LostLeaves : Type 0
LostLeaves =
    (d : Device) (b : Buffers) (routes : List ℕ) →
    let l = left disconnects b d routes in
    is_lost l.answer ≡ true → LostKeeps d routes l

-- Whatever the answer, the context is as it was lent.
abbrev pub ContextUnwritten : Type 0
ContextUnwritten = (d : Device) (b : Buffers) (routes : List ℕ) → (left disconnects b d routes).ctx ≡ b.ctx

-- After a 14 another unplugging, whatever it answers, puts no ring in quarantine.
abbrev pub QuarantinedOnce : Type 0
QuarantinedOnce =
    (d : Device) (b next : Buffers) (routes table : List ℕ) →
    let l = left disconnects b d routes in
    l.answer ≡ answer.InterfaceBroken →
    quarantined_of (left disconnects next l.device table).device ≡ quarantined_of l.device

-- Of a sound record no ring is in quarantine twice, and there is room for all rings, those that are live too counted once.
pub record RingsCounted (d : Device) : Type 0 where
  pub once : distinct (quarantined_of d) ≡ true
  pub few : length (each_once (live_rings d) (quarantined_of d)) ≤ RING-ROOM

abbrev pub SoundRings : Type 0
SoundRings = (d : Device) → sound d ≡ true → RingsCounted d
