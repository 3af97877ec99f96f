-- Calls do not refuse everything: one whose checks pass, on a record and a table that agree, with every outcome done, is accepted.
use Rattle.std.specs.Prelude.{ℕ, ◌+◌, ◌*◌, ◌<◌, ◌≤◌, ◌≡◌, Bool, true, false, cond, List, [], ◌∷◌, ◌++◌, eqb, length, get_or, ◌⊎◌}
use Rattle.def.specs.Speed.{SUPER, SUPER-PLUS}
use Rattle.descriptor.specs.Word.{configuration_value}
use Rattle.answer.specs.declared.Answer.TheVariants as answer
use Rattle.command.specs.Command.{LOG-ROOM}
use Rattle.context_block.specs.Blocks.{word_dci, some_dci}
use Rattle.transfer.specs.Routes.{route_of}
use Rattle.record_endpoint.specs.Order.{PLACES, dci_at}
use Rattle.record_endpoint.specs.EndpointMap.{is_owned, no_endpoints}
use Rattle.record_endpoint.specs.declared.endpoint_map.Owner.TheVariants.{Interface}
use Rattle.record_settings.specs.Held.{is_held, alternate_of, setting_words, without_setting}
use Rattle.theorem_routing.specs.Routing.{RoutedBy}
use Rattle.device.specs.declared.record.Device.{Device}
use Rattle.device.specs.Device.{words_of, list_of, endpoint_map_in, held_of, quarantined_of, given_of, Same}
use Rattle.device.specs.Sound.{sound}
use Rattle.device.specs.Left.{Left}
use Rattle.device.specs.Calls.{hub_update}
use Rattle.device.specs.Claim.{drawn, claim}
use Rattle.device.specs.Release.{release}
use Rattle.device.specs.SetConfiguration.{set_configuration}
use Rattle.course_init.specs.Reading.{BringUp, control_ring}
use Rattle.device_bring_up.specs.BringUp.{bring_up}
use Rattle.theorem_checks.specs.Checks.{Condition, AllHold, fit_conditions, claim_conditions, release_conditions, hub_conditions, bring_up_conditions}

-- A record and a table agree: the slot's routes are those of the record's endpoints.
abbrev pub Routed : Device → List ℕ → Type 0
Routed d routes = RoutedBy routes d.slot.0 (endpoint_map_in d)

-- The first n outcomes are there and done.
abbrev pub AllDone : List ℕ → ℕ → Type 0
AllDone outcomes n = (k : ℕ) → k < n → (k < length outcomes) × (get_or outcomes k 0 ≡ 0)

-- A call of which all that its checks ask holds, on a record and a table that agree; as many outcomes as a log has words are enough for each.
pub record Ready (d : Device) (ctx routes log outcomes : List ℕ) (own : List Condition) : Type 0 where
  pub holds : AllHold (fit_conditions d.usable d (length ctx) (length routes) (length log) own)
  pub routed : Routed d routes
  pub done : AllDone outcomes LOG-ROOM

-- A context, a log and outcomes that are enough for a later call.
pub record Enough (d : Device) (ctx log outcomes : List ℕ) : Type 0 where
  pub context : length ctx ≡ 33 * d.spacing
  pub room : LOG-ROOM ≤ length log
  pub done : AllDone outcomes LOG-ROOM

-- Accepted, and the record and the table that come back may go into the next call: the slot, N, the spacing, the speed, the list and
-- control's ring are the same.
pub record Accepted (d : Device) (l : Left) : Type 0 where
  pub answer : l.answer ≡ answer.Accepted
  pub same : Same d l.device
  pub usable : l.device.usable ≡ true
  pub is_sound : sound l.device ≡ true
  pub table : length l.routes ≡ 32 * (l.device.max_slots + 1)
  pub routed : Routed l.device l.routes

-- The configuration value after a bring-up: the first configuration's, which is set; the one that was read where the list is empty.
unfoldable pub value_set : BringUp → ℕ
value_set a = cond (eqb (length a.list) 0) a.value (configuration_value (get_or a.list 0 0))

-- A bring-up: the record is that of the slot, N, spacing, speed, list and control ring that were asked for, it holds no setting, and
-- control's ring is routed.
pub record BroughtUp (a : BringUp) (ctx : List ℕ) (l : Left) : Type 0 where
  pub accepted : Accepted l.device l
  pub slot : l.device.slot.0 ≡ a.slot
  pub max_slots : l.device.max_slots ≡ a.max_slots
  pub spacing : length ctx ≡ 33 * l.device.spacing
  pub speed : l.device.port_speed ≡ a.speed
  pub configured : l.device.configured ≡ true
  pub value : l.device.current_config_value ≡ value_set a
  pub list : words_of l.device ≡ a.list
  pub control : l.device.control ≡ control_ring a
  pub held : held_of l.device ≡ []
  pub endpoints : endpoint_map_in l.device ≡ no_endpoints
  pub quarantined : quarantined_of l.device ≡ []
  pub given : given_of l.device ≡ a.rings
  pub route : route_of l.routes a.slot 1 ≡ control_ring a

-- All that its checks ask holds, the header has its eight bytes with, at SuperSpeed, the exponent 9, and the slot has no routes yet.
abbrev pub BringUpAccepted : Type 0
BringUpAccepted =
    (a : BringUp) (ctx routes log outcomes : List ℕ) →
    AllHold (bring_up_conditions a (length ctx) routes (length log)) →
    a.header ≡ 8 →
    ((a.speed ≡ SUPER) ⊎ (a.speed ≡ SUPER-PLUS) → a.packet ≡ 9) →
    ((d : ℕ) → 2 ≤ d → d < 32 → route_of routes a.slot d ≡ 0) →
    AllDone outcomes LOG-ROOM →
    BroughtUp a ctx (bring_up a ctx routes log outcomes)

-- A claim: each endpoint word's Dci is routed to the ring drawn for it; of several words of a Dci, the last counts.
pub record Claimed (d : Device) (interface alternate : ℕ) (l : Left) : Type 0 where
  pub accepted : Accepted d l
  pub held : is_held interface (held_of l.device) ≡ true
  pub alternate_held : alternate_of interface (held_of l.device) ≡ alternate
  pub routes :
      (xs ys : List ℕ) (w : ℕ) →
      setting_words (list_of d) interface alternate ≡ xs ++ (w ∷ ys) →
      some_dci (word_dci w) ys ≡ false →
      let ring = get_or (drawn d interface alternate) (length xs) 0 in
      (route_of l.routes d.slot.0 (word_dci w) ≡ ring) × (ring ≡ 0 → ⊥)

abbrev pub ClaimAccepted : Type 0
ClaimAccepted =
    (d : Device) (ctx routes log outcomes : List ℕ) (interface alternate : ℕ) →
    Ready d ctx routes log outcomes (claim_conditions d interface alternate []) →
    Claimed d interface alternate (claim d ctx routes log outcomes interface alternate)

-- A release: the interface holds nothing, and the routes of its endpoints are out.
pub record Released (d : Device) (interface : ℕ) (l : Left) : Type 0 where
  pub accepted : Accepted d l
  pub held : held_of l.device ≡ without_setting interface (held_of d)
  pub routes :
      (p : ℕ) → p < PLACES → is_owned (Interface interface) (endpoint_map_in d) p ≡ true → route_of l.routes d.slot.0 (dci_at p) ≡ 0

abbrev pub ReleaseAccepted : Type 0
ReleaseAccepted =
    (d : Device) (ctx routes log outcomes : List ℕ) (interface : ℕ) →
    Ready d ctx routes log outcomes (release_conditions d interface) →
    Released d interface (release d ctx routes log outcomes interface)

-- Back to what was before: the whole table, the held settings in their order, and by place each endpoint's ring, owner and handle.
pub record Back (d : Device) (routes : List ℕ) (l : Left) : Type 0 where
  pub accepted : Accepted d l
  pub table : l.routes ≡ routes
  pub held : held_of l.device ≡ held_of d
  pub endpoints : endpoint_map_in l.device ≡ endpoint_map_in d

-- A claim of an interface that holds nothing, and then its release.
abbrev pub ReleaseBack : Type 0
ReleaseBack =
    (d : Device) (ctx routes log outcomes : List ℕ) (interface alternate : ℕ) →
    Ready d ctx routes log outcomes (claim_conditions d interface alternate []) →
    is_held interface (held_of d) ≡ false →
    (ctx₂ log₂ outcomes₂ : List ℕ) →
    Enough d ctx₂ log₂ outcomes₂ →
    let l = claim d ctx routes log outcomes interface alternate in
    Back d routes (release l.device ctx₂ l.routes log₂ outcomes₂ interface)

-- A set configuration: its value is set, no setting is held, and the slot has no route but control's.
pub record Configured (d : Device) (value : ℕ) (l : Left) : Type 0 where
  pub accepted : Accepted d l
  pub configured : l.device.configured ≡ true
  pub value_set : l.device.current_config_value ≡ value
  pub held : held_of l.device ≡ []
  pub routes : (dci : ℕ) → 2 ≤ dci → dci < 32 → route_of l.routes d.slot.0 dci ≡ 0

abbrev pub SetAccepted : Type 0
SetAccepted =
    (d : Device) (ctx routes log outcomes : List ℕ) (value : ℕ) →
    Ready d ctx routes log outcomes [] →
    Configured d value (set_configuration d ctx routes log outcomes value)

-- And another one after any accepted call: not only the first works.
abbrev pub SetAgain : Type 0
SetAgain =
    (d : Device) (l : Left) →
    Accepted d l →
    (ctx log outcomes : List ℕ) (value : ℕ) →
    Enough d ctx log outcomes →
    Configured d value (set_configuration l.device ctx l.routes log outcomes value)

-- A hub update, which keeps the record.
abbrev pub HubAccepted : Type 0
HubAccepted =
    (d : Device) (ctx routes log outcomes : List ℕ) (ports : ℕ) (multi : Bool) (ns : ℕ) →
    AllHold (fit_conditions d.usable d (length ctx) (length routes) (length log) (hub_conditions d ns)) →
    AllDone outcomes 1 →
    let l = hub_update d ctx routes log outcomes ports multi ns in
    (l.answer ≡ answer.Accepted) × (l.device ≡ d) × (l.routes ≡ routes) × (l.count ≡ 1)
