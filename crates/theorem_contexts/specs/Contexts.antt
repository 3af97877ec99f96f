-- What the controller reads at each command that reads the input context, by call: what the same call leaves when it is given only the
-- outcomes before that command. Named fields have the values that the call's arguments and its record give them, spelled here; every
-- other bit is as the command before that reads the context left it, at the first as it was lent. The proofs prove each `..Contexts`.
use Rattle.std.specs.Prelude.{ℕ, ◌+◌, ◌^◌, ◌<◌, ◌≡◌, Bool, cond, List, [], ◌∷◌, ◌++◌, eqb, length, get_or, replicate, Ok}
use Rattle.def.specs.Speed.{is_super}
use Rattle.descriptor.specs.Word.{configuration_value}
use Rattle.descriptor_list.specs.Valid.{configurations}
use Rattle.hub.specs.Route.{route_string}
use Rattle.hub.specs.Translator.{translator_of}
use Rattle.hub.specs.ThinkTime.{think_time}
use Rattle.transfer.specs.Routes.{Queue, queues, replaced}
use Rattle.context.specs.Steps.{word_dcis}
use Rattle.context.specs.Promises.{AddressReads, MaxPacketReads, ConfigurationReads, HubReads, ConfigureReads}
use Rattle.command.specs.declared.Command.{Command}
use Rattle.command.specs.declared.Command.TheVariants as command
use Rattle.command.specs.Command.{command_word}
use Rattle.answer.specs.Check.{Pass}
use Rattle.record_endpoint.specs.declared.endpoint_map.Owner.TheVariants.{Interface}
use Rattle.record_endpoint.specs.EndpointMap.{owned_rings, queues_of, queue_dcis}
use Rattle.record_settings.specs.Held.{is_held, alternate_of, setting_words, held_words}
use Rattle.record_checks.specs.Think.{think_value}
use Rattle.course_init.specs.Init.{HeaderRead}
use Rattle.course_init.specs.Reading.{BringUp, control_ring}
use Rattle.device.specs.declared.record.Device.{Device}
use Rattle.device.specs.Device.{list_of, endpoint_map_in, held_of, given_of}
use Rattle.device.specs.Left.{Left}
use Rattle.device.specs.Check.{record_check, hub_check}
use Rattle.device.specs.Calls.{hub_update}
use Rattle.device.specs.Claim.{claim_check, drawn, claim}
use Rattle.device.specs.Release.{release_check, release}
use Rattle.device.specs.SetConfiguration.{set_configuration}
use Rattle.context.specs.Place.{spacing_of}
use Rattle.device_bring_up.specs.BringUp.{bring_up_check, bring_up}

-- What the code's types give: bytes, and rings of 64 bits.
abbrev pub Byte : ℕ → Type 0
Byte n = n < 2 ^ 8

abbrev pub BusAddresses : List ℕ → Type 0
BusAddresses rings = (k : ℕ) → get_or rings k 0 < 2 ^ 64

-- Outcomes: n commands done, and then perhaps one that failed.
abbrev pub done_times : ℕ → List ℕ
done_times n = replicate n 0

abbrev pub failed_after : ℕ → ℕ → List ℕ
failed_after n code = done_times n ++ (code ∷ [])

-- A call that ended at command number n, which is this one, and left a context of which P holds.
pub record SentAt (n : ℕ) (c : Command) (P : List ℕ → Type 0) (l : Left) : Type 0 where
  pub count : l.count ≡ n + 1
  pub word : get_or l.log n 0 ≡ command_word c
  pub reads : P l.ctx

-- The endpoints of a record and of one of its interfaces, with their rings.
abbrev pub record_endpoints : Device → List Queue
record_endpoints d = queues_of (endpoint_map_in d).rings

abbrev pub interface_endpoints : Device → ℕ → List Queue
interface_endpoints d i = queues_of (owned_rings (Interface i) (endpoint_map_in d))

-- The endpoint words that an interface holds.
abbrev pub held_by : Device → ℕ → List ℕ
held_by d i = cond (is_held i (held_of d)) (setting_words (list_of d) i (alternate_of i (held_of d))) []

-- A Configure of a record's device: an interface and an alternate, words to drop, words to add with their rings.
abbrev pub Configures : Device → ℕ → ℕ → List ℕ → List ℕ → List Queue → List ℕ → List ℕ → Type 0
Configures d i a dropped added rings =
    ConfigureReads d.spacing d.port_speed i a dropped added rings (queue_dcis (record_endpoints d))

-- A claim stops its interface's endpoints first. Its Configure drops the words that the interface holds and adds those of the alternate,
-- each with the ring drawn for it; where the SetInterface fails, another drops these and adds the old ones, with their rings.
pub record ClaimReads (d : Device) (i a : ℕ) (ctx : List ℕ) (call : List ℕ → Left) : Type 0 where
  pub configure :
      let stops = length (interface_endpoints d i) in
      let new = setting_words (list_of d) i a in
      SentAt stops command.Configure (Configures d i a (held_by d i) new (queues (word_dcis new) (drawn d i a)) ctx) (call (done_times stops))
  pub undo :
      let stops = length (interface_endpoints d i) in
      let new = setting_words (list_of d) i a in
      let was = (call (done_times stops)).ctx in
      (code : ℕ) →
      (code ≡ 0 → ⊥) →
      SentAt (stops + 2) command.Configure (Configures d i (alternate_of i (held_of d)) new (held_by d i) (interface_endpoints d i) was)
      (call (failed_after (stops + 1) code))

abbrev pub ClaimContexts : Type 0
ClaimContexts =
    (d : Device) (ctx routes log : List ℕ) (i a : ℕ) →
    record_check d (length ctx) (length routes) (length log) (claim_check d i a Pass) ≡ Pass →
    Byte i →
    Byte a →
    BusAddresses (given_of d) →
    BusAddresses (endpoint_map_in d).rings →
    ClaimReads d i a ctx (λ outcomes. claim d ctx routes log outcomes i a)

-- A release stops its interface's endpoints; its Configure drops the words of the alternate that is held.
pub record ReleaseReads (d : Device) (i : ℕ) (ctx : List ℕ) (call : List ℕ → Left) : Type 0 where
  pub configure :
      let stops = length (interface_endpoints d i) in
      let a = alternate_of i (held_of d) in
      SentAt stops command.Configure (Configures d i a (setting_words (list_of d) i a) [] [] ctx) (call (done_times stops))

abbrev pub ReleaseContexts : Type 0
ReleaseContexts =
    (d : Device) (ctx routes log : List ℕ) (i : ℕ) →
    record_check d (length ctx) (length routes) (length log) (release_check d i) ≡ Pass →
    Byte i →
    ReleaseReads d i ctx (λ outcomes. release d ctx routes log outcomes i)

-- A set configuration stops every endpoint. Its Configure, with interface and alternate 0, drops the words of every held setting; where
-- the SetConfiguration fails, another adds them again, with their rings. The last Evaluate has the value, and is sent where the table has
-- the endpoints' routes.
pub record SetReads (d : Device) (value : ℕ) (ctx routes : List ℕ) (call : List ℕ → Left) : Type 0 where
  pub configure :
      let stops = length (record_endpoints d) in
      SentAt stops command.Configure (Configures d 0 0 (held_words (list_of d) (held_of d)) [] [] ctx) (call (done_times stops))
  pub restore :
      let stops = length (record_endpoints d) in
      let was = (call (done_times stops)).ctx in
      (code : ℕ) →
      (code ≡ 0 → ⊥) →
      SentAt (stops + 2) command.Configure (Configures d 0 0 [] (held_words (list_of d) (held_of d)) (record_endpoints d) was)
      (call (failed_after (stops + 1) code))
  pub evaluate :
      let stops = length (record_endpoints d) in
      let was = (call (done_times stops)).ctx in
      replaced routes d.slot.0 (record_endpoints d) [] ≡ Ok (tt {0}) →
      SentAt (stops + 2) command.Evaluate (ConfigurationReads d.spacing value was) (call (done_times (stops + 2)))

abbrev pub SetContexts : Type 0
SetContexts =
    (d : Device) (ctx routes log : List ℕ) (value : ℕ) →
    record_check d (length ctx) (length routes) (length log) Pass ≡ Pass →
    Byte value →
    BusAddresses (endpoint_map_in d).rings →
    SetReads d value ctx routes (λ outcomes. set_configuration d ctx routes log outcomes value)

-- A hub update's Evaluate.
pub record HubUpdateReads (d : Device) (ports : ℕ) (multi : Bool) (ns : ℕ) (ctx : List ℕ) (call : List ℕ → Left) : Type 0 where
  pub evaluate :
      SentAt 0 command.Evaluate (HubReads d.spacing d.port_speed ports multi (think_value (think_time ns)) ctx) (call [])

abbrev pub HubUpdateContexts : Type 0
HubUpdateContexts =
    (d : Device) (ctx routes log : List ℕ) (ports : ℕ) (multi : Bool) (ns : ℕ) →
    record_check d (length ctx) (length routes) (length log) (hub_check d ns) ≡ Pass →
    Byte ports →
    HubUpdateReads d ports multi ns ctx (λ outcomes. hub_update d ctx routes log outcomes ports multi ns)

-- The size that a packet byte says: at SuperSpeed 512; at the other speeds the byte, where 0 says 8.
unfoldable pub size_said : BringUp → ℕ
size_said a = cond (is_super a.speed) 512 (cond (eqb a.packet 0) 8 a.packet)

-- A bring-up: Address, over zeros; after ReadHeader, where that is in order, the packet size; and, where the device has
-- configurations and they are read, the set configuration of the first, with no endpoint.
pub record BringUpReads (a : BringUp) (s : ℕ) (call : List ℕ → Left) : Type 0 where
  pub address :
      let route = route_string a.hubs a.parent a.port in
      let translator = translator_of a.speed a.hubs a.parent a.port in
      SentAt 0 command.Address (AddressReads s a.speed route translator a.root_port (control_ring a)) (call [])
  pub packet :
      HeaderRead a → SentAt 2 command.Evaluate (MaxPacketReads s (size_said a) (call []).ctx) (call (done_times 2))
  pub configure :
      let reads = 5 + configurations a.list in
      HeaderRead a →
      0 < length a.list →
      SentAt reads command.Configure (ConfigureReads s a.speed 0 0 [] [] [] [] (call (done_times 2)).ctx) (call (done_times reads))
  pub restore :
      let reads = 5 + configurations a.list in
      (code : ℕ) →
      (code ≡ 0 → ⊥) →
      HeaderRead a →
      0 < length a.list →
      SentAt (reads + 2) command.Configure (ConfigureReads s a.speed 0 0 [] [] [] [] (call (done_times reads)).ctx)
      (call (failed_after (reads + 1) code))
  pub evaluate :
      let reads = 5 + configurations a.list in
      HeaderRead a →
      0 < length a.list →
      SentAt (reads + 2) command.Evaluate (ConfigurationReads s (configuration_value (get_or a.list 0 0)) (call (done_times reads)).ctx)
      (call (done_times (reads + 2)))

abbrev pub BringUpContexts : Type 0
BringUpContexts =
    (a : BringUp) (ctx routes log : List ℕ) →
    bring_up_check a (length ctx) routes (length log) ≡ Pass →
    Byte a.port →
    Byte a.root_port →
    Byte a.packet →
    BusAddresses a.rings →
    BringUpReads a (spacing_of (length ctx)) (λ outcomes. bring_up a ctx routes log outcomes)
