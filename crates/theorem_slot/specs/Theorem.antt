-- Demand 3: what every list of calls on a slot leaves of its routes and of its controller's endpoints.
use Rattle.std.specs.Prelude.{ℕ, ◌+◌, ◌*◌, ◌<◌, ◌≤◌, ◌≡◌, Bool, true, false, not, cond, ◌&&◌, ◌||◌, List, [], ◌∷◌, leb, ltb, length, get_or, take}
use Rattle.answer.specs.declared.Answer.{Answer}
use Rattle.answer.specs.declared.Answer.TheVariants as answer
use Rattle.def.specs.Speed.{exponent_ok}
use Rattle.answer.specs.Answer.{is_accepted}
use Rattle.answer.specs.Check.{Pass}
use Rattle.command.specs.declared.Sent.TheVariants.{Done}
use Rattle.command.specs.Command.{outcome_at}
use Rattle.context_block.specs.Blocks.{some_dci}
use Rattle.context.specs.Steps.{word_dcis}
use Rattle.transfer.specs.Routes.{route_of, queues, ring_for, OutsideSlot}
use Rattle.record_settings.specs.Held.{setting_words}
use Rattle.course_init.specs.Reading.{BringUp}
use Rattle.device_bring_up.specs.BringUp.{slot_check, device_check, bring_up}
use Rattle.device.specs.declared.record.Device.{Device}
use Rattle.device.specs.Device.{quarantined_of}
use Rattle.device.specs.Left.{Left}
use Rattle.device.specs.Sound.{sound}
use Rattle.device.specs.Check.{record_check}
use Rattle.device.specs.Claim.{claim_check}
use Rattle.theorem_slot.specs.Call.{Buffers, Asked, brings_up, claims, commits, releases, configures, updates_hub, disconnects, Call, left, context_cut, OfSlot}
use Rattle.theorem_slot.specs.Groups.{drawn_from}
use Rattle.theorem_slot.specs.Plain.{Plain, is_up, is_unplugged, is_not_up, plain_route, is_held_dci, effect_of, begun, observed}

-- The record and the table as the calls hand them on, and the plain slot beside them.
pub record State : Type 0 where
  pub device : Device
  pub routes : List ℕ
  pub plain : Plain

-- A call on the slot, as its caller makes it.
pub record Turn : Type 0 where
  pub call : Call
  -- the table that it gets
  pub table : List ℕ
  -- whether he keeps the record that he had, where it is a bring-up that is not accepted
  pub keeps : Bool

-- The record that he has after it.
unfoldable pub record_after : Asked → Bool → Answer → Device → Device → Device
record_after (brings_up a) keeps answer had returned = cond (keeps && not (is_accepted answer)) had returned
record_after (claims interface alternate) keeps answer had returned = returned
record_after (commits p) keeps answer had returned = returned
record_after (releases interface) keeps answer had returned = returned
record_after (configures value) keeps answer had returned = returned
record_after (updates_hub ports multi ns) keeps answer had returned = returned
record_after disconnects keeps answer had returned = returned

-- One call. The plain slot reads its answer and the words that it logged; its controller the context that the same call leaves when
-- it is cut at a command.
unfoldable pub called : State → Turn → State
called s t =
    let c = t.call in
    let l = left c.asked c.buffers s.device t.table in
    record {
      device = record_after c.asked t.keeps l.answer s.device l.device;
      routes = l.routes;
      plain =
          observed (effect_of c.asked) c.buffers l.answer (take l.count l.log)
          (context_cut c s.device t.table)
          s.plain;
    }

unfoldable pub after : State → List Turn → State
after s [] = s
after s (t ∷ ts) = after (called s t) ts

-- A table that a call of the slot gets, beside the one that the last call left: calls of other slots may have written words of theirs
-- in between, but none that is `still`.
pub record Between (slot : ℕ) (still : ℕ → Bool) (left now : List ℕ) : Type 0 where
  pub long : length now ≡ length left
  pub own : (d : ℕ) → d < 32 → route_of now slot d ≡ route_of left slot d
  pub others : (k : ℕ) → still k ≡ true → get_or now k 0 ≡ get_or left k 0

-- Calls of this slot, each with such a table.
unfoldable pub Turns : ℕ → (ℕ → Bool) → State → List Turn → Type 0
Turns slot still s [] = Unit {0}
Turns slot still s (t ∷ ts) =
    OfSlot slot t.call.asked × (Between slot still s.routes t.table × Turns slot still (called s t) ts)

-- The slot after its accepted bring-up.
unfoldable pub start : BringUp → Left → State
start b l = record { device = l.device; routes = l.routes; plain = begun b }

-- Until the device is unplugged no other bring-up of the slot passes its checks, while nobody else writes its word 1: it sends no
-- command and leaves the table.
abbrev pub NoOtherBringUp : ℕ → State → Type 0
NoOtherBringUp slot s =
    is_unplugged s.plain.phase ≡ false → (b : BringUp) (l : Buffers) (table : List ℕ) →
    b.slot ≡ slot →
    route_of table slot 1 ≡ route_of s.routes slot 1 →
    let brought = bring_up b l.ctx table l.log l.outcomes in
    (brought.count ≡ 0) × (brought.routes ≡ table)

-- What holds of a slot, where `before` is the table before its first bring-up.
pub record Kept (slot : ℕ) (still : ℕ → Bool) (before : List ℕ) (s : State) : Type 0 where
  pub long : length s.routes ≡ length before
  -- its routes are the plain slot's, unless a bring-up failed after it was unplugged
  pub own : is_not_up s.plain.phase ≡ false → (d : ℕ) → d < 32 → route_of s.routes slot d ≡ plain_route s.plain d
  -- every other word is as before, unless somebody else wrote it
  pub others : (k : ℕ) → OutsideSlot slot k → still k ≡ true → get_or s.routes k 0 ≡ get_or before k 0
  -- control is enabled while the device is up
  pub control : is_up s.plain.phase ≡ true → s.plain.enabled 1 ≡ true
  -- before the first broken or cut answer the other enabled endpoints are the held ones
  pub enabled :
      is_up s.plain.phase ≡ true → s.plain.broken ≡ false → (d : ℕ) → 2 ≤ d → d < 32 →
      s.plain.enabled d ≡ is_held_dci s.plain d
  -- while it is unplugged, no word of the slot is a route and no endpoint is enabled
  pub empty :
      is_unplugged s.plain.phase ≡ true → (d : ℕ) → d < 32 → (route_of s.routes slot d ≡ 0) × (s.plain.enabled d ≡ false)
  -- while it is not, another bring-up is refused, so that it spoils nothing of this
  pub no_other : NoOtherBringUp slot s

-- For every slot whose routes were all 0, every accepted bring-up of it and whatever calls follow: P of the slot, the words that
-- nobody else writes, the table before its bring-up and the state after the calls.
abbrev pub AfterBringUp : (ℕ → (ℕ → Bool) → List ℕ → State → Type 0) → Type 0
AfterBringUp P =
    (b : BringUp) (l : Buffers) (routes : List ℕ) (still : ℕ → Bool) (turns : List Turn) →
    ((d : ℕ) → d < 32 → route_of routes b.slot d ≡ 0) →
    (bring_up b l.ctx routes l.log l.outcomes).answer ≡ answer.Accepted →
    Turns b.slot still (start b (bring_up b l.ctx routes l.log l.outcomes)) turns →
    P b.slot still routes (after (start b (bring_up b l.ctx routes l.log l.outcomes)) turns)

abbrev pub Demand3 : Type 0
Demand3 = AfterBringUp Kept

-- Beside it, so that calls which refuse everything do not meet it: the record is sound while it is usable,
abbrev pub SoundWhileUsable : Type 0
SoundWhileUsable = AfterBringUp (λ slot still before s. s.device.usable ≡ true → sound s.device ≡ true)

-- and a claim that passes its checks, with every outcome done, is accepted, and the rings that it draws are routed, whatever calls of
-- other slots have made of the table.
pub record ClaimRouted (slot : ℕ) (words rings : List ℕ) (l : Left) : Type 0 where
  pub accepted : l.answer ≡ answer.Accepted
  pub routed :
      (d : ℕ) → d < 32 → some_dci d words ≡ true → route_of l.routes slot d ≡ ring_for d (queues (word_dcis words) rings) 0

abbrev pub ClaimsAccepted : Type 0
ClaimsAccepted =
    AfterBringUp
    (λ slot still before s.
    (i a : ℕ) (l : Buffers) (table : List ℕ) → i < 256 → a < 256 →
    Between slot still s.routes table →
    record_check s.device (length l.ctx) (length table) (length l.log) (claim_check s.device i a Pass) ≡ Pass →
    ((k : ℕ) → k < 32 → outcome_at l.outcomes k ≡ Done) →
    let words = setting_words s.plain.list i a in
    ClaimRouted slot words (drawn_from s.plain.groups (length words)) (left (claims i a) l s.device table))

-- Not only the first bring-up works: on an unplugged slot, one whose other checks pass, with 8 header bytes and, at SuperSpeed, the
-- exponent 9, every outcome done, is accepted; what follows goes on from there.
abbrev pub BroughtUpAgain : Type 0
BroughtUpAgain =
    AfterBringUp
    (λ slot still before s.
    is_unplugged s.plain.phase ≡ true → (b : BringUp) (l : Buffers) (table : List ℕ) →
    b.slot ≡ slot →
    Between slot still s.routes table →
    slot_check b (length l.ctx) (length table) (length l.log) (device_check b Pass) ≡ Pass →
    b.header ≡ 8 →
    exponent_ok b.speed b.packet ≡ true →
    ((k : ℕ) → k < 64 → outcome_at l.outcomes k ≡ Done) →
    (left (brings_up b) l s.device table).answer ≡ answer.Accepted)

-- An accepted bring-up begins the plain slot anew, whatever was before: its phase, its settings and its mark too.
abbrev pub BegunAnew : Type 0
BegunAnew =
    (s : State) (t : Turn) (b : BringUp) →
    t.call.asked ≡ brings_up b →
    (left (brings_up b) t.call.buffers s.device t.table).answer ≡ answer.Accepted →
    (called s t).plain ≡ begun b

-- Of one call: the slot whose routes it may write.
unfoldable pub slot_of : Asked → Device → ℕ
slot_of (brings_up a) d = a.slot
slot_of (claims interface alternate) d = d.slot.0
slot_of (commits p) d = d.slot.0
slot_of (releases interface) d = d.slot.0
slot_of (configures value) d = d.slot.0
slot_of (updates_hub ports multi ns) d = d.slot.0
slot_of disconnects d = d.slot.0

-- A table of the same length, in which every word outside the slot is as it was.
pub record Untouched (slot : ℕ) (before now : List ℕ) : Type 0 where
  pub long : length now ≡ length before
  pub words : (k : ℕ) → OutsideSlot slot k → get_or now k 0 ≡ get_or before k 0

-- Every call leaves every word outside its slot as it was, whatever record and table it gets.
abbrev pub OutsideUntouched : Type 0
OutsideUntouched =
    (c : Call) (d : Device) (routes : List ℕ) →
    Untouched (slot_of c.asked d) routes (left c.asked c.buffers d routes).routes

-- So a call of another slot leaves a table that a call of this one may get.
unfoldable pub is_outside : ℕ → ℕ → Bool
is_outside slot k = ltb k (32 * slot) || leb (32 * slot + 32) k

abbrev pub OthersBetween : Type 0
OthersBetween =
    (c : Call) (d : Device) (routes : List ℕ) (slot : ℕ) →
    (slot_of c.asked d ≡ slot → ⊥) →
    Between slot (is_outside (slot_of c.asked d)) routes (left c.asked c.buffers d routes).routes

-- Every call logs at most 63 words, so the shortest log has room for them: 30 endpoints stopped, three commands, all resumed.
abbrev pub FewWords : Type 0
FewWords = (c : Call) (d : Device) (routes : List ℕ) → (left c.asked c.buffers d routes).count ≤ 63

-- A sound record that is usable has no quarantined ring.
abbrev pub NoneQuarantined : Type 0
NoneQuarantined = (d : Device) → d.usable ≡ true → sound d ≡ true → quarantined_of d ≡ []
