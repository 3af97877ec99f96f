-- What a call's answer says of its count, its outcomes and all that it leaves, whatever record and table it gets.
use Rattle.std.specs.Prelude.{ℕ, ◌+◌, ◌<◌, ◌≤◌, ◌≡◌, Bool, true, false, not, ◌&&◌, ◌||◌, List, eqb, leb, length, get_or, take}
use Rattle.answer.specs.declared.Answer.{Answer}
use Rattle.answer.specs.declared.Answer.TheVariants as answer
use Rattle.answer.specs.Answer.{number, is_accepted, is_lost}
use Rattle.device.specs.declared.record.Device.{Device}
use Rattle.device.specs.Left.{Left, refused}
use Rattle.device.specs.Sound.{sound}
use Rattle.command.specs.Course.{context_at}
use Rattle.record_endpoint.specs.EndpointMap.{queues_of, queue_dcis}
use Rattle.course_claim.specs.Claim.{claim_course}
use Rattle.course_disconnect.specs.Disconnect.{disconnect_course}
use Rattle.course_release.specs.Release.{release_course}
use Rattle.course_set_configuration.specs.SetConfiguration.{set_course}
use Rattle.device.specs.Calls.{hub_context, hub_course}
use Rattle.device.specs.Claim.{drawn, claim_in}
use Rattle.device.specs.Release.{release_in}
use Rattle.device.specs.SetConfiguration.{settings_in}
use Rattle.context.specs.Place.{spacing_of}
use Rattle.device.specs.Device.{endpoint_map_in, no_device}
use Rattle.device_bring_up.specs.BringUp.{bring_up_course}
use Rattle.theorem_slot.specs.Call.{Buffers, Asked, brings_up, claims, commits, releases, configures, updates_hub, disconnects, Call, left, cut_at, context_cut}

-- Refused before any command: 1 to 12, 17, 21, 22, 25 and 26.
unfoldable pub is_refused : Answer → Bool
is_refused a = (leb 1 (number a) && leb (number a) 12) || (eqb (number a) 17 || (eqb (number a) 21 || (eqb (number a) 22 || (eqb (number a) 25 || eqb (number a) 26))))

-- A code that is the outcome of a logged command, and not 0.
pub record CodeOfOutcome (outcomes : List ℕ) (count code : ℕ) : Type 0 where
  pub place : ℕ
  pub logged : place < count
  pub there : place < length outcomes
  pub same : get_or outcomes place 0 ≡ code
  pub failure : code ≡ 0 → ⊥

pub record Accounted (outcomes : List ℕ) (l : Left) : Type 0 where
  -- cut: one command more than there are outcomes
  pub cut : l.answer ≡ answer.Cut → l.count ≡ length outcomes + 1
  -- any other answer: each logged command has its outcome
  pub whole : (l.answer ≡ answer.Cut → ⊥) → l.count ≤ length outcomes
  pub failed : (code : ℕ) → l.answer ≡ answer.Failed code → CodeOfOutcome outcomes l.count code
  -- 14, as any answer that is no refusal, comes after a command
  pub sent : is_refused l.answer ≡ false → 1 ≤ l.count

abbrev pub AnswersTell : Type 0
AnswersTell = (c : Call) (d : Device) (routes : List ℕ) → Accounted c.buffers.outcomes (left c.asked c.buffers d routes)

-- Surplus outcomes are not read: the same call, given only as many as it logged commands, leaves the same.
abbrev pub SurplusUnread : Type 0
SurplusUnread =
    (c : Call) (d : Device) (routes : List ℕ) →
    let l = left c.asked c.buffers d routes in
    left c.asked (cut_at l.count c.buffers) d routes ≡ l

-- Given only the outcomes before one of its commands, the same call is cut there, and its log is the same up to that command's word.
pub record CutThere (i : ℕ) (whole cut : Left) : Type 0 where
  pub answer : cut.answer ≡ answer.Cut
  pub count : cut.count ≡ i + 1
  pub words : take (i + 1) cut.log ≡ take (i + 1) whole.log

abbrev pub CutsAgree : Type 0
CutsAgree =
    (c : Call) (d : Device) (routes : List ℕ) (i : ℕ) →
    let l = left c.asked c.buffers d routes in
    i < l.count → CutThere i l (left c.asked (cut_at i c.buffers) d routes)

-- The context over which a call sends command i, by its course.
unfoldable pub command_context : Asked → Buffers → Device → List ℕ → ℕ → List ℕ
command_context (brings_up a) b d routes i =
    context_at b.outcomes 0 i (bring_up_course a (spacing_of (length b.ctx)) b.ctx routes)
command_context (claims interface alternate) b d routes i =
    context_at b.outcomes 0 i (claim_course (claim_in d interface alternate (drawn d interface alternate)) b.ctx routes)
command_context (commits p) b d routes i =
    context_at b.outcomes 0 i (claim_course (claim_in d p.interface p.alternate (drawn d p.interface p.alternate)) b.ctx routes)
command_context (releases interface) b d routes i =
    context_at b.outcomes 0 i (release_course (release_in d interface) b.ctx routes)
command_context (configures value) b d routes i = context_at b.outcomes 0 i (set_course (settings_in d value) b.ctx routes)
command_context (updates_hub ports multi ns) b d routes i =
    context_at b.outcomes 0 i (hub_course (hub_context d ports multi ns b.ctx))
command_context disconnects b d routes i =
    context_at b.outcomes 0 i (disconnect_course d.slot.0 (queue_dcis (queues_of (endpoint_map_in d).rings)) b.ctx routes)

-- It is the one that the call cut there leaves: so the plain slot's controller reads each command with its own context.
abbrev pub ContextsAgree : Type 0
ContextsAgree =
    (c : Call) (d : Device) (routes : List ℕ) (i : ℕ) →
    i < (left c.asked c.buffers d routes).count →
    context_cut c d routes i ≡ command_context c.asked c.buffers d routes i

-- The record that a refused call returns: the one that came, of a bring-up the empty one.
unfoldable pub refused_record : Asked → Device → Device
refused_record (brings_up a) d = no_device
refused_record (claims interface alternate) d = d
refused_record (commits p) d = d
refused_record (releases interface) d = d
refused_record (configures value) d = d
refused_record (updates_hub ports multi ns) d = d
refused_record disconnects d = d

-- Whether the record is usable after an answer that is no refusal: not after 14 and 15, of a bring-up after 0 only, of an unplugging
-- never.
unfoldable pub usable_after : Asked → Answer → Bool
usable_after (brings_up a) x = is_accepted x
usable_after (claims interface alternate) x = not (is_lost x)
usable_after (commits p) x = not (is_lost x)
usable_after (releases interface) x = not (is_lost x)
usable_after (configures value) x = not (is_lost x)
usable_after (updates_hub ports multi ns) x = not (is_lost x)
usable_after disconnects x = false

-- Whether it is up: of a bring-up after 0 only, of an unplugging after 14 and 15; every other call leaves it as it was.
unfoldable pub up_after : Asked → Answer → Bool → Bool
up_after (brings_up a) x was = is_accepted x
up_after (claims interface alternate) x was = was
up_after (commits p) x was = was
up_after (releases interface) x was = was
up_after (configures value) x was = was
up_after (updates_hub ports multi ns) x was = was
up_after disconnects x was = is_lost x

unfoldable pub is_bring_up : Asked → Bool
is_bring_up (brings_up a) = true
is_bring_up (claims interface alternate) = false
is_bring_up (commits p) = false
is_bring_up (releases interface) = false
is_bring_up (configures value) = false
is_bring_up (updates_hub ports multi ns) = false
is_bring_up disconnects = false

pub record GivenBack (c : Call) (d : Device) (routes : List ℕ) (l : Left) : Type 0 where
  -- refused: nothing that was lent is changed, and the count is 0
  pub refusal :
      is_refused l.answer ≡ true →
      l ≡ refused (refused_record c.asked d) l.answer c.buffers.ctx routes c.buffers.log
  -- any other answer: its marks, and that it is sound, of a bring-up where it is usable
  pub usable : is_refused l.answer ≡ false → l.device.usable ≡ usable_after c.asked l.answer
  pub up : is_refused l.answer ≡ false → l.device.up ≡ up_after c.asked l.answer d.up
  pub is_sound :
      is_refused l.answer ≡ false → (is_bring_up c.asked && not l.device.usable) ≡ false → sound l.device ≡ true

abbrev pub SoundReturned : Type 0
SoundReturned = (c : Call) (d : Device) (routes : List ℕ) → GivenBack c d routes (left c.asked c.buffers d routes)

-- So every call on a sound record returns a sound one, usable or not, bring-ups apart.
abbrev pub SoundStays : Type 0
SoundStays =
    (c : Call) (d : Device) (routes : List ℕ) → is_bring_up c.asked ≡ false → sound d ≡ true →
    sound (left c.asked c.buffers d routes).device ≡ true
