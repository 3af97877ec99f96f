-- What a call puts in quarantine, by its answer and its log, whatever record and table it gets. An unplugging is in theorem_slot.
use Rattle.std.specs.Prelude.{ℕ, ◌<◌, ◌≡◌, true, false, List, length, get_or, take}
use Rattle.laws.specs.Distinct.{elem}
use Rattle.answer.specs.Answer.{is_lost}
use Rattle.command.specs.declared.Sent.TheVariants.{Done}
use Rattle.command.specs.Command.{operation_of, outcome_at}
use Rattle.context_block.specs.Blocks.{word_dci}
use Rattle.record_endpoint.specs.Endpoint.{rings_of}
use Rattle.record_settings.specs.Held.{setting_words}
use Rattle.theorem_controller.specs.Controller.{CONFIGURE, SET-CONFIGURATION}
use Rattle.device.specs.declared.record.Device.{Device}
use Rattle.device.specs.Device.{list_of, quarantined_of}
use Rattle.device.specs.Claim.{drawn}
use Rattle.theorem_slot.specs.Call.{Asked, brings_up, claims, commits, releases, configures, updates_hub, disconnects, Call, left, OfSlot}
use Rattle.theorem_slot.specs.Answers.{is_bring_up}
use Rattle.theorem_calls.specs.Commands.{is_unplugging}

-- A command of an operation is among logged words; one that is done.
pub record SentOf (operation : ℕ) (words : List ℕ) : Type 0 where
  pub place : ℕ
  pub inside : place < length words
  pub word : operation_of (get_or words place 0) ≡ operation

pub record DoneOf (operation : ℕ) (outcomes words : List ℕ) : Type 0 where
  pub sent : SentOf operation words
  pub done : outcome_at outcomes sent.place ≡ Done

-- A ring that was drawn for an endpoint word which no later word of the same Dci follows.
pub record KeptRing (words rings : List ℕ) (x : ℕ) : Type 0 where
  pub place : ℕ
  pub inside : place < length words
  pub drawn : get_or rings place 0 ≡ x
  pub last : (k : ℕ) → place < k → k < length words → word_dci (get_or words k 0) ≡ word_dci (get_or words place 0) → ⊥

-- The commands after which the controller may hold rings that the record does not: a claim's or a commit's Configure, whatever its
-- outcome; a done SetConfiguration.
unfoldable pub Doubting : Asked → List ℕ → List ℕ → Type 0
Doubting (brings_up a) outcomes words = ⊥
Doubting (claims interface alternate) outcomes words = SentOf CONFIGURE words
Doubting (commits p) outcomes words = SentOf CONFIGURE words
Doubting (releases interface) outcomes words = ⊥
Doubting (configures value) outcomes words = DoneOf SET-CONFIGURATION outcomes words
Doubting (updates_hub ports multi ns) outcomes words = ⊥
Doubting disconnects outcomes words = ⊥

-- Those rings: the drawn ones that are kept; the record's endpoints'.
unfoldable pub InDoubt : Asked → Device → ℕ → Type 0
InDoubt (brings_up a) d x = ⊥
InDoubt (claims interface alternate) d x = KeptRing (setting_words (list_of d) interface alternate) (drawn d interface alternate) x
InDoubt (commits p) d x = KeptRing (setting_words (list_of d) p.interface p.alternate) (drawn d p.interface p.alternate) x
InDoubt (releases interface) d x = ⊥
InDoubt (configures value) d x = elem x (rings_of (take d.ep_count d.eps)) ≡ true
InDoubt (updates_hub ports multi ns) d x = ⊥
InDoubt disconnects d x = ⊥

-- Exactly some rings are quarantined.
pub record Quarantined (d : Device) (Rings : ℕ → Type 0) : Type 0 where
  pub all : (x : ℕ) → Rings x → elem x (quarantined_of d) ≡ true
  pub only : (x : ℕ) → elem x (quarantined_of d) ≡ true → Rings x

-- A call that is lost after such a command quarantines these rings,
abbrev pub DoubtQuarantined : Type 0
DoubtQuarantined =
    (c : Call) (d : Device) (routes : List ℕ) → is_bring_up c.asked ≡ false → OfSlot d.slot.0 c.asked →
    let l = left c.asked c.buffers d routes in
    is_lost l.answer ≡ true → Doubting c.asked c.buffers.outcomes (take l.count l.log) →
    Quarantined l.device (InDoubt c.asked d)

-- and any other call, an unplugging apart, none.
abbrev pub NoneElseQuarantined : Type 0
NoneElseQuarantined =
    (c : Call) (d : Device) (routes : List ℕ) → is_bring_up c.asked ≡ false → is_unplugging c.asked ≡ false → OfSlot d.slot.0 c.asked →
    let l = left c.asked c.buffers d routes in
    (is_lost l.answer ≡ true → Doubting c.asked c.buffers.outcomes (take l.count l.log) → ⊥) →
    quarantined_of l.device ≡ quarantined_of d
