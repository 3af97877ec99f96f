-- What the checks of each call ask, in their order, and the answer where one does not hold: 01, "Who can cause an answer", and 02.
-- proofs/Checks.antt proves that the calls check this.
use Rattle.std.specs.Prelude.{ℕ, ◌+◌, ◌*◌, ◌<◌, ◌≤◌, ◌≡◌, ◌⊎◌, ⊤, true, Bool, List, [], ◌∷◌, length, get_or}
use Rattle.answer.specs.declared.Answer.{Answer}
use Rattle.answer.specs.declared.Answer.TheVariants as answer
use Rattle.course_init.specs.Reading.{BringUp}
use Rattle.device.specs.declared.record.Device.{Device}
use Rattle.device.specs.Ask.{Ask, no_ask, ask}
use Rattle.device.specs.Left.{Left, refused}
use Rattle.theorem_slot.specs.Call.{Buffers, Asked, brings_up, claims, commits, releases, configures, updates_hub, disconnects, Call, left}
use Rattle.theorem_slot.specs.Answers.{refused_record}
use Rattle.theorem_checks.specs.Descriptors.{address_of, IsSuper, ListFits, CompanionsFit, Listed}
use Rattle.theorem_checks.specs.Hubs.{ChainFits}
use Rattle.theorem_checks.specs.Record.{list_in, EndpointAt, Holds, SoundRecord, RingsFit, FreeRings}

-- What one check asks, and the answer where that does not hold.
pub record Condition : Type 1 where
  pub asks : Type 0
  pub answer : Answer

abbrev pub asked : Type 0 → Answer → Condition
asked asks a = record { asks = asks; answer = a }

-- All of some conditions hold.
unfoldable pub AllHold : List Condition → Type 0
AllHold [] = ⊤
AllHold (c ∷ cs) = c.asks × AllHold cs

-- The first of them that does not hold has this answer.
unfoldable pub FirstFails : List Condition → Answer → Type 0
FirstFails [] a = ⊥
FirstFails (c ∷ cs) a = ((c.asks → ⊥) × (c.answer ≡ a)) ⊎ (c.asks × FirstFails cs a)

-- One of them has this answer.
unfoldable pub Gives : List Condition → Answer → Type 0
Gives [] a = ⊥
Gives (c ∷ cs) a = (c.answer ≡ a) ⊎ Gives cs a

-- 12: the record has a mark, and is sound.
pub record Fit (mark : Bool) (d : Device) : Type 0 where
  pub marked : mark ≡ true
  pub is_sound : SoundRecord d

-- 1: 1,056 bytes at a spacing of 32, 2,112 at 64.
abbrev pub ContextFits : ℕ → ℕ → Type 0
ContextFits spacing n = ((spacing ≡ 32) × (n ≡ 1056)) ⊎ ((spacing ≡ 64) × (n ≡ 2112))

-- 2: 32 words for each slot from 0 to N. 3: 64 words or more.
abbrev pub RoutesFit : ℕ → ℕ → Type 0
RoutesFit slots n = n ≡ 32 * (slots + 1)

-- 12, 1, 2, 3, and then the call's own.
abbrev pub fit_conditions : Bool → Device → ℕ → ℕ → ℕ → List Condition → List Condition
fit_conditions mark d ctx routes log own =
    asked (Fit mark d) answer.Unusable
    ∷ asked (ContextFits d.spacing ctx) answer.ContextLength
    ∷ asked (RoutesFit d.max_slots routes) answer.RoutesLength
    ∷ asked (64 ≤ log) answer.LogTooShort
    ∷ own

-- 8: lookup finds the alternate.
pub record IsListed (d : Device) (interface alternate : ℕ) : Type 0 where
  pub words : List ℕ
  pub listed : Listed (list_in d) interface alternate words

-- 9: no address of it is another interface's.
abbrev pub NoneOwned : Device → ℕ → ℕ → Type 0
NoneOwned d interface alternate =
    (words : List ℕ) → Listed (list_in d) interface alternate words →
    (k : ℕ) → k < length words → (j owner ring : ℕ) → EndpointAt d j (address_of (get_or words k 0)) owner ring → owner ≡ interface

-- 21: as many rings are free as it has endpoint words.
abbrev pub EnoughFree : Device → ℕ → ℕ → Type 0
EnoughFree d interface alternate = (words : List ℕ) → Listed (list_in d) interface alternate words → FreeRings d (length words)

-- 8, 9, 21, and then what follows.
abbrev pub claim_conditions : Device → ℕ → ℕ → List Condition → List Condition
claim_conditions d interface alternate next =
    asked (IsListed d interface alternate) answer.NotFound
    ∷ asked (NoneOwned d interface alternate) answer.InvalidParameter
    ∷ asked (EnoughFree d interface alternate) answer.TooFewRings
    ∷ next

-- 22: an ask for the same interface and alternate, lent the same, would return this.
abbrev pub WouldReturn : Device → ℕ → ℕ → ℕ → Ask → Type 0
WouldReturn d ctx routes log p = ask d ctx routes log p.interface p.alternate ≡ (answer.Accepted, p)

-- 25: the interface holds a setting.
pub record HoldsSome (d : Device) (interface : ℕ) : Type 0 where
  pub alternate : ℕ
  pub held : Holds d interface alternate

abbrev pub release_conditions : Device → ℕ → List Condition
release_conditions d interface = asked (HoldsSome d interface) answer.NotClaimed ∷ []

-- 7: at High speed 0, or 666 to 3,329 nanoseconds.
abbrev pub ThinkFits : ℕ → ℕ → Type 0
ThinkFits speed ns = speed ≡ 3 → (ns ≡ 0) ⊎ ((666 ≤ ns) × (ns ≤ 3329))

abbrev pub hub_conditions : Device → ℕ → List Condition
hub_conditions d ns = asked (ThinkFits d.port_speed ns) answer.ThinkTime ∷ []

-- 11: a slot from 1 to N, N at most 255.
pub record SlotFits (slot slots : ℕ) : Type 0 where
  pub low : 1 ≤ slot
  pub high : slot ≤ slots
  pub bound : slots ≤ 255

-- 11, 1, 2, 3, 6, 4, 26, 5, 10, 17: the last, that the word of Dci 1 is 0.
abbrev pub bring_up_conditions : BringUp → ℕ → List ℕ → ℕ → List Condition
bring_up_conditions a ctx routes log =
    asked (SlotFits a.slot a.max_slots) answer.SlotLimitReached
    ∷ asked ((ctx ≡ 1056) ⊎ (ctx ≡ 2112)) answer.ContextLength
    ∷ asked (RoutesFit a.max_slots (length routes)) answer.RoutesLength
    ∷ asked (64 ≤ log) answer.LogTooShort
    ∷ asked ((1 ≤ a.speed) × (a.speed ≤ 5)) answer.Speed
    ∷ asked (ListFits a.speed a.list) answer.DescriptorList
    ∷ asked (IsSuper a.speed → CompanionsFit a.list) answer.Companion
    ∷ asked (ChainFits a.hubs a.parent) answer.HubChain
    ∷ asked (RingsFit a.rings) answer.Rings
    ∷ asked (get_or routes (32 * a.slot + 1) 0 ≡ 0) answer.QueueFull
    ∷ []

-- The checks of each call, on a record and a table.
unfoldable pub conditions : Asked → Buffers → Device → List ℕ → List Condition
conditions (brings_up a) b d routes = bring_up_conditions a (length b.ctx) routes (length b.log)
conditions (claims interface alternate) b d routes =
    fit_conditions d.usable d (length b.ctx) (length routes) (length b.log) (claim_conditions d interface alternate [])
conditions (commits p) b d routes =
    fit_conditions d.usable d (length b.ctx) (length routes) (length b.log)
    (claim_conditions d p.interface p.alternate
    (asked (WouldReturn d (length b.ctx) (length routes) (length b.log) p) answer.OutdatedAsk ∷ []))
conditions (releases interface) b d routes =
    fit_conditions d.usable d (length b.ctx) (length routes) (length b.log) (release_conditions d interface)
conditions (configures value) b d routes = fit_conditions d.usable d (length b.ctx) (length routes) (length b.log) []
conditions (updates_hub ports multi ns) b d routes =
    fit_conditions d.usable d (length b.ctx) (length routes) (length b.log) (hub_conditions d ns)
conditions disconnects b d routes = fit_conditions d.up d (length b.ctx) (length routes) (length b.log) []

-- All conditions hold, or one is the first that does not.
abbrev pub Either : List Condition → Type 0
Either cs = AllHold cs ⊎ ((a : Answer) × FirstFails cs a)

-- A call sends a command exactly if all its conditions hold. Else it is refused with the answer of the first that does not, and only then
-- has it one of these answers; nothing is changed.
pub record Judged (cs : List Condition) (refusal : Answer → Left) (l : Left) : Type 0 where
  pub either : Either cs
  pub passes : AllHold cs → 1 ≤ l.count
  pub passed : 1 ≤ l.count → AllHold cs
  pub refuses : (a : Answer) → FirstFails cs a → l ≡ refusal a
  pub refused_by : (a : Answer) → Gives cs a → l.answer ≡ a → FirstFails cs a

abbrev pub PassExactly : Type 0
PassExactly =
    (c : Call) (d : Device) (routes : List ℕ) →
    Judged (conditions c.asked c.buffers d routes)
    (λ a. refused (refused_record c.asked d) a c.buffers.ctx routes c.buffers.log)
    (left c.asked c.buffers d routes)

-- An ask is accepted exactly if the conditions of the claim hold, and else refused with the same answer, returning nothing.
pub record AskJudged (cs : List Condition) (r : Answer × Ask) : Type 0 where
  pub either : Either cs
  pub passes : AllHold cs → r.0 ≡ answer.Accepted
  pub passed : r.0 ≡ answer.Accepted → AllHold cs
  pub refuses : (a : Answer) → FirstFails cs a → r ≡ (a, no_ask)
  pub refused_by : (a : Answer) → Gives cs a → r.0 ≡ a → FirstFails cs a

abbrev pub AskPasses : Type 0
AskPasses =
    (d : Device) (ctx routes log interface alternate : ℕ) →
    AskJudged (fit_conditions d.usable d ctx routes log (claim_conditions d interface alternate [])) (ask d ctx routes log interface alternate)
