-- What ask, commit and claim are to each other, whatever the record, the outcomes and all that is lent: proofs/Promises.antt proves
-- each `..Promise`.
use Rattle.std.specs.Prelude.{ℕ, ◌+◌, ◌/◌, ◌%◌, ◌^◌, ◌<◌, ◌≤◌, true, false, List, ◌≡◌, length, get_or, replicate}
use Rattle.answer.specs.declared.Answer.{Answer}
use Rattle.answer.specs.declared.Answer.TheVariants as answer
use Rattle.answer.specs.Answer.{is_accepted}
use Rattle.command.specs.declared.Command.TheVariants as command
use Rattle.command.specs.Command.{command_word}
use Rattle.context_block.specs.Fields.{DROP-FLAG, ADD-FLAG}
use Rattle.context.specs.Place.{CONTROL, read_at}
use Rattle.record_endpoint.specs.declared.endpoint_map.Owner.TheVariants.{Interface}
use Rattle.record_endpoint.specs.Order.{PLACES}
use Rattle.record_endpoint.specs.EndpointMap.{owned_rings, queues_of}
use Rattle.device.specs.declared.record.Device.{Device}
use Rattle.device.specs.Device.{endpoint_map_in}
use Rattle.device.specs.Left.{Left, refused}
use Rattle.device.specs.Claim.{claim}
use Rattle.device.specs.Ask.{Ask, no_ask, ask_of, ask, commit}

module _ (d : Device) (ctx routes log outcomes : List ℕ) where
  abbrev pub asked_now : ℕ → ℕ → Answer × Ask
  asked_now i a = ask d (length ctx) (length routes) (length log) i a

  -- What an ask says of the claim and the commit that are lent the same.
  pub record AskTells (i a : ℕ) (r : Answer × Ask) : Type 0 where
    -- accepted: the commit of what it returned is the claim, in all that it returns and leaves
    pub accepted : r.0 ≡ answer.Accepted → commit d ctx routes log outcomes r.1 ≡ claim d ctx routes log outcomes i a
    -- refused: it returns nothing, and the claim is refused as it was, and so is a commit of any ask for this interface and alternate
    pub nothing : is_accepted r.0 ≡ false → r.1 ≡ no_ask
    pub claims : is_accepted r.0 ≡ false → claim d ctx routes log outcomes i a ≡ refused d r.0 ctx routes log
    pub commits :
        is_accepted r.0 ≡ false → (p : Ask) → p.interface ≡ i → p.alternate ≡ a →
        commit d ctx routes log outcomes p ≡ refused d r.0 ctx routes log

  -- 22, by what an ask for the same interface and alternate would now return.
  pub record OutdatedTells (p : Ask) (r : Answer × Ask) (l : Left) : Type 0 where
    -- something else
    pub other : r.0 ≡ answer.Accepted → (r.1 ≡ p → ⊥) → l.answer ≡ answer.OutdatedAsk
    -- more rings than any ask returns
    pub many : r.0 ≡ answer.Accepted → PLACES < length p.rings → l.answer ≡ answer.OutdatedAsk
    -- no other commit gets it
    pub only : l.answer ≡ answer.OutdatedAsk → (r.0 ≡ answer.Accepted) × (r.1 ≡ p → ⊥)
    -- it changes nothing, and the record stays usable
    pub left : l.answer ≡ answer.OutdatedAsk → (l ≡ refused d answer.OutdatedAsk ctx routes log) × (d.usable ≡ true)

abbrev pub AskPromise : Type 0
AskPromise =
    (d : Device) (ctx routes log outcomes : List ℕ) (i a : ℕ) →
    AskTells d ctx routes log outcomes i a (asked_now d ctx routes log outcomes i a)

-- A claim is the commit of what its ask returns where it is accepted.
abbrev pub ClaimPromise : Type 0
ClaimPromise =
    (d : Device) (ctx routes log outcomes : List ℕ) (i a : ℕ) →
    claim d ctx routes log outcomes i a ≡ commit d ctx routes log outcomes (ask_of d i a)

abbrev pub OutdatedPromise : Type 0
OutdatedPromise =
    (d : Device) (ctx routes log outcomes : List ℕ) (p : Ask) →
    OutdatedTells d ctx routes log outcomes p (asked_now d ctx routes log outcomes p.interface p.alternate)
    (commit d ctx routes log outcomes p)

-- The flags are those of the claim's first Configure: of the context that the claim leaves when all its Stops are done and it is cut there.
-- Bits 0 and 1 are 0.
pub record FlagsShown (d : Device) (stops : ℕ) (p : Ask) (l : Left) : Type 0 where
  pub count : l.count ≡ stops + 1
  pub word : get_or l.log stops 0 ≡ command_word command.Configure
  pub drops : (k : ℕ) → 2 ≤ k → k < 32 → read_at d.spacing l.ctx CONTROL (DROP-FLAG k) ≡ p.drops / 2 ^ k % 2
  pub adds : (k : ℕ) → 2 ≤ k → k < 32 → read_at d.spacing l.ctx CONTROL (ADD-FLAG k) ≡ p.adds / 2 ^ k % 2
  pub low : (p.drops % 4 ≡ 0) × (p.adds % 4 ≡ 0)
  pub high : (p.drops < 2 ^ 32) × (p.adds < 2 ^ 32)

abbrev pub AskFlagsPromise : Type 0
AskFlagsPromise =
    (d : Device) (ctx routes log : List ℕ) (i a : ℕ) →
    let stops = length (queues_of (owned_rings (Interface i) (endpoint_map_in d))) in
    let outcomes = replicate {A = ℕ} stops 0 in
    let r = asked_now d ctx routes log outcomes i a in
    r.0 ≡ answer.Accepted → FlagsShown d stops r.1 (claim d ctx routes log outcomes i a)
