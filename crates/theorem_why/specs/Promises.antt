-- What the reason of a claim or a commit is: proofs/Promises.antt, Said.antt and Owner.antt prove each `..Promise`.
use Rattle.std.specs.Prelude.{ℕ, ◌%◌, ◌^◌, ◌<◌, ◌≡◌, ◌↔◌, ◌⊎◌, Bool, false, ◌||◌, List, [], eqb, length, get_or, take}
use Rattle.answer.specs.declared.Answer.TheVariants as answer
use Rattle.answer.specs.Answer.{number}
use Rattle.answer.specs.Check.{Pass}
use Rattle.device.specs.declared.record.Device.{Device}
use Rattle.device.specs.Check.{record_check}
use Rattle.device.specs.Left.{Left}
use Rattle.device.specs.Claim.{claim_check, claim}
use Rattle.device.specs.Ask.{Ask, ask_check, current_check, commit}
use Rattle.reason.specs.declared.Reason.{Reason}
use Rattle.reason.specs.declared.Reason.TheVariants as reason
use Rattle.reason.specs.Reason.{claim_reason}
use Rattle.theorem_checks.specs.Descriptors.{address_of, Listed}
use Rattle.theorem_checks.specs.Record.{list_in, EndpointAt}
use Rattle.theorem_why.specs.Why.{conditions, current_asked, first_unmet, check_of, why_claim, why_commit}

-- The checks are these conditions: refused is with the answer of the first that does not hold.
pub record ChecksAre (d : Device) (ctx routes log : ℕ) : Type 0 where
  pub claim :
      (i a : ℕ) → record_check d ctx routes log (claim_check d i a Pass) ≡ check_of (first_unmet (conditions d ctx routes log i a []))
  pub commit :
      (p : Ask) →
      ask_check d ctx routes log p.interface p.alternate (current_check d p)
      ≡ check_of (first_unmet (conditions d ctx routes log p.interface p.alternate (current_asked d p)))

abbrev pub ConditionsPromise : Type 0
ConditionsPromise = (d : Device) (ctx routes log : ℕ) → ChecksAre d ctx routes log

-- What the code works out from the record that is left, the answer, the logged words and the outcomes is the reason.
abbrev pub told_of : Left → List ℕ → ℕ → ℕ → Reason
told_of l o i a = claim_reason l.device i a (number l.answer) (take l.count l.log) o

pub record ReasonTold (d : Device) (ctx routes log o : List ℕ) : Type 0 where
  pub claim : (i a : ℕ) → told_of (claim d ctx routes log o i a) o i a ≡ why_claim d ctx routes log o i a
  pub commit : (p : Ask) → told_of (commit d ctx routes log o p) o p.interface p.alternate ≡ why_commit d ctx routes log o p

abbrev pub ReasonPromise : Type 0
ReasonPromise = (d : Device) (ctx routes log o : List ℕ) → ReasonTold d ctx routes log o

-- The answers whose reason says more than the number.
unfoldable pub has_reason : ℕ → Bool
has_reason n = eqb n 0 || (eqb n 8 || (eqb n 9 || (eqb n 13 || (eqb n 14 || eqb n 21))))

-- A reason that names the first failed command: its place in the log, with its word there.
pub record Failing (o : List ℕ) (l : Left) (why : Reason) : Type 0 where
  pub place : ℕ
  pub named : why ≡ reason.Command place (get_or l.log place 0)
  pub logged : place < l.count
  pub failure : get_or o place 0 ≡ 0 → ⊥
  pub first : (k : ℕ) → k < place → get_or o k 0 ≡ 0

-- What the reason says beside each answer: none exactly if accepted; of 8 the alternate, of 21 the rings; a failed command for each 13, and
-- for 14 if one failed; for all else but 9, a cut too, the number.
pub record Said (i a : ℕ) (o : List ℕ) (l : Left) (why : Reason) : Type 0 where
  pub nothing : (why ≡ reason.Nothing) ↔ (number l.answer ≡ 0)
  pub missing : l.answer ≡ answer.NotFound → why ≡ reason.Alternate i a
  pub rings : l.answer ≡ answer.TooFewRings → why ≡ reason.Rings
  pub failed : (code : ℕ) → l.answer ≡ answer.Failed code → Failing o l why
  pub broken :
      l.answer ≡ answer.InterfaceBroken →
      Failing o l why ⊎ ((why ≡ reason.Number 14) × ((k : ℕ) → k < l.count → get_or o k 0 ≡ 0))
  pub others : has_reason (number l.answer) ≡ false → why ≡ reason.Number (number l.answer)

pub record SaidOf (d : Device) (ctx routes log o : List ℕ) : Type 0 where
  pub claim : (i a : ℕ) → Said i a o (claim d ctx routes log o i a) (why_claim d ctx routes log o i a)
  pub commit : (p : Ask) → Said p.interface p.alternate o (commit d ctx routes log o p) (why_commit d ctx routes log o p)

abbrev pub SaidPromise : Type 0
SaidPromise = (d : Device) (ctx routes log o : List ℕ) → SaidOf d ctx routes log o

-- Of 9: the first endpoint word of the alternate, as lookup lists it, at whose address the record has an endpoint of another interface, and
-- that interface; of the word its own 32 bits, without its companion. Every endpoint at the address of a word before it is the interface's
-- own.
pub record OtherOwner (d : Device) (i a : ℕ) (why : Reason) : Type 0 where
  pub words : List ℕ
  pub listed : Listed (list_in d) i a words
  pub place : ℕ
  pub inside : place < length words
  pub owner : ℕ
  pub named : why ≡ reason.Endpoint (get_or words place 0 % 2 ^ 32) owner
  pub other : owner ≡ i → ⊥
  pub at : ℕ
  pub ring : ℕ
  pub there : EndpointAt d at (address_of (get_or words place 0)) owner ring
  pub first : (k : ℕ) → k < place → (j own r : ℕ) → EndpointAt d j (address_of (get_or words k 0)) own r → own ≡ i

pub record OwnerOf (d : Device) (ctx routes log o : List ℕ) : Type 0 where
  pub claim :
      (i a : ℕ) → (claim d ctx routes log o i a).answer ≡ answer.InvalidParameter → OtherOwner d i a (why_claim d ctx routes log o i a)
  pub commit :
      (p : Ask) → (commit d ctx routes log o p).answer ≡ answer.InvalidParameter →
      OtherOwner d p.interface p.alternate (why_commit d ctx routes log o p)

abbrev pub OwnerPromise : Type 0
OwnerPromise = (d : Device) (ctx routes log o : List ℕ) → OwnerOf d ctx routes log o
