-- What a call's outcomes, log and context say of it, whatever record and table it gets.
use Rattle.std.specs.Prelude.{ℕ, ◌<◌, ◌≤◌, ◌≡◌, Bool, true, false, ◌&&◌, List, leb, length, get_or}
use Rattle.answer.specs.declared.Answer.TheVariants as answer
use Rattle.command.specs.Command.{operation_of}
use Rattle.device.specs.declared.record.Device.{Device}
use Rattle.device.specs.Left.{Left}
use Rattle.theorem_slot.specs.Call.{Asked, brings_up, claims, commits, releases, configures, updates_hub, disconnects, Call, left, context_cut}

unfoldable pub is_unplugging : Asked → Bool
is_unplugging (brings_up a) = false
is_unplugging (claims interface alternate) = false
is_unplugging (commits p) = false
is_unplugging (releases interface) = false
is_unplugging (configures value) = false
is_unplugging (updates_hub ports multi ns) = false
is_unplugging disconnects = true

-- Each of the first commands has an outcome, and it is 0: done.
abbrev pub AllDone : List ℕ → ℕ → Type 0
AllDone outcomes count = (k : ℕ) → k < count → (k < length outcomes) × (get_or outcomes k 0 ≡ 0)

-- An accepted call has only done commands: none goes on past one that failed. Only an unplugging does: it stops what it can.
abbrev pub AcceptedDone : Type 0
AcceptedDone =
    (c : Call) (d : Device) (routes : List ℕ) →
    is_unplugging c.asked ≡ false →
    (left c.asked c.buffers d routes).answer ≡ answer.Accepted →
    AllDone c.buffers.outcomes (left c.asked c.buffers d routes).count

-- A log has the length that it was lent with, and past its count the words.
pub record LogKept (lent : List ℕ) (l : Left) : Type 0 where
  pub long : length l.log ≡ length lent
  pub past : (k : ℕ) → l.count ≤ k → get_or l.log k 0 ≡ get_or lent k 0

abbrev pub LogLeft : Type 0
LogLeft = (c : Call) (d : Device) (routes : List ℕ) → LogKept c.buffers.log (left c.asked c.buffers d routes)

-- Whether a log word is of a command that reads the input context: Address, Evaluate or Configure.
unfoldable pub reads_context : ℕ → Bool
reads_context w = leb 1 (operation_of w) && leb (operation_of w) 3

-- The context is the one that the last of them read, and where there is none, as it was lent; `at i`: the one of command i.
pub record ContextRead (lent : List ℕ) (at : ℕ → List ℕ) (l : Left) : Type 0 where
  pub none : ((k : ℕ) → k < l.count → reads_context (get_or l.log k 0) ≡ false) → l.ctx ≡ lent
  pub last :
      (i : ℕ) → i < l.count → reads_context (get_or l.log i 0) ≡ true →
      ((k : ℕ) → i < k → k < l.count → reads_context (get_or l.log k 0) ≡ false) → l.ctx ≡ at i

-- What a command reads is what the same call leaves that is cut there (`ContextsAgree` of theorem_slot).
abbrev pub ContextLeft : Type 0
ContextLeft =
    (c : Call) (d : Device) (routes : List ℕ) →
    ContextRead c.buffers.ctx (context_cut c d routes) (left c.asked c.buffers d routes)
