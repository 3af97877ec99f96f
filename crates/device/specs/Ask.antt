-- A claim in two calls: the ask shows what it would do, the commit does it.
use Rattle.std.specs.Prelude.{ℕ, ◌≤◌, Bool, ◌&&◌, List, [], ◌≡◌, eqb, length, take, Ok, Err}
use Rattle.answer.specs.declared.Answer.{Answer}
use Rattle.answer.specs.declared.Answer.TheVariants as answer
use Rattle.answer.specs.Check.{Check, Pass, unless}
use Rattle.context_block.specs.Flags.{flags_of}
use Rattle.record_endpoint.specs.Order.{PLACES}
use Rattle.record_checks.specs.Draw.{same_rings}
use Rattle.device.specs.declared.record.Device.{Device}
use Rattle.device.specs.declared.ask.Asked.{Asked}
use Rattle.device.specs.declared.ask.Preview.{Preview}
use Rattle.device.specs.Left.{Left, refused}
use Rattle.device.specs.Check.{record_check}
use Rattle.device.specs.Calls.{on_check}
use Rattle.device.specs.Claim.{claim_check, drawn, claim_in, claim_run}

-- What an ask returns and a commit is given: the flags of the endpoints that the claim would drop and add, bit d for Dci d, and the rings
-- that it would draw, in the order of the endpoint words.
pub record Ask : Type 0 where
  pub interface : ℕ
  pub alternate : ℕ
  pub drops : ℕ
  pub adds : ℕ
  pub rings : List ℕ

abbrev pub asking : ℕ → ℕ → ℕ → ℕ → List ℕ → Ask
asking interface alternate drops adds rings =
    record { interface = interface; alternate = alternate; drops = drops; adds = adds; rings = rings }

-- What a commit is given in the code's words.
abbrev pub ask_in : Asked → Ask
ask_in a = asking a.interface a.alternate a.drops a.adds a.rings.now

-- What a refused ask returns.
unfoldable pub no_ask : Ask
no_ask = asking 0 0 0 0 []

-- What an accepted one returns, from what the claim would work on.
unfoldable pub ask_of : Device → ℕ → ℕ → Ask
ask_of d interface alternate =
    let a = claim_in d interface alternate (drawn d interface alternate) in
    asking interface alternate (flags_of a.old_words) (flags_of a.new_words) (drawn d interface alternate)

-- The checks of a claim, and then what follows.
unfoldable pub ask_check : Device → ℕ → ℕ → ℕ → ℕ → ℕ → Check → Check
ask_check d ctx routes log interface alternate next = record_check d ctx routes log (claim_check d interface alternate next)

unfoldable pub returned : Check → Ask → Answer × Ask
returned (Ok _) p = (answer.Accepted, p)
returned (Err a) p = (a, no_ask)

-- An ask, lent a context, a table and a log of these lengths: its answer and what it returns.
unfoldable pub ask : Device → ℕ → ℕ → ℕ → ℕ → ℕ → Answer × Ask
ask d ctx routes log interface alternate =
    returned (ask_check d ctx routes log interface alternate Pass) (ask_of d interface alternate)

-- The same flags, and the same rings in number and order.
unfoldable pub same_ask : Ask → Ask → Bool
same_ask p q = eqb p.drops q.drops && (eqb p.adds q.adds && same_rings p.rings q.rings)

-- 22, after the checks of a claim.
unfoldable pub current_check : Device → Ask → Check
current_check d p = unless (same_ask p (ask_of d p.interface p.alternate)) answer.OutdatedAsk Pass

unfoldable pub commit : Device → List ℕ → List ℕ → List ℕ → List ℕ → Ask → Left
commit d ctx routes log outcomes p =
    let interface = p.interface in
    let alternate = p.alternate in
    on_check (ask_check d (length ctx) (length routes) (length log) interface alternate (current_check d p))
    (claim_run d ctx routes log outcomes interface alternate (drawn d interface alternate))
    (λ a. refused d a ctx routes log)

-- What the code's ask hands back is its answer and what it returns, with at most 30 rings.
pub record PreviewAs (r : Preview) (x : Answer × Ask) : Type 0 where
  pub told : (r.answer, asking r.interface r.alternate r.drops r.adds (take r.count r.rings)) ≡ x
  pub room : r.count ≤ PLACES
