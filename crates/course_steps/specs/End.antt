-- How the course of a claim, a release or a set configuration ends, the record apart.
use Rattle.std.specs.Prelude.{ℕ, Bool, true, false, List, Result, Ok, Err, ◌≡◌}
use Rattle.answer.specs.declared.Answer.{Answer}
use Rattle.answer.specs.declared.Answer.TheVariants as answer
use Rattle.command.specs.declared.Sent.{Sent}
use Rattle.command.specs.declared.Sent.TheVariants as sent
use Rattle.command.specs.Course.{Course, ends, then}
use Rattle.command.specs.Sweep.{resume_stopped_endpoints}
use Rattle.transfer.specs.declared.RouteError.{RouteError}
use Rattle.transfer.specs.Routes.{Queue, replaced, with_replaced}

pub record End : Type 0 where
  pub answer : Answer
  -- of the old endpoints, by rising address, how many are active
  pub active : ℕ
  -- whether the old settings are ended and their routes taken out
  pub moved : Bool
  -- whether it was lost with a Configure sent, so that the controller may hold the rings of new endpoints
  pub doubted : Bool
  pub ctx : List ℕ
  pub routes : List ℕ

abbrev pub settings_kept : Answer → ℕ → List ℕ → List ℕ → End
settings_kept a n ctx routes = record { answer = a; active = n; moved = false; doubted = false; ctx = ctx; routes = routes }

abbrev pub settings_moved : Answer → List ℕ → List ℕ → End
settings_moved a ctx routes = record { answer = a; active = 0; moved = true; doubted = false; ctx = ctx; routes = routes }

-- Settings kept, with the mark.
abbrev pub settings_marked : Answer → ℕ → Bool → List ℕ → List ℕ → End
settings_marked a n b ctx routes = record { answer = a; active = n; moved = false; doubted = b; ctx = ctx; routes = routes }

abbrev pub settings_doubted : Answer → List ℕ → List ℕ → End
settings_doubted a ctx routes = settings_marked a 0 true ctx routes

unfoldable pub is_unanswered : Sent → Bool
is_unanswered sent.Done = false
is_unanswered (sent.Failed code) = false
is_unanswered sent.Cut = true

-- The answer of a failed or cut command.
unfoldable pub answer_of : Sent → Answer
answer_of sent.Done = answer.Accepted
answer_of (sent.Failed code) = answer.Failed code
answer_of sent.Cut = answer.Cut

-- A failed Configure in a release or a set configuration: its code, whether the endpoints are resumed or not; a cut is a cut.
unfoldable pub configure_failed : ℕ → Sent → Answer
configure_failed code sent.Done = answer.Failed code
configure_failed code (sent.Failed later) = answer.Failed code
configure_failed code sent.Cut = answer.Cut

-- Old routes out and new ones in: accepted; where the routes do not allow it nothing is moved, the answer is `refused`, and the mark
-- is `doubted`.
unfoldable pub published : Result Unit RouteError → Answer → Bool → ℕ → List Queue → List Queue → List ℕ → List ℕ → End
published (Ok _) refused doubted slot old new ctx routes = settings_moved answer.Accepted ctx (with_replaced routes slot old new)
published (Err _) refused doubted slot old new ctx routes = settings_marked refused 0 doubted ctx routes

abbrev pub move_routes : Answer → Bool → ℕ → List Queue → List Queue → List ℕ → List ℕ → End
move_routes refused doubted slot old new ctx routes = published (replaced routes slot old new) refused doubted slot old new ctx routes

-- Endpoints are resumed; how that ends decides the answer.
unfoldable pub resumed : (Sent → Answer) → List ℕ → List ℕ → List ℕ → Course End
resumed of dcis ctx routes = then (resume_stopped_endpoints ctx dcis) (λ r. ends (settings_kept (of r.sent) r.active ctx routes))

-- Calls that give the answer to each outcome.
abbrev pub Answers : (Sent → Answer → Type 0) → (Sent → Answer) → Type 0
Answers post of = (s : Sent) (a : Answer) → post s a → a ≡ of s
