-- Why a claim or a commit got its answer: the conditions of its checks in order, and the commands of its course along the outcomes.
use Rattle.std.specs.Prelude.{ℕ, ◌+◌, ◌*◌, ◌%◌, ◌^◌, Bool, cond, ◌&&◌, List, [], ◌∷◌, Option, Some, None, eqb, leb, length}
use Rattle.answer.specs.declared.Answer.{Answer}
use Rattle.answer.specs.declared.Answer.TheVariants as answer
use Rattle.answer.specs.Answer.{number, is_accepted, is_cut}
use Rattle.answer.specs.Check.{Check, Pass, Refuse}
use Rattle.descriptor_list.specs.Lookup.{find_endpoints}
use Rattle.command.specs.declared.Sent.{Sent}
use Rattle.command.specs.declared.Sent.TheVariants.{Done, Failed, Cut}
use Rattle.command.specs.Command.{LOG-ROOM, command_word, outcome_at}
use Rattle.command.specs.Course.{Course, ends, sends, result}
use Rattle.record_endpoint.specs.declared.endpoint_map.EndpointMap.{EndpointMap}
use Rattle.record_settings.specs.Held.{is_found, setting_words}
use Rattle.record_settings.specs.Match.{address_free}
use Rattle.course_steps.specs.End.{End}
use Rattle.course_claim.specs.Claim.{claim_course}
use Rattle.device.specs.declared.record.Device.{Device}
use Rattle.device.specs.Device.{list_of, endpoint_map_in, free_of}
use Rattle.device.specs.Sound.{sound}
use Rattle.device.specs.Claim.{drawn, claim_in}
use Rattle.device.specs.Ask.{Ask, ask_of, same_ask}
use Rattle.reason.specs.declared.Reason.{Reason}
use Rattle.reason.specs.declared.Reason.TheVariants as reason
use Rattle.reason.specs.Reason.{owner_of}

-- A condition, with the answer and the reason where it is the first that does not hold.
pub record Condition : Type 0 where
  pub holds : Bool
  pub answer : Answer
  pub reason : Reason

abbrev pub asks : Bool → Answer → Reason → Condition
asks holds answer reason = record { holds = holds; answer = answer; reason = reason }

-- One for each endpoint word, in their order, and then others.
unfoldable pub owners_asked : List ℕ → ℕ → EndpointMap → List Condition → List Condition
owners_asked [] i c next = next
owners_asked (w ∷ ws) i c next =
    asks (address_free w i c) answer.InvalidParameter (reason.Endpoint (w % 2 ^ 32) (owner_of w c)) ∷ owners_asked ws i c next

-- 12, 1, 2, 3, 8, 9 for each word, 21, and then others.
unfoldable pub conditions : Device → ℕ → ℕ → ℕ → ℕ → ℕ → List Condition → List Condition
conditions d ctx routes log i a next =
    let words = setting_words (list_of d) i a in
    asks (d.usable && sound d) answer.Unusable (reason.Number 12)
    ∷ asks (eqb ctx (33 * d.spacing)) answer.ContextLength (reason.Number 1)
    ∷ asks (eqb routes (32 * (d.max_slots + 1))) answer.RoutesLength (reason.Number 2)
    ∷ asks (leb LOG-ROOM log) answer.LogTooShort (reason.Number 3)
    ∷ asks (is_found (find_endpoints (list_of d) i a)) answer.NotFound (reason.Alternate i a)
    ∷ owners_asked words i (endpoint_map_in d)
    (asks (leb (length words) (length (free_of d))) answer.TooFewRings reason.Rings ∷ next)

-- Of a commit, 22 besides.
unfoldable pub current_asked : Device → Ask → List Condition
current_asked d p = asks (same_ask p (ask_of d p.interface p.alternate)) answer.OutdatedAsk (reason.Number 22) ∷ []

-- The first that does not hold.
unfoldable pub first_unmet : List Condition → Option Condition
first_unmet [] = None
first_unmet (c ∷ cs) = cond c.holds (first_unmet cs) (Some c)

unfoldable pub check_of : Option Condition → Check
check_of None = Pass
check_of (Some c) = Refuse c.answer

-- The first command of a course that fails, along the outcomes; where none does, what is said otherwise.
unfoldable pub on_outcome : Sent → Reason → Reason → Reason
on_outcome (Failed code) failed next = failed
on_outcome Done failed next = next
on_outcome Cut failed next = next

unfoldable pub failed_along : {A : Type 0} → List ℕ → ℕ → Course A → Reason → Reason
failed_along o n (ends x) otherwise = otherwise
failed_along o n (sends c ctx k) otherwise =
    on_outcome (outcome_at o n) (reason.Command n (command_word c)) (failed_along o (n + 1) (k (outcome_at o n)) otherwise)

-- What a course came to: nothing where it is accepted, its number where it was cut, else the first failed command, or its number.
unfoldable pub end_reason : List ℕ → Answer → Course End → Reason
end_reason o x course =
    cond (is_accepted x) reason.Nothing (cond (is_cut x) (reason.Number (number x)) (failed_along o 0 course (reason.Number (number x))))

unfoldable pub unmet_reason : Option Condition → Reason → Reason
unmet_reason None next = next
unmet_reason (Some c) next = c.reason

-- Why the claim of an interface's alternate got its answer, with some conditions more.
unfoldable pub why_with : List Condition → Device → List ℕ → List ℕ → List ℕ → List ℕ → ℕ → ℕ → Reason
why_with next d ctx routes log o i a =
    let course = claim_course (claim_in d i a (drawn d i a)) ctx routes in
    unmet_reason (first_unmet (conditions d (length ctx) (length routes) (length log) i a next)) (end_reason o (result o 0 course).answer course)

abbrev pub why_claim : Device → List ℕ → List ℕ → List ℕ → List ℕ → ℕ → ℕ → Reason
why_claim d ctx routes log o i a = why_with [] d ctx routes log o i a

abbrev pub why_commit : Device → List ℕ → List ℕ → List ℕ → List ℕ → Ask → Reason
why_commit d ctx routes log o p = why_with (current_asked d p) d ctx routes log o p.interface p.alternate
