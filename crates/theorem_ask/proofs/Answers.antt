-- The checks of a claim refuse neither with 0 nor with 22, and its course does not end with 22.
use Rattle.std.proofs.Common.{Ok, Err, Result, is_some}
use Prim.Native.Nat.{ℕ, ◌+◌, ◌*◌}
use mathlib.Core.Path.{◌≡◌, refl, ap}
use mathlib.Core.Bool.{Bool, true, false, not, cond, ◌&&◌, ◌||◌}
use mathlib.Core.List.{List}
use lib.Dec.{eqb, leb}
use lib.ListN.{length}
use Rattle.laws.proofs.Tests.{not_both}
use Rattle.answer.specs.declared.Answer.{Answer}
use Rattle.answer.specs.declared.Answer.TheVariants as answer
use Rattle.answer.specs.Check.{Check, Pass, Refuse}
use Rattle.answer.specs.Answer.{number}
use Rattle.command.specs.declared.Sent.{Sent}
use Rattle.command.specs.declared.Sent.TheVariants as sent
use Rattle.command.specs.Course.{Course, ends, result}
use Rattle.command.proofs.Cuts.{each_outcome}
use Rattle.command.proofs.EachEnd.{EachEnd, end_of, end_then}
use Rattle.command.specs.Sweep.{stop_endpoints, resume_stopped_endpoints, or_code}
use Rattle.descriptor_list.specs.Lookup.{find_endpoints}
use Rattle.record_endpoint.specs.EndpointMap.{queue_dcis}
use Rattle.record_settings.specs.Held.{is_found, setting_words}
use Rattle.record_settings.specs.Match.{addresses_free}
use Rattle.transfer.specs.declared.RouteError.{RouteError}
use Rattle.transfer.specs.Routes.{replaced}
use Rattle.course_steps.specs.End.{End, settings_kept, published, answer_of}
use Rattle.course_claim.specs.Claim.{Claim, claim_publish, claim_switch_back, claim_undone, claim_undo, claim_switch, claim_resume, claim_configure, claim_course}
use Rattle.device.specs.declared.record.Device.{Device}
use Rattle.device.specs.Device.{list_of, endpoint_map_in, free_of}
use Rattle.device.specs.Sound.{sound}
use Rattle.device.specs.Check.{record_check}
use Rattle.device.specs.Claim.{claim_check}
use Rattle.device.specs.Ask.{ask_check}

-- An answer that is neither.
abbrev is_other : Answer → Bool
is_other a = not (eqb (number a) 0 || eqb (number a) 22)

unfoldable refuses_other : Check → Bool
refuses_other (Ok _) = true
refuses_other (Err a) = is_other a

other_if : (b : Bool) (x : Check) (a : Answer) → is_other a ≡ true → refuses_other x ≡ true → refuses_other (cond b x (Refuse a)) ≡ true
unfolding refuses_other
other_if true x a o e = e
other_if false x a o e = o

pass_other : refuses_other Pass ≡ true
unfolding refuses_other
pass_other = refl

ask_other : (d : Device) (ctx routes log i a : ℕ) → refuses_other (ask_check d ctx routes log i a Pass) ≡ true
unfolding ask_check record_check claim_check number
ask_other d ctx routes log i a =
    other_if (d.usable && sound d) _ answer.Unusable refl
    (other_if (eqb ctx (33 * d.spacing)) _ answer.ContextLength refl
    (other_if (eqb routes (32 * (d.max_slots + 1))) _ answer.RoutesLength refl
    (other_if (leb 64 log) _ answer.LogTooShort refl
    (other_if (is_found (find_endpoints (list_of d) i a)) _ answer.NotFound refl
    (other_if (addresses_free (setting_words (list_of d) i a) i (endpoint_map_in d)) _ answer.InvalidParameter refl
    (other_if (leb (length (setting_words (list_of d) i a)) (length (free_of d))) _ answer.TooFewRings refl pass_other))))))

module _ (d : Device) (ctx routes log i a : ℕ) (z : Answer) (e : ask_check d ctx routes log i a Pass ≡ Refuse z) where
  other : is_other z ≡ true
  unfolding refuses_other
  other = rw e at (ask_other d ctx routes log i a)

  pub not_accepted : z ≡ answer.Accepted → ⊥
  unfolding number
  not_accepted h = not_both (is_other z) other (ap is_other h)

  pub not_outdated : z ≡ answer.OutdatedAsk → ⊥
  unfolding number
  not_outdated h = not_both (is_other z) other (ap is_other h)

abbrev Current : End → Type 0
Current e = eqb (number e.answer) 22 ≡ false

abbrev CurrentEnds : Course End → Type 0
CurrentEnds = EachEnd Current

current_later : (code : ℕ) (s : Sent) → eqb (number (answer_of (or_code code s))) 22 ≡ false
unfolding answer_of or_code number
current_later code sent.Done = refl
current_later code (sent.Failed later) = refl
current_later code sent.Cut = refl

module _ (a : Claim) where
  moved : (r : Result Unit RouteError) (ctx routes : List ℕ) → Current (published r answer.InterfaceBroken true a.args.slot.0 a.old a.pending ctx routes)
  unfolding published number
  moved (Ok _) ctx routes = refl
  moved (Err _) ctx routes = refl

  undone : (b : Bool) (code : ℕ) (ctx routes : List ℕ) →
      CurrentEnds (cond b (claim_switch_back a code ctx routes) (ends (settings_kept (answer.Failed code) (length a.old) ctx routes)))
  unfolding EachEnd claim_switch_back number
  undone true code ctx routes = each_outcome CurrentEnds _ _ _ refl (λ later. refl) refl
  undone false code ctx routes = refl

  undo : (code : ℕ) (ctx routes : List ℕ) → CurrentEnds (claim_undo a code ctx routes)
  unfolding EachEnd claim_undo claim_undone number
  undo code ctx routes = each_outcome CurrentEnds _ _ _ (undone (is_some a.args.held_alternate) code _ routes) (λ later. refl) refl

  switched : (ctx routes : List ℕ) → CurrentEnds (claim_switch a ctx routes)
  unfolding EachEnd claim_switch claim_publish number
  switched ctx routes =
      each_outcome CurrentEnds _ _ _ (moved (replaced routes a.args.slot.0 a.old a.pending) ctx routes) (λ code. undo code ctx routes) refl

  resumed : (code : ℕ) (ctx routes : List ℕ) → CurrentEnds (claim_resume a code ctx routes)
  unfolding EachEnd claim_resume
  resumed code ctx routes = end_then Current (resume_stopped_endpoints ctx (queue_dcis a.old)) _ (λ r. current_later code r.sent)

  configured : (ctx routes : List ℕ) → CurrentEnds (claim_configure a ctx routes)
  unfolding EachEnd claim_configure number
  configured ctx routes = each_outcome CurrentEnds _ _ _ (switched _ routes) (λ code. resumed code _ routes) refl

  claimed : (ctx routes : List ℕ) → CurrentEnds (claim_course a ctx routes)
  unfolding EachEnd claim_course number
  claimed ctx routes =
      end_then Current (stop_endpoints ctx (queue_dcis a.old)) _
      (λ r. each_outcome CurrentEnds _ _ _ (configured ctx routes) (λ code. refl) refl r.sent)

  pub claim_current : (o ctx routes : List ℕ) → (result o 0 (claim_course a ctx routes)).answer ≡ answer.OutdatedAsk → ⊥
  unfolding number
  claim_current o ctx routes h =
      not_both (eqb (number (result o 0 (claim_course a ctx routes)).answer) 22) (ap (λ x. eqb (number x) 22) h)
      (end_of Current o 0 (claim_course a ctx routes) (claimed ctx routes))
