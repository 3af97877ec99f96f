-- An accepted claim: its checks passed, and it keeps list and speed and takes its setting in.
use Rattle.std.specs.Prelude.{ℕ, ◌+◌, ◌*◌, ◌≡◌, Bool, true, false, ◌&&◌, Ok, Err, List, eqb, leb, length}
use mathlib.Core.Path.{refl, ap, ◌∙◌}
use native.Mathlib.Omega.{arith}
use Rattle.answer.specs.declared.Answer.{Answer}
use Rattle.answer.specs.declared.Answer.TheVariants as answer
use Rattle.answer.specs.Answer.{number}
use Rattle.answer.specs.Check.{Check, Pass, Refuse, unless}
use Rattle.command.specs.Command.{LOG-ROOM}
use Rattle.command.specs.Course.{result, played}
use Rattle.descriptor_list.specs.Lookup.{find_endpoints}
use Rattle.record_settings.specs.Held.{with_setting, setting_words, is_found}
use Rattle.record_settings.specs.Match.{addresses_free}
use Rattle.course_claim.specs.Claim.{claim_course}
use Rattle.course_claim.proofs.Laws.{claim_moved}
use Rattle.device.specs.declared.record.Device.{Device}
use Rattle.device.specs.Device.{list_of, endpoint_map_in, held_of, free_of, Same}
use Rattle.device.specs.Sound.{sound}
use Rattle.device.specs.Left.{Left, refused, ended}
use Rattle.device.specs.Check.{check_marked, record_check}
use Rattle.device.specs.Calls.{on_check}
use Rattle.device.specs.Claim.{claim_check, drawn, claim_in, claim_run, claim}
use Rattle.device.proofs.Kept.{claim_moves}

-- What a check refuses with is not 0.
Refusing : Check → Type 0
Refusing k = (z : Answer) → k ≡ Refuse z → number z ≡ 0 → ⊥

passing : Refusing Pass
unfolding Refusing
passing z e q = absurd (cc)

unless_refusing : (b : Bool) (a : Answer) (k : Check) → (number a ≡ 0 → ⊥) → Refusing k → Refusing (unless b a k)
unfolding Refusing
unless_refusing true a k n r z e q = r z e q
unless_refusing false a k n r z e q = n (same e ∙ q)
  where
    same : Refuse a ≡ Refuse z → number a ≡ number z
    same e = let s : a ≡ z = cc in ap number s

claim_refusing : (d : Device) (ctx routes log i a : ℕ) → Refusing (record_check d ctx routes log (claim_check d i a Pass))
unfolding record_check check_marked claim_check number
claim_refusing d ctx routes log i a =
    unless_refusing (d.usable && sound d) answer.Unusable _ (λ e. omega arith)
    (unless_refusing (eqb ctx (33 * d.spacing)) answer.ContextLength _ (λ e. omega arith)
    (unless_refusing (eqb routes (32 * (d.max_slots + 1))) answer.RoutesLength _ (λ e. omega arith)
    (unless_refusing (leb LOG-ROOM log) answer.LogTooShort _ (λ e. omega arith)
    (unless_refusing (is_found (find_endpoints (list_of d) i a)) answer.NotFound _ (λ e. omega arith)
    (unless_refusing (addresses_free (setting_words (list_of d) i a) i (endpoint_map_in d)) answer.InvalidParameter _ (λ e. omega arith)
    (unless_refusing (leb (length (setting_words (list_of d) i a)) (length (free_of d))) answer.TooFewRings _ (λ e. omega arith) passing))))))

-- What an accepted claim of a setting leaves.
pub record TakenIn (d e : Device) (i a : ℕ) : Type 0 where
  pub same : Same d e
  pub held : held_of e ≡ with_setting i a (held_of d)
  pub is_sound : sound e ≡ true

module _ (d : Device) (ctx routes log outcomes : List ℕ) (i a : ℕ) where
  abbrev run : Left
  run = claim_run d ctx routes log outcomes i a (drawn d i a)

  check : Check
  check = record_check d (length ctx) (length routes) (length log) (claim_check d i a Pass)

  ran : check ≡ Pass → run.answer ≡ answer.Accepted → TakenIn d run.device i a
  unfolding ended played check
  ran k e =
      let v = claim_moved (claim_in d i a (drawn d i a)) ctx routes outcomes 0 in
      let m = claim_moves d (length ctx) (length routes) (length log) i a k (result outcomes 0 (claim_course (claim_in d i a (drawn d i a)) ctx routes)) (v.by_answer.1 e) in
      record { same = m.same; held = m.held; is_sound = m.is_sound }

  judged : (k : Check) → check ≡ k → Refusing k → (on_check k run (λ z. refused d z ctx routes log)).answer ≡ answer.Accepted →
      TakenIn d (on_check k run (λ z. refused d z ctx routes log)).device i a
  unfolding on_check refused Refusing number
  judged (Ok tt) q r e = ran q e
  judged (Err z) q r e = absurd (r z refl (ap number e))

  pub taken_in : (claim d ctx routes log outcomes i a).answer ≡ answer.Accepted → TakenIn d (claim d ctx routes log outcomes i a).device i a
  unfolding claim check
  taken_in e = judged check refl (claim_refusing d (length ctx) (length routes) (length log) i a) e
