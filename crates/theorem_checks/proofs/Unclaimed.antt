-- The release of an interface that is not claimed.
use Prim.Native.Nat.{ℕ, ◌≤◌}
use mathlib.Core.Path.{◌≡◌, refl, sym, ap, ◌∙◌}
use mathlib.Core.Logic.{◌⊎◌, inl, inr}
use mathlib.Core.Bool.{true, false}
use mathlib.Core.List.{List}
use native.Mathlib.Omega.{arith}
use lib.ListN.{length}
use Rattle.laws.proofs.Tests.{not_both}
use Rattle.answer.specs.declared.Answer.{Answer}
use Rattle.answer.specs.declared.Answer.TheVariants as answer
use Rattle.answer.specs.Answer.{number}
use Rattle.answer.specs.Check.{Pass}
use Rattle.command.specs.Course.{result, played}
use Rattle.record_settings.specs.Held.{is_held}
use Rattle.record_settings.proofs.Laws.{held_without}
use Rattle.course_steps.specs.End.{End}
use Rattle.course_release.specs.Release.{release_course}
use Rattle.course_release.proofs.Laws.{Says, release_says}
use Rattle.device.specs.declared.record.Device.{Device}
use Rattle.device.specs.Device.{held_of}
use Rattle.device.specs.Left.{Left, refused, ended}
use Rattle.device.specs.Check.{record_check}
use Rattle.device.specs.Release.{release_check, release_in, release_record, release_run, release}
use Rattle.device.proofs.Kept.{release_moves, release_stays}
use Rattle.theorem_slot.specs.Call.{Buffers, releases, Call, left}
use Rattle.theorem_slot.specs.Answers.{is_refused, refused_record}
use Rattle.theorem_slot.proofs.Returned.{sound_returned}
use Rattle.theorem_slot.proofs.Step.{on_mild, mild_release}
use Rattle.theorem_checks.specs.Checks.{Condition, AllHold, FirstFails, HoldsSome, conditions, Judged}
use Rattle.theorem_checks.specs.Unclaimed.{IdleRelease, Unclaimed, UnclaimedPromise}
use Rattle.theorem_checks.proofs.Record.{holds_held, held_holds}
use Rattle.theorem_checks.proofs.Checks.{pass_exactly}

-- A check's number is its answer's.
same_number : (a x : Answer) (n : ℕ) → a ≡ x → number x ≡ n → number a ≡ n
same_number a x n e h = ap number e ∙ h

refused_eight : (x : Answer) → number x ≡ 8 → is_refused x ≡ true
unfolding is_refused
refused_eight x e = rw e refl

refused_idle : (x : Answer) → number x ≡ 25 → is_refused x ≡ true
unfolding is_refused
refused_idle x e = rw e refl

module _ (d : Device) (b : Buffers) (routes : List ℕ) (i : ℕ) where
  abbrev l : Left
  l = release d b.ctx routes b.log b.outcomes i

  abbrev cs : List Condition
  cs = conditions (releases i) b d routes

  call : Call
  call = record { asked = releases i; buffers = b }

  judged : Judged cs (λ a. refused d a b.ctx routes b.log) l
  unfolding call refused_record left
  judged = pass_exactly call d routes

  -- A refusal sends nothing, so what is asked fails somewhere.
  fails_first : is_refused l.answer ≡ true → FirstFails cs l.answer
  unfolding call left refused
  fails_first r = go judged.either
    where
      go : AllHold cs ⊎ ((a : Answer) × FirstFails cs a) → FirstFails cs l.answer
      go (inl h) =
          absurd (omega (arith, judged.passes h, ap (λ (m : Left). m.count) ((sound_returned call d routes).refusal r)))
      go (inr (a, f)) = rw (sym (ap (λ (m : Left). m.answer) (judged.refuses a f))) at f

  first_idle : (x : Answer) → FirstFails cs x → number x ≡ 25 → IdleRelease d b routes i
  unfolding FirstFails conditions number
  first_idle x (inl n) e = absurd (omega (arith, same_number _ x 25 n.1 e))
  first_idle x (inr (f, inl n)) e = absurd (omega (arith, same_number _ x 25 n.1 e))
  first_idle x (inr (f, inr (c, inl n))) e = absurd (omega (arith, same_number _ x 25 n.1 e))
  first_idle x (inr (f, inr (c, inr (t, inl n)))) e = absurd (omega (arith, same_number _ x 25 n.1 e))
  first_idle x (inr (f, inr (c, inr (t, inr (g, inl n))))) e = record { fit = f; context = c; table = t; log = g; idle = n.0 }
  first_idle x (inr (f, inr (c, inr (t, inr (g, inr n))))) e = absurd n.1

  fails : IdleRelease d b routes i → FirstFails cs answer.NotClaimed
  unfolding FirstFails conditions
  fails r = inr (r.fit, inr (r.context, inr (r.table, inr (r.log, inl (r.idle, refl)))))

  idle : number l.answer ≡ 25 → IdleRelease d b routes i
  idle e = first_idle l.answer (fails_first (refused_idle l.answer e)) e

  nothing : IdleRelease d b routes i → l ≡ refused d answer.NotClaimed b.ctx routes b.log
  nothing r = judged.refuses answer.NotClaimed (fails r)

  unclaimed : IdleRelease d b routes i → number l.answer ≡ 25
  unfolding refused number
  unclaimed r = ap (λ (m : Left). number m.answer) (nothing r)

  usable : IdleRelease d b routes i → l.device.usable ≡ true
  unfolding refused
  usable r = ap (λ (m : Left). m.device.usable) (nothing r) ∙ r.fit.marked

  -- None of what is asked is answered with 8.
  first_eight : (x : Answer) → FirstFails cs x → number x ≡ 8 → ⊥
  unfolding FirstFails conditions number
  first_eight x (inl n) e = omega (arith, same_number _ x 8 n.1 e)
  first_eight x (inr (f, inl n)) e = omega (arith, same_number _ x 8 n.1 e)
  first_eight x (inr (f, inr (c, inl n))) e = omega (arith, same_number _ x 8 n.1 e)
  first_eight x (inr (f, inr (c, inr (t, inl n)))) e = omega (arith, same_number _ x 8 n.1 e)
  first_eight x (inr (f, inr (c, inr (t, inr (g, inl n))))) e = omega (arith, same_number _ x 8 n.1 e)
  first_eight x (inr (f, inr (c, inr (t, inr (g, inr n))))) e = n.1

  found : number l.answer ≡ 8 → ⊥
  found e = first_eight l.answer (fails_first (refused_eight l.answer e)) e

  claimed : 1 ≤ l.count → HoldsSome d i
  unfolding AllHold conditions
  claimed n = (judged.passed n).1.1.1.1.0

  -- The end of the course.
  module _ (k : record_check d (length b.ctx) (length routes) (length b.log) (release_check d i) ≡ Pass) where
    abbrev run : Left
    run = release_run d b.ctx routes b.log b.outcomes i

    abbrev end : End
    end = result b.outcomes 0 (release_course (release_in d i) b.ctx routes)

    gone : number run.answer ≡ 0 → is_held i (held_of run.device) ≡ false
    unfolding ended played number
    gone e = go (release_says (release_in d i) routes b.outcomes b.ctx 0)
      where
        go : Says (release_in d i) routes end → is_held i (held_of (release_record d i end)) ≡ false
        go (inl g) = ap (is_held i) (release_moves d _ _ _ i k end g.moved).held ∙ held_without i (held_of d)
        go (inr s) = absurd (omega (arith, s.refused, e))

    stayed : (number run.answer ≡ 0 → ⊥) → held_of run.device ≡ held_of d
    unfolding ended played number
    stayed n = go (release_says (release_in d i) routes b.outcomes b.ctx 0)
      where
        go : Says (release_in d i) routes end → held_of (release_record d i end) ≡ held_of d
        go (inl g) = absurd (n (ap number g.accepted))
        go (inr s) = (release_stays d _ _ _ i k end s.kept).held

  let_go : number l.answer ≡ 0 → is_held i (held_of l.device) ≡ false
  unfolding release refused is_refused number
  let_go =
      on_mild (λ (m : Left). number m.answer ≡ 0 → is_held i (held_of m.device) ≡ false) _ _ _ (mild_release d _ _ _ i) gone
      (λ a r e. not_both (is_refused a) r (rw e refl))

  kept : (number l.answer ≡ 0 → ⊥) → held_of l.device ≡ held_of d
  unfolding release refused
  kept =
      on_mild (λ (m : Left). (number m.answer ≡ 0 → ⊥) → held_of m.device ≡ held_of d) _ _ _ (mild_release d _ _ _ i) stayed (λ a r n. refl)

  promised : Unclaimed d b routes i l
  promised =
      record {
        exactly = (idle, unclaimed);
        nothing = nothing;
        usable = usable;
        found = found;
        claimed = claimed;
        ended = λ e h. not_both (is_held i (held_of l.device)) (holds_held l.device i h.alternate h.held) (let_go e);
        kept = λ n h.
            record { alternate = _; held = held_holds l.device i (ap (is_held i) (kept n) ∙ holds_held d i h.alternate h.held) };
      }

pub unclaimed_promise : UnclaimedPromise
unclaimed_promise d b routes i = promised d b routes i
