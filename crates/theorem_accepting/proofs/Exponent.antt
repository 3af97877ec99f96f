-- 19 leaves what 16 leaves.
use Prim.Native.Nat.{ℕ, ◌+◌}
use mathlib.Core.Path.{◌≡◌, refl, ap}
use mathlib.Core.Bool.{cond}
use mathlib.Core.List.{List, ◌∷◌}
use borrow.Author.Tests.{eq-eqb, ne_eqb}
use lib.Dec.{eqb}
use lib.ListN.{length}
use Rattle.answer.specs.declared.Answer.TheVariants as answer
use Rattle.answer.specs.Answer.{number, is_accepted}
use Rattle.command.specs.declared.Command.{Command}
use Rattle.command.specs.declared.Sent.{Sent}
use Rattle.command.specs.declared.Sent.TheVariants as sent
use Rattle.command.specs.Command.{command_word, outcome_at}
use Rattle.command.specs.Course.{Course, ends, on_sent, words, result, played}
use Rattle.context.specs.Place.{spacing_of}
use Rattle.course_init.specs.Reading.{BringUp, control_ring, nothing_read, Brought, brought}
use Rattle.course_init.specs.Init.{step, bring_up_header, bring_up_address}
use Rattle.device.specs.Calls.{on_check}
use Rattle.device_bring_up.specs.BringUp.{slot_check, device_check, queue_check, bring_up_check, bring_up_course, brought_record, brought_left, bring_up}
use Rattle.theorem_checks.proofs.Checks.{bring_up_judged}
use Rattle.theorem_accepting.specs.Exponent.{with_header, LeavesAs, ExponentLeaves}

-- How two bring-ups end that differ only in 16 and 19.
record Alike (x y : Brought) : Type 0 where
  pub read : x.read ≡ y.read
  pub ctx : x.ctx ≡ y.ctx
  pub routes : x.routes ≡ y.routes
  pub usable : is_accepted x.answer ≡ is_accepted y.answer
  pub answer : number x.answer ≡ cond (eqb (number y.answer) 16) 19 (number y.answer)

-- Two courses that end so, with the same words.
abbrev Both : List ℕ → ℕ → Course Brought → Course Brought → Type 0
Both o n x y = Alike (result o n x) (result o n y) × (words o n x ≡ words o n y)

module _ (o : List ℕ) (n : ℕ) (c : Command) (ctx routes : List ℕ) (x y : Course Brought) (h : Both o (n + 1) x y) where
  both_sent :
      (s : Sent) →
      Both o (n + 1)
      (on_sent s x (λ code. ends (brought (answer.Failed code) nothing_read ctx routes)) (ends (brought answer.Cut nothing_read ctx routes)))
      (on_sent s y (λ code. ends (brought (answer.Failed code) nothing_read ctx routes)) (ends (brought answer.Cut nothing_read ctx routes)))
  unfolding on_sent result words number
  both_sent sent.Done = h
  both_sent (sent.Failed code) = (record { read = refl; ctx = refl; routes = refl; usable = refl; answer = refl }, refl)
  both_sent sent.Cut = (record { read = refl; ctx = refl; routes = refl; usable = refl; answer = refl }, refl)

  both_step : Both o n (step c nothing_read ctx routes x) (step c nothing_read ctx routes y)
  unfolding step result words
  both_step = let b = both_sent (outcome_at o n) in (b.0, ap (λ (l : List ℕ). command_word c ∷ l) b.1)

both_end : (o ctx routes : List ℕ) (n : ℕ) →
    Both o n (ends (brought answer.PacketExponent nothing_read ctx routes)) (ends (brought answer.ShortHeader nothing_read ctx routes))
unfolding result words number
both_end o ctx routes n = (record { read = refl; ctx = refl; routes = refl; usable = refl; answer = refl }, refl)

left_as :
    (a : BringUp) (short spacing : ℕ) (log o : List ℕ) (x y : Course Brought) → Both o 0 x y →
    LeavesAs (brought_left a spacing (played o 0 x log)) (brought_left (with_header short a) spacing (played o 0 y log))
unfolding brought_left brought_record control_ring with_header played
left_as a short spacing log o x y b =
    record {
      device = rw (b.0.usable, b.0.read);
      count = rw b.1;
      ctx = b.0.ctx;
      routes = b.0.routes;
      log = rw b.1;
      answer = b.0.answer;
    }

pub exponent_leaves : ExponentLeaves
unfolding bring_up on_check bring_up_course control_ring bring_up_address bring_up_header with_header bring_up_check slot_check device_check queue_check
exponent_leaves a short ctx routes log o holds eight bad other =
    let pass = (bring_up_judged a (length ctx) routes (length log)).passed holds in
    rw (pass, eq-eqb a.header 8 eight, bad, ne_eqb short 8 other)
    (left_as a short (spacing_of (length ctx)) log o _ _
    (both_step o 0 _ _ _ _ _ (both_step o 1 _ _ _ _ _ (both_end o _ _ 2))))
