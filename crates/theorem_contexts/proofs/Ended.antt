-- What a call leaves whose course is cut at a command.
use Prim.Native.Nat.{ℕ, ◌+◌, ◌<◌}
use mathlib.Core.Path.{◌≡◌, ◌∙◌}
use mathlib.Core.List.{List}
use native.Mathlib.Omega.{arith}
use lib.ListN.{length, get_or}
use Rattle.answer.specs.declared.Answer.{Answer}
use Rattle.answer.specs.Check.{Check, Pass}
use Rattle.command.specs.declared.Command.{Command}
use Rattle.command.specs.Command.{command_word}
use Rattle.command.specs.Course.{Course, played}
use Rattle.command.proofs.Laws.{log_word}
use Rattle.command.proofs.Reached.{CutHere}
use Rattle.course_steps.specs.End.{End}
use Rattle.device.specs.declared.record.Device.{Device}
use Rattle.device.specs.Left.{Left, ended}
use Rattle.device.specs.Calls.{on_check}
use Rattle.theorem_contexts.specs.Contexts.{SentAt}

-- the words of a course that is cut
module _ {A : Type 0} (o log : List ℕ) (course : Course A) (n : ℕ) (c : Command) (e : A) (x : CutHere o course n c e) where
  pub cut_count : (played o 0 course log).count ≡ n + 1
  unfolding played
  cut_count = omega (arith, x.count)

  pub cut_word : n < length log → get_or (played o 0 course log).log n 0 ≡ command_word c
  cut_word h =
      let z : 0 + n ≡ n = omega arith in
      (rw z at (log_word o 0 course log n (omega (arith, x.count)) (omega (arith, x.count)))) ∙ x.word

  pub cut_end : (played o 0 course log).end ≡ e
  unfolding played
  cut_end = x.result_is

module _ (made : End → Device) (o log : List ℕ) (course : Course End) (k : Check) (refuse : Answer → Left) (pass : k ≡ Pass)
    (n : ℕ) (c : Command) (e : End) (x : CutHere o course n c e) where
  -- its context
  pub ended_context : (on_check k (ended made (played o 0 course log)) refuse).ctx ≡ e.ctx
  unfolding on_check ended
  ended_context = rw (pass, cut_end o log course n c e x)

  -- its words too
  pub ended_at : (P : List ℕ → Type 0) → n < length log → P e.ctx → SentAt n c P (on_check k (ended made (played o 0 course log)) refuse)
  unfolding on_check ended
  ended_at P h p =
      rw pass
      (record {
        count = cut_count o log course n c e x;
        word = cut_word o log course n c e x h;
        reads = rw (cut_end o log course n c e x) p;
      })
