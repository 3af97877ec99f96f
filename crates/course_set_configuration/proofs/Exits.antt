-- What the exits of the phases come to.
use Prim.Native.Nat.{ℕ, ◌+◌}
use mathlib.Core.Path.{◌≡◌, refl, sym, ◌∙◌}
use mathlib.Core.Logic.{◌⊎◌, inl, inr}
use mathlib.Core.Bool.{true, false}
use mathlib.Core.List.{List, []}
use lib.ListN.{set}
use Rattle.std.specs.Prelude.{Result, Ok, Err}
use Rattle.answer.specs.declared.Answer.{Answer}
use Rattle.answer.specs.declared.Answer.TheVariants as answer
use Rattle.command.specs.declared.Command.TheVariants as command
use Rattle.command.specs.declared.Sent.{Sent}
use Rattle.command.specs.declared.Sent.TheVariants as sent
use Rattle.command.specs.Command.{command_word, outcome_at}
use Rattle.command.specs.Course.{ends, on_sent, played}
use Rattle.command.proofs.Laws.{played_ends, played_sends, played_then}
use Rattle.transfer.specs.declared.RouteError.{RouteError}
use Rattle.transfer.specs.declared.RouteError.TheVariants.{InvalidEndpoint, QueueFull}
use Rattle.transfer.specs.Routes.{Queue, replaced, with_replaced}
use Rattle.record_endpoint.specs.EndpointMap.{queue_dcis}
use Rattle.transfer.proofs.Laws.{error_kept}
use Rattle.course_steps.specs.declared.CourseEnd.{CourseEnd}
use Rattle.course_steps.specs.End.{settings_kept, settings_moved, resumed}
use Rattle.course_steps.specs.Arrays.{course_leaves}
use Rattle.course_set_configuration.specs.SetConfiguration.{Settings, value_context, set_evaluate, set_published, set_publish, set_restored}

-- How resuming after a failed SetConfiguration answers.
abbrev pub restored_answer : ℕ → Sent → Answer
restored_answer code s = on_sent s (answer.Failed code) (λ later. answer.InterfaceBroken) answer.Cut

module _ (qs : List Queue) (ctx routes : List ℕ) (code : ℕ) where
  restored_as : (s : Sent) (k : ℕ) →
      ends (settings_kept (restored_answer code s) k ctx routes)
      ≡ on_sent s (ends (settings_kept (answer.Failed code) k ctx routes)) (λ later. ends (settings_kept answer.InterfaceBroken k ctx routes))
      (ends (settings_kept answer.Cut k ctx routes))
  unfolding on_sent
  restored_as sent.Done k = refl
  restored_as (sent.Failed later) k = refl
  restored_as sent.Cut k = refl

  -- the endpoints are resumed after a failed SetConfiguration
  pub resumed_restored : (a : Settings) (o log : List ℕ) (n : ℕ) → a.old ≡ qs →
      played o n (resumed (restored_answer code) (queue_dcis qs) ctx routes) log ≡ played o n (set_restored a code ctx routes) log
  unfolding resumed set_restored
  resumed_restored a o log n e = rw (e, played_then, played_then, restored_as)

-- The last Evaluate.
told : (o left next table : List ℕ) (n : ℕ) (s : Sent) →
    record {
      end = settings_moved (on_sent s answer.Accepted (λ code. answer.InterfaceBroken) answer.Cut) next table;
      count = n + 1;
      log = left;
    }
    ≡ played o (n + 1)
    (on_sent s
    (ends (settings_moved answer.Accepted next table))
    (λ code. ends (settings_moved answer.InterfaceBroken next table))
    (ends (settings_moved answer.Cut next table)))
    left
unfolding on_sent
told o left next table n sent.Done = rw played_ends
told o left next table n (sent.Failed code) = rw played_ends
told o left next table n sent.Cut = rw played_ends

-- Where routes are not replaced, one of two errors says why.
pub unless_done : (t : Result Unit RouteError) → (t ≡ Ok tt → ⊥) → (t ≡ Err InvalidEndpoint) ⊎ (t ≡ Err QueueFull)
unless_done (Ok _) h = absurd (h refl)
unless_done (Err InvalidEndpoint) h = inl refl
unless_done (Err QueueFull) h = inr refl

-- The routes are taken out.
module _
    (a : Settings) (o ctx routes log table : List ℕ) (n : ℕ) (r : CourseEnd) (t : Result Unit RouteError)
    (replaced-as : (t ≡ replaced routes a.slot a.old []) × (table ≡ with_replaced routes a.slot a.old [])) where
  -- or one is not its ring's
  pub not_published : (x : RouteError) → t ≡ Err x →
      r ≡ record { answer = answer.InvalidEndpoint; count = n; active = 0; moved = false; doubted = false } →
      course_leaves r ctx table log ≡ played o n (set_publish a ctx routes) log
  unfolding set_publish set_published
  not_published x z e =
      let kept = replaced-as.1 ∙ error_kept routes a.slot a.old [] x (sym replaced-as.0 ∙ z) in
      rw (← replaced-as.0, z, played_ends, e, kept)

  -- and the controller is told the value
  pub published : (next left : List ℕ) (s : Sent) → t ≡ Ok tt → next ≡ value_context a ctx →
      (s ≡ outcome_at o n) × (left ≡ set log n (command_word command.Evaluate)) →
      r ≡ record {
        answer = on_sent s answer.Accepted (λ code. answer.InterfaceBroken) answer.Cut;
        count = n + 1;
        active = 0;
        moved = true;
        doubted = false;
      } →
      course_leaves r next table left ≡ played o n (set_publish a ctx routes) log
  unfolding set_publish set_published set_evaluate
  published next left s d given sent-as e =
      rw (← replaced-as.0, d, ← replaced-as.1, played_sends, ← sent-as.0, ← sent-as.1, ← given, e)
      (told o left next table n s)
