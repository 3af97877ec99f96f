-- A phase: it sends a command or sweeps endpoints, and its course goes on by the outcome.
use Prim.Native.Nat.{ℕ, ◌+◌}
use mathlib.Core.Path.{◌≡◌}
use mathlib.Core.List.{List}
use lib.ListN.{set}
use Rattle.command.specs.declared.Command.{Command}
use Rattle.command.specs.declared.Sent.{Sent}
use Rattle.command.specs.declared.Swept.{Swept}
use Rattle.command.specs.Command.{command_word, outcome_at}
use Rattle.command.specs.Course.{Course, ends, sends, then, Played, played}
use Rattle.command.specs.Sweep.{Sweep, swept, SweptAs}
use Rattle.command.proofs.Laws.{played_sends, played_then}

-- A course that begins with a command, and what it goes on with by the outcome.
unfoldable pub Begins : {A : Type 0} → Course A → Command → Type 0
Begins (ends a) d = ⊥
Begins (sends c ctx k) d = c ≡ d

unfoldable pub continued : {A : Type 0} → Course A → Sent → Course A
continued (ends a) s = ends a
continued (sends c ctx k) s = k s

module _ {A : Type 0} {p : Played A} {left : List ℕ} {t : Sent} (o log : List ℕ) (n : ℕ) where
  -- the command's word is logged, and its outcome is t
  pub went_on : {s : Sent} (c : Command) (x : Course A) → Begins x c →
      (s ≡ outcome_at o n) × (left ≡ set log n (command_word c)) → s ≡ t → p ≡ played o (n + 1) (continued x t) left →
      p ≡ played o n x log
  unfolding Begins continued
  went_on c (ends a) b sent-as d e = absurd b
  went_on c (sends f ctx k) b sent-as d e = rw (played_sends, b, ← sent-as.0, ← sent-as.1, d) e

  -- the sweep has logged its words, and its outcome is t
  pub swept_on : {r : Swept} (c : Course Sweep) (f : Sweep → Course A) → SweptAs r left (played o n c log) → r.sent ≡ t →
      p ≡ played o r.count (f (swept t r.active)) left → p ≡ played o n (then c f) log
  swept_on {r} c f a d e =
      let made : swept r.sent r.active ≡ (played o n c log).end = rw (a.sent, a.active) in
      rw (played_then, ← a.count, ← a.log, ← made, d) e
