-- Courses whose commands are done.
use Prim.Native.Nat.{ℕ, ◌+◌, ◌<◌, ◌≤◌}
use mathlib.Core.Path.{◌≡◌, refl, ap, ◌∙◌}
use mathlib.Core.List.{List, [], ◌∷◌, ◌++◌}
use native.Mathlib.Omega.{arith}
use borrow.Author.Tests.{lt-ltb}
use lib.ListN.{length, get_or}
use Rattle.command.specs.declared.Command.{Command}
use Rattle.command.specs.declared.Sent.{Sent}
use Rattle.command.specs.declared.Sent.TheVariants as sent
use Rattle.command.specs.Command.{outcome_at, stop_command}
use Rattle.command.specs.Course.{Course, ends, sends, on_sent, result}
use Rattle.command.specs.Sweep.{Sweep, swept, undo_stops, stop_from, stop_endpoints}

-- a byte 0 is done
pub outcome_done : (o : List ℕ) (k : ℕ) → k < length o → get_or o k 0 ≡ 0 → outcome_at o k ≡ sent.Done
unfolding outcome_at
outcome_done o k h e = rw (lt-ltb k (length o) h, e)

-- a command whose outcome is known
pub result_sends : {A : Type 0} (o : List ℕ) (n : ℕ) (c : Command) (ctx : List ℕ) (k : Sent → Course A) (s : Sent) →
    outcome_at o n ≡ s → result o n (sends c ctx k) ≡ result o (n + 1) (k s)
unfolding result
result_sends o n c ctx k s e = ap (λ x. result o (n + 1) (k x)) e

-- Each of k outcomes from number n on is done.
abbrev pub AllDone : List ℕ → ℕ → ℕ → Type 0
AllDone o n k = (i : ℕ) → n ≤ i → i < n + k → outcome_at o i ≡ sent.Done

stops_done : (o ctx stopped ds : List ℕ) (n : ℕ) → AllDone o n (length ds) → result o n (stop_from ctx stopped ds) ≡ swept sent.Done 0
unfolding stop_from on_sent result
stops_done o ctx stopped [] n h = refl
stops_done o ctx stopped (d ∷ ds) n h =
    let next : Sent → Course Sweep =
    λ s. on_sent s (stop_from ctx (stopped ++ (d ∷ [])) ds) (undo_stops ctx stopped) (ends (swept sent.Cut 0)) in
    result_sends o n (stop_command d) ctx next sent.Done (h n (omega arith) (omega arith))
    ∙ stops_done o ctx (stopped ++ (d ∷ [])) ds (n + 1) (λ i l m. h i (omega arith) (omega arith))

-- stopping ends done where every outcome is
pub stop_all_done : (o ctx ds : List ℕ) (n : ℕ) → AllDone o n (length ds) → (result o n (stop_endpoints ctx ds)).sent ≡ sent.Done
unfolding stop_endpoints
stop_all_done o ctx ds n h = ap (λ s. s.sent) (stops_done o ctx [] ds n h)
