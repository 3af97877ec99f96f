-- The loop that stops endpoints past failures, and the exits of the course.
use Prim.Native.Nat.{ℕ, ◌+◌, ◌<◌, ◌≤◌}
use mathlib.Core.Path.{◌≡◌, refl, sym, ap, ◌∙◌}
use mathlib.Core.Logic.{inl, inr}
use mathlib.Core.Bool.{Bool, true, false, cond}
use mathlib.Core.List.{List, [], ◌∷◌}
use native.Mathlib.Numerals.{add-one}
use native.Mathlib.Omega.{arith}
use types.Run.{OneOf}
use denote.Enum.Declared.{tag_of}
use lib.ListN.{length, get_or, drop, set, drop_of_length-le}
use lib.Seq.{drop-cons}
use Rattle.std.specs.Prelude.{Result, Ok}
use Rattle.answer.specs.declared.Answer.TheVariants as answer
use Rattle.command.specs.contracts.Sent.{the_type}
use Rattle.command.specs.declared.Sent.{Sent}
use Rattle.command.specs.declared.Sent.TheVariants.{Done, Failed, Cut}
use Rattle.command.specs.Command.{command_word, outcome_at, stop_command}
use Rattle.command.specs.Course.{Course, ends, on_sent, then, words, Played, played}
use Rattle.command.specs.Sweep.{stop_each}
use Rattle.command.proofs.Laws.{played_ends, played_sends, played_then}
use Rattle.command.proofs.Phases.{Begins, continued, went_on}
use Rattle.command.proofs.Sweeps.{words_length_stop_each}
use Rattle.course_steps.specs.End.{End, settings_kept}
use Rattle.course_disconnect.specs.Disconnect.{stops_leave, disable, disconnect_course}

-- A command that is not cut: the same whether it is done or fails.
abbrev pub uncut : List ℕ
uncut = 0 ∷ 1 ∷ []

pub unless_cut : (s : Sent) → (s ≡ Cut → ⊥) → OneOf uncut (tag_of the_type s)
unless_cut Done h = inl refl
unless_cut (Failed code) h = inr refl
unless_cut Cut h = absurd (h refl)

past_failure : {A : Type 0} (s : Sent) (next cut : A) → (s ≡ Cut → ⊥) → on_sent s next (λ code. next) cut ≡ next
unfolding on_sent
past_failure Done next cut t = refl
past_failure (Failed code) next cut t = refl
past_failure Cut next cut t = absurd (t refl)

module _ (ds o log ctx : List ℕ) (n i : ℕ) where
  -- the loop's end where all are sent
  pub stops_end : length ds ≤ i → i ≤ length ds →
      played o (n + i) (stop_each ctx (drop i ds)) log ≡ record { end = false; count = n + length ds; log = log }
  unfolding stop_each
  stops_end h k = let e : i ≡ length ds = omega arith in rw (← e, drop_of_length-le ds h) (played_ends _ _ _ _)

  module _ (log' : List ℕ) (s : Sent) (h : i < length ds)
      (sent-as : (s ≡ outcome_at o (n + i)) × (log' ≡ set log (n + i) (command_word (stop_command (get_or ds i 0))))) where
    turn : played o (n + i) (stop_each ctx (drop i ds)) log ≡
        played o (n + i + 1) (on_sent s (stop_each ctx (drop (i + 1) ds)) (λ code. stop_each ctx (drop (i + 1) ds)) (ends true)) log'
    unfolding stop_each
    turn =
        let e : drop i ds ≡ get_or ds i 0 ∷ drop (i + 1) ds = rw (add-one i) (drop-cons ds i 0 h) in
        rw (e, sent-as.1, sent-as.0) (played_sends _ _ _ _ _ _)

    -- a turn of it
    pub stops_next : (s ≡ Cut → ⊥) →
        played o (n + i) (stop_each ctx (drop i ds)) log ≡ played o (n + (i + 1)) (stop_each ctx (drop (i + 1) ds)) log'
    stops_next t =
        let e : n + (i + 1) ≡ n + i + 1 = omega arith in
        turn ∙ rw (e, past_failure s (stop_each ctx (drop (i + 1) ds)) (ends true) t)

    -- its end at a cut
    pub stops_cut : s ≡ Cut → played o (n + i) (stop_each ctx (drop i ds)) log ≡ record { end = true; count = n + i + 1; log = log' }
    unfolding on_sent
    stops_cut e = turn ∙ rw (e, played_ends)

-- how many words the log has then, where the Stops were cut too
pub stops_count : (ds o log left : List ℕ) (n : ℕ) (r : Result ℕ ℕ) →
    stops_leave r left ≡ played o n (stop_each [] ds) log → (stops_leave r left).count ≤ n + length ds
unfolding played
stops_count ds o log left n r e =
    let c : (stops_leave r left).count ≡ n + length (words o n (stop_each [] ds)) = ap (λ p. p.count) e in
    omega (arith, c, words_length_stop_each o [] ds n)

-- The whole course, where control's Stop is not cut: what is left of it after the other stops.
module _ (o log log' ctx routes : List ℕ) (slot : ℕ) (dcis : List ℕ) (s : Sent) (p : Played Bool) where
  pub stopped : {x : Played End} → (s ≡ outcome_at o 0) × (log' ≡ set log 0 (command_word (stop_command 1))) →
      (s ≡ Cut → ⊥) → p ≡ played o 1 (stop_each ctx dcis) log' →
      x ≡ played o p.count (cond p.end (ends (settings_kept answer.Cut 0 ctx routes)) (disable slot ctx routes)) p.log →
      x ≡ played o 0 (disconnect_course slot dcis ctx routes) log
  unfolding disconnect_course stop_each then Begins continued
  stopped {x} sent-as t e h =
      let after : Bool → Course End = λ cut. cond cut (ends (settings_kept answer.Cut 0 ctx routes)) (disable slot ctx routes) in
      let next : x ≡ played o 1 (then (stop_each ctx dcis) after) log' = rw (played_then, ← e) h in
      went_on o log 0 _ _ refl sent-as refl (next ∙ ap (λ c. played o 1 (then c after) log') (sym (past_failure s _ (ends true) t)))
