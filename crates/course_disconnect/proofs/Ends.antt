-- The course of an unplugging: what it logs, how it ends, and that Disable decides.
use Prim.Native.Nat.{ℕ, zero, suc, ◌+◌, ◌<◌, ◌≤◌}
use mathlib.Core.Path.{◌≡◌, refl, sym, ap, ◌∙◌}
use mathlib.Core.Bool.{Bool, true, false, cond, ◌||◌}
use mathlib.Core.List.{List, ◌∷◌}
use mathlib.Core.Logic.{◌⊎◌, inl, inr}
use native.Mathlib.Omega.{arith}
use native.Mathlib.Decide.{dec_lt}
use lib.Dec.{eqb}
use lib.ListN.{length, get_or, length-append}
use Rattle.laws.proofs.Tests.{not_both}
use Rattle.laws.proofs.Cases.{Decided, decided}
use Rattle.answer.specs.declared.Answer.TheVariants as answer
use Rattle.answer.specs.Answer.{number, is_accepted}
use Rattle.command.specs.declared.Command.TheVariants as command
use Rattle.command.specs.declared.Command.{Command}
use Rattle.command.specs.declared.Sent.{Sent}
use Rattle.command.specs.declared.Sent.TheVariants as sent
use Rattle.command.specs.Command.{outcome_at, stop_command}
use Rattle.command.specs.Course.{Course, ends, on_sent, words, result, EndsWith, CutsTo, CutEnds}
use Rattle.command.specs.Sweep.{stop_each}
use Rattle.command.proofs.Cuts.{on_sent_lem, outcome_none, cuts_then}
use Rattle.command.proofs.Laws.{words_then, result_then}
use Rattle.command.proofs.Operations.{ByteOperands, operation, EachCommand, each_then}
use Rattle.command.proofs.Sweeps.{CutStops, stop_each_each, stop_each_cuts, stop_words_length, words_length_stop_each, stop_each_words, stop_each_through}
use Rattle.transfer.specs.Routes.{without_slot}
use Rattle.course_steps.specs.End.{End, settings_kept, settings_moved}
use Rattle.theorem_controller.specs.Controller.{DISABLE, is_done, enabled_after, done_word}
use Rattle.theorem_controller.proofs.Done.{is_done_command, done_in, done_logged, done_after}
use Rattle.theorem_controller.proofs.Followed.{followed, Follows, follows_result}
use Rattle.theorem_controller.proofs.Laws.{follows_stops, follows_disable}
use Rattle.course_disconnect.specs.Disconnect.{disable, disconnect_course}

-- How it ends: the slot has no route, or all is as it was and the answer is 14 or 15.
abbrev pub Ended : ℕ → List ℕ → List ℕ → End → Type 0
Ended slot ctx routes e =
    (e ≡ settings_moved answer.Accepted ctx (without_slot routes slot))
    ⊎ ((e ≡ settings_kept answer.InterfaceBroken 0 ctx routes) ⊎ (e ≡ settings_kept answer.Cut 0 ctx routes))

-- The end that Disable's outcome makes.
abbrev disabled : ℕ → List ℕ → List ℕ → Sent → End
disabled slot ctx routes s =
    on_sent s (settings_moved answer.Accepted ctx (without_slot routes slot)) (λ code. settings_kept answer.InterfaceBroken 0 ctx routes)
    (settings_kept answer.Cut 0 ctx routes)

disabled_accepted : (slot : ℕ) (ctx routes : List ℕ) (s : Sent) → is_accepted (disabled slot ctx routes s).answer ≡ is_done s
unfolding number is_done on_sent
disabled_accepted slot ctx routes sent.Done = refl
disabled_accepted slot ctx routes (sent.Failed code) = refl
disabled_accepted slot ctx routes sent.Cut = refl

disabled_moved : (slot : ℕ) (ctx routes : List ℕ) (s : Sent) → (is_done s || false) ≡ (disabled slot ctx routes s).moved
unfolding is_done on_sent
disabled_moved slot ctx routes sent.Done = refl
disabled_moved slot ctx routes (sent.Failed code) = refl
disabled_moved slot ctx routes sent.Cut = refl

module _ (slot : ℕ) (dcis ctx routes : List ℕ) where
  abbrev stops : Course Bool
  stops = stop_each ctx (1 ∷ dcis)

  abbrev decides : Bool → Course End
  decides cut = cond cut (ends (settings_kept answer.Cut 0 ctx routes)) (disable slot ctx routes)

  module _ (P : Command → Type 0) (control : P (stop_command 1)) (each : (k : ℕ) → P (stop_command (get_or dcis k 0))) where
    stops_each : EachCommand P stops
    stops_each = stop_each_each P ctx (1 ∷ dcis) go
      where
        go : (k : ℕ) → k < suc (length dcis) → P (stop_command (get_or (1 ∷ dcis) k 0))
        go zero h = control
        go (suc k) h = each k

    -- it sends no other commands
    pub disconnect_each : P command.Disable → EachCommand P (disconnect_course slot dcis ctx routes)
    unfolding disconnect_course disable EachCommand
    disconnect_each last = each_then P stops decides stops_each go
      where
        go : (cut : Bool) → EachCommand P (decides cut)
        go true = tt
        go false = (last, λ s. tt)

  -- the operands of its commands are bytes
  pub disconnect_operands : ((k : ℕ) → get_or dcis k 0 < 256) → EachCommand ByteOperands (disconnect_course slot dcis ctx routes)
  unfolding ByteOperands
  disconnect_operands b = disconnect_each ByteOperands (omega arith) b tt

  -- where a command is cut, it ends with that command's context
  pub disconnect_cuts : CutEnds (λ e. e.ctx) (disconnect_course slot dcis ctx routes)
  unfolding disconnect_course disable CutsTo EndsWith on_sent
  disconnect_cuts =
      cuts_then (CutStops ctx) (λ at (e : End). e.ctx ≡ at) stops decides (stop_each_cuts ctx (1 ∷ dcis)) (λ at cut p. rw p.1 p.0) go
    where
      go : (cut : Bool) → CutEnds (λ (e : End). e.ctx) (decides cut)
      go true = tt
      go false = (refl, λ s. tt)

  module _ (o : List ℕ) (n : ℕ) where
    abbrev at : ℕ
    at = n + length (words o n stops)

    decided_by : result o n (disconnect_course slot dcis ctx routes) ≡ result o at (decides (result o n stops))
    unfolding disconnect_course
    decided_by = result_then o n stops decides

    -- it logs at most a word for control, for each endpoint and for Disable
    pub disconnect_words : length (words o n (disconnect_course slot dcis ctx routes)) ≤ length dcis + 2
    unfolding disconnect_course disable words
    disconnect_words =
        rw (words_then, length-append)
        (omega (arith, words_length_stop_each o ctx (1 ∷ dcis) n, go (result o n stops)))
      where
        go : (cut : Bool) → length (words o at (decides cut)) ≤ 1
        go true = omega arith
        go false = omega arith

    pub disconnect_ends : Ended slot ctx routes (result o n (disconnect_course slot dcis ctx routes))
    unfolding disable result
    disconnect_ends = rw decided_by (go (result o n stops))
      where
        go : (cut : Bool) → Ended slot ctx routes (result o at (decides cut))
        go true = inr (inr refl)
        go false =
            on_sent_lem (Ended slot ctx routes) (outcome_at o at) _ _ _ (λ e. inl refl) (λ code e. inr (inl refl)) (λ e. inr (inr refl))

    -- accepted exactly if Disable, which comes after the Stops, is done
    pub disconnect_accepted :
        is_accepted (result o n (disconnect_course slot dcis ctx routes)).answer ≡ is_done (outcome_at o (n + suc (length dcis)))
    unfolding disable result is_done number
    disconnect_accepted = rw decided_by (go (decided (result o n stops)))
      where
        cut_early : result o n stops ≡ true → Dec (length o < n + suc (length dcis)) → is_done (outcome_at o (n + suc (length dcis))) ≡ false
        cut_early t (yes h) = rw (outcome_none o (n + suc (length dcis)) (omega arith))
        cut_early t (no h) = not_both (result o n stops) t (stop_each_through o ctx (1 ∷ dcis) n (omega arith))

        go : Decided (result o n stops) →
            is_accepted (result o at (decides (result o n stops))).answer ≡ is_done (outcome_at o (n + suc (length dcis)))
        go (inl t) = rw (t, cut_early t (dec_lt (length o) (n + suc (length dcis)))) refl
        go (inr t) =
            let l : length (words o n stops) ≡ suc (length dcis) =
            ap length (stop_each_words o ctx (1 ∷ dcis) n t) ∙ stop_words_length (1 ∷ dcis) in
            rw (t, l) (disabled_accepted slot ctx routes (outcome_at o (n + suc (length dcis))))

    -- the log has a done Disable exactly if the slot has no route left
    pub disconnect_out : ((k : ℕ) → get_or dcis k 0 < 256) →
        done_word DISABLE o n (words o n (disconnect_course slot dcis ctx routes))
        ≡ (result o n (disconnect_course slot dcis ctx routes)).moved
    unfolding disconnect_course disable result done_in is_done_command operation
    disconnect_out b =
        done_logged DISABLE o n (disconnect_course slot dcis ctx routes) (disconnect_operands b)
        ∙ done_after DISABLE o n stops decides (stops_each (λ c. eqb (operation c) DISABLE ≡ false) refl (λ k. refl))
        ∙ go (result o n stops) ∙ sym (ap (λ e. e.moved) decided_by)
      where
        go : (cut : Bool) → done_in DISABLE o at (decides cut) ≡ (result o at (decides cut)).moved
        go true = refl
        go false = disabled_moved slot ctx routes (outcome_at o at)

    abbrev Says : (ℕ → Bool) → End → (ℕ → Bool) → Type 0
    Says enabled e now = now ≡ cond e.moved (λ d. false) enabled

    -- the endpoints that it leaves enabled: none where Disable is done
    pub disconnect_enabled : (enabled : ℕ → Bool) →
        followed enabled_after o n (disconnect_course slot dcis ctx routes) enabled
        ≡ cond (result o n (disconnect_course slot dcis ctx routes)).moved (λ d. false) enabled
    unfolding disconnect_course disable Follows on_sent
    disconnect_enabled enabled =
        follows_result enabled_after (Says enabled) o n (disconnect_course slot dcis ctx routes) enabled
        (follows_stops (Says enabled) enabled ctx (1 ∷ dcis) decides go)
      where
        go : (cut : Bool) → Follows enabled_after (Says enabled) enabled (decides cut)
        go true = refl
        go false = follows_disable (Says enabled) enabled ctx (λ s. ends (disabled slot ctx routes s)) refl (λ code. refl) refl
