-- A controller along a course, whatever its state is and whatever a command makes of it.
use Prim.Native.Nat.{ℕ, zero, suc, ◌+◌, ◌<◌}
use mathlib.Core.Path.{◌≡◌, refl, ap, ◌∙◌}
use mathlib.Core.List.{List}
use native.Mathlib.Nat.{add-zero}
use native.Mathlib.Omega.{arith}
use lib.ListN.{length, take}
use Rattle.command.specs.declared.Command.{Command}
use Rattle.command.specs.declared.Sent.{Sent}
use Rattle.command.specs.declared.Sent.TheVariants.{Done, Failed, Cut}
use Rattle.command.specs.Command.{outcome_at}
use Rattle.command.specs.Course.{Course, ends, sends, on_sent, then, words, result, context_at, CutEnds}
use Rattle.command.specs.Sweep.{Sweep, stop_endpoints, resume_stopped_endpoints}
use Rattle.command.proofs.Cuts.{cut_context}
use Rattle.command.proofs.Operations.{ByteOperands, operation, operation_command, EachCommand}
use Rattle.command.proofs.Sweeps.{stop_each_lem, resume_each}
use Rattle.theorem_controller.specs.Controller.{Step, controlled}

module _ {S : Type 0} (step : Step S) where
  -- The state that a course leaves along these outcomes.
  unfoldable pub followed : {A : Type 0} → List ℕ → ℕ → Course A → S → S
  followed outcomes n (ends a) state = state
  followed outcomes n (sends c ctx k) state =
      followed outcomes (n + 1) (k (outcome_at outcomes n)) (step (operation c) (outcome_at outcomes n) ctx state)

  -- the log tells it, with the contexts of its commands
  controlled_by : {A : Type 0} (contexts : ℕ → List ℕ) (o : List ℕ) (n : ℕ) (c : Course A) (state : S) →
      ((i : ℕ) → i < length (words o n c) → contexts (n + i) ≡ context_at o n i c) → EachCommand ByteOperands c →
      controlled step contexts o n (words o n c) state ≡ followed o n c state
  unfolding controlled followed words context_at EachCommand
  controlled_by contexts o n (ends a) state h b = refl
  controlled_by contexts o n (sends c ctx k) state h b =
      let first : contexts n ≡ ctx = rw add-zero at (h zero (omega arith)) in
      let next : (i : ℕ) → i < length (words o (n + 1) (k (outcome_at o n))) →
      contexts (n + 1 + i) ≡ context_at o (n + 1) i (k (outcome_at o n)) =
      λ i l. let m : n + 1 + i ≡ n + suc i = omega arith in rw m (h (suc i) (omega arith)) in
      let ws : List ℕ = words o (n + 1) (k (outcome_at o n)) in
      ap (λ x. controlled step contexts o (n + 1) ws (step x (outcome_at o n) (contexts n) state)) (operation_command c b.0)
      ∙ ap (λ x. controlled step contexts o (n + 1) ws (step (operation c) (outcome_at o n) x state)) first
      ∙ controlled_by contexts o (n + 1) (k (outcome_at o n)) (step (operation c) (outcome_at o n) ctx state) next (b.1 (outcome_at o n))

  -- or with the contexts that a cut leaves
  pub controlled_course : {A : Type 0} (context_of : A → List ℕ) (o : List ℕ) (n : ℕ) (c : Course A) (state : S) →
      CutEnds context_of c → EachCommand ByteOperands c →
      controlled step (λ i. context_of (result (take i o) n c)) o n (words o n c) state ≡ followed o n c state
  controlled_course context_of o n c state t b =
      controlled_by (λ i. context_of (result (take i o) n c)) o n c state (λ i h. cut_context context_of o n i c t h) b

  -- However its commands go, a course ends with a value and in a state of which Q holds.
  unfoldable pub Follows : {A : Type 0} → (A → S → Type 0) → S → Course A → Type 0
  Follows Q state (ends a) = Q a state
  Follows Q state (sends c ctx k) = (s : Sent) → Follows Q (step (operation c) s ctx state) (k s)

  -- so it does along some outcomes
  pub follows_result : {A : Type 0} (Q : A → S → Type 0) (o : List ℕ) (n : ℕ) (c : Course A) (state : S) →
      Follows Q state c → Q (result o n c) (followed o n c state)
  unfolding Follows followed result
  follows_result Q o n (ends a) state f = f
  follows_result Q o n (sends c ctx k) state f =
      follows_result Q o (n + 1) (k (outcome_at o n)) (step (operation c) (outcome_at o n) ctx state) (f (outcome_at o n))

  -- An operation that leaves every state.
  abbrev pub Idle : ℕ → Type 0
  Idle op = (s : Sent) (ctx : List ℕ) (state : S) → step op s ctx state ≡ state

  module _ {A : Type 0} (Q : A → S → Type 0) (state : S) where
    -- a command, by its outcomes
    pub follows_sends : (c : Command) (ctx : List ℕ) (done : Course A) (failed : ℕ → Course A) (cut : Course A) →
        Follows Q (step (operation c) Done ctx state) done →
        ((code : ℕ) → Follows Q (step (operation c) (Failed code) ctx state) (failed code)) →
        Follows Q (step (operation c) Cut ctx state) cut → Follows Q state (sends c ctx (λ s. on_sent s done failed cut))
    unfolding Follows on_sent
    follows_sends c ctx done failed cut d f u Done = d
    follows_sends c ctx done failed cut d f u (Failed code) = f code
    follows_sends c ctx done failed cut d f u Cut = u

    -- one of an idle operation
    pub follows_idle : (c : Command) → Idle (operation c) → (ctx : List ℕ) (done : Course A) (failed : ℕ → Course A)
        (cut : Course A) → Follows Q state done → ((code : ℕ) → Follows Q state (failed code)) → Follows Q state cut →
        Follows Q state (sends c ctx (λ s. on_sent s done failed cut))
    follows_idle c i ctx done failed cut d f u =
        follows_sends c ctx done failed cut (rw (i Done ctx state) d) (λ code. rw (i (Failed code) ctx state) (f code)) (rw (i Cut ctx state) u)

    -- what comes after idle commands decides
    pub follows_then : {B : Type 0} (c : Course B) (f : B → Course A) → EachCommand (λ x. Idle (operation x)) c →
        ((b : B) → Follows Q state (f b)) → Follows Q state (then c f)
    unfolding Follows then EachCommand
    follows_then (ends b) f e g = g b
    follows_then (sends c ctx k) f e g = λ s. rw (e.0 s ctx state) (follows_then (k s) f (e.1 s) g)

    module _ (resumes : Idle 5) (ctx ds : List ℕ) (f : Sweep → Course A) (next : (r : Sweep) → Follows Q state (f r)) where
      -- as after a sweep: Stop is operation 4, Resume 5
      pub resume_then : Follows Q state (then (resume_stopped_endpoints ctx ds) f)
      unfolding operation
      resume_then = follows_then (resume_stopped_endpoints ctx ds) f (resume_each _ ctx ds (λ k. resumes)) next

      pub stop_then : Idle 4 → Follows Q state (then (stop_endpoints ctx ds) f)
      unfolding operation
      stop_then stops = follows_then (stop_endpoints ctx ds) f (stop_each_lem _ ctx ds (λ k. (stops, resumes))) next
