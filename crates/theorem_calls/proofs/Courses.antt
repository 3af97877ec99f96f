-- Courses that end refused wherever a command is not done, and courses whose context is changed before a command that reads it only.
use Prim.Native.Nat.{ℕ, zero, suc, ◌+◌, ◌≤◌, ◌<◌}
use mathlib.Core.Path.{◌≡◌, refl, ◌∙◌}
use mathlib.Core.Bool.{false}
use mathlib.Core.List.{List, [], ◌∷◌, ◌++◌}
use native.Mathlib.Omega.{arith}
use native.Mathlib.Decide.{dec_lt}
use lib.ListN.{length, get_or}
use Rattle.command.specs.declared.Command.{Command}
use Rattle.command.specs.declared.Sent.{Sent}
use Rattle.command.specs.declared.Sent.TheVariants.{Done, Failed, Cut}
use Rattle.command.specs.Command.{command_word, outcome_at}
use Rattle.command.specs.Course.{Course, ends, sends, on_sent, then, words, result, context_at}
use Rattle.command.specs.Sweep.{Sweep, resume_from, resume_stopped_endpoints, or_code, undo_stops, stop_from, stop_endpoints, stop_each}
use Rattle.command.proofs.Cuts.{each_outcome}
use Rattle.command.proofs.EachEnd.{EachEnd, end_of, end_then}
use Rattle.theorem_calls.specs.Commands.{reads_context}

-- Wherever a command is not done, each end has N.
unfoldable pub Strict : {A : Type 0} → (A → Type 0) → Course A → Type 0
Strict N (ends a) = Unit {0}
Strict N (sends c ctx k) = Strict N (k Done) × ((s : Sent) → (s ≡ Done → ⊥) → EachEnd N (k s))

-- Each end of a course has M, and where it has, what follows ends by N.
ends_then : {A B : Type 0} (M : A → Type 0) (N : B → Type 0) (c : Course A) (f : A → Course B) → EachEnd M c →
    ((a : A) → M a → EachEnd N (f a)) → EachEnd N (then c f)
unfolding EachEnd then
ends_then M N (ends a) f e g = g a e
ends_then M N (sends c ctx k) f e g = λ s. ends_then M N (k s) f (e s) g

pub strict_then : {A B : Type 0} (M : A → Type 0) (N : B → Type 0) (c : Course A) (f : A → Course B) → Strict M c →
    ((a : A) → M a → EachEnd N (f a)) → ((a : A) → Strict N (f a)) → Strict N (then c f)
unfolding Strict then
strict_then M N (ends a) f t g h = h a
strict_then M N (sends c ctx k) f t g h =
    (strict_then M N (k Done) f t.0 g h, λ s n. ends_then M N (k s) f (t.1 s n) g)

pub strict_ends : {A : Type 0} (N : A → Type 0) (a : A) → Strict N (ends a)
unfolding Strict
strict_ends N a = tt

-- What comes by the outcome of a command.
pub not_done : {A : Type 0} (P : A → Type 0) (done : A) (failed : ℕ → A) (cut : A) → ((code : ℕ) → P (failed code)) → P cut →
    (s : Sent) → (s ≡ Done → ⊥) → P (on_sent s done failed cut)
unfolding on_sent
not_done P done failed cut f c Done n = absurd (n refl)
not_done P done failed cut f c (Failed code) n = f code
not_done P done failed cut f c Cut n = c

pub strict_sends : {A : Type 0} (N : A → Type 0) (c : Command) (ctx : List ℕ) (done : Course A) (failed : ℕ → Course A) (cut : Course A) →
    Strict N done → ((code : ℕ) → EachEnd N (failed code)) → EachEnd N cut → Strict N (sends c ctx (λ s. on_sent s done failed cut))
unfolding Strict on_sent
strict_sends N c ctx done failed cut d f e = (d, not_done (EachEnd N) done failed cut f e)

-- One that does not end by N has read a done outcome first,
pub strict_first : {A : Type 0} (N : A → Type 0) (o : List ℕ) (n : ℕ) (c : Command) (ctx : List ℕ) (f : Sent → Course A) →
    Strict N (sends c ctx f) → (N (result o n (sends c ctx f)) → ⊥) → outcome_at o n ≡ Done
unfolding Strict result
strict_first N o n c ctx f t e = go (outcome_at o n) refl
  where
    go : (s : Sent) → outcome_at o n ≡ s → outcome_at o n ≡ Done
    go Done p = p
    go (Failed code) p = absurd (e (rw p (end_of N o (n + 1) (f (Failed code)) (t.1 (Failed code) (λ z. cc)))))
    go Cut p = absurd (e (rw p (end_of N o (n + 1) (f Cut) (t.1 Cut (λ z. cc)))))

-- and then only such.
pub strict_done : {A : Type 0} (N : A → Type 0) (o : List ℕ) (n : ℕ) (c : Course A) → Strict N c → (N (result o n c) → ⊥) →
    (k : ℕ) → n ≤ k → k < n + length (words o n c) → outcome_at o k ≡ Done
unfolding Strict words result
strict_done N o n (ends a) t e k h l = absurd (omega arith)
strict_done N o n (sends c ctx f) t e k h l =
    let d : outcome_at o n ≡ Done = strict_first N o n c ctx f t e in
    go d (dec_lt n k)
    (λ m.
    let later : k < n + suc (length (words o (n + 1) (f Done))) = rw d at l in
    strict_done N o (n + 1) (f Done) t.0 (rw d at e) k (omega arith) (omega arith))
  where
    go : outcome_at o n ≡ Done → Dec (n < k) → (n < k → outcome_at o k ≡ Done) → outcome_at o k ≡ Done
    go d (yes m) later = later m
    go d (no m) later = let z : k ≡ n = omega arith in rw z d

-- Each command is sent over this context.
unfoldable pub Over : {A : Type 0} → List ℕ → Course A → Type 0
Over at (ends a) = Unit {0}
Over at (sends c ctx k) = (ctx ≡ at) × ((s : Sent) → Over at (k s))

over_then : {A B : Type 0} (at : List ℕ) (c : Course A) (f : A → Course B) → Over at c → ((a : A) → Over at (f a)) → Over at (then c f)
unfolding Over then
over_then at (ends a) f o g = g a
over_then at (sends c ctx k) f o g = (o.0, λ s. over_then at (k s) f (o.1 s) g)

-- A command that reads no context is sent over that of the command before it, and each end has that of the last.
unfoldable pub Steady : {A : Type 0} → (A → List ℕ) → List ℕ → Course A → Type 0
Steady of at (ends a) = of a ≡ at
Steady of at (sends c ctx k) = (reads_context (command_word c) ≡ false → ctx ≡ at) × ((s : Sent) → Steady of ctx (k s))

pub steady_then : {A B : Type 0} (of : B → List ℕ) (at : List ℕ) (c : Course A) (f : A → Course B) → Over at c →
    ((a : A) → Steady of at (f a)) → Steady of at (then c f)
unfolding Over Steady then
steady_then of at (ends a) f o g = g a
steady_then of at (sends c ctx k) f o g = (λ e. o.0, λ s. rw o.0 (steady_then of at (k s) f (o.1 s) g))

-- Where what follows is an end alone.
pub steady_end : {A B : Type 0} (of : A → List ℕ) (to : B → List ℕ) (at : List ℕ) (c : Course A) (f : A → B) → Steady of at c →
    ((a : A) → to (f a) ≡ of a) → Steady to at (then c (λ a. ends (f a)))
unfolding Steady then
steady_end of to at (ends a) f t g = g a ∙ t
steady_end of to at (sends c ctx k) f t g = (t.0, λ s. steady_end of to ctx (k s) f (t.1 s) g)

module _ {A : Type 0} (of : A → List ℕ) (o : List ℕ) where
  -- No command that reads one: the context is as it came.
  pub steady_none : (n : ℕ) (at : List ℕ) (c : Course A) → Steady of at c →
      ((k : ℕ) → k < length (words o n c) → reads_context (get_or (words o n c) k 0) ≡ false) → of (result o n c) ≡ at
  unfolding Steady words result
  steady_none n at (ends a) t h = t
  steady_none n at (sends c ctx k) t h =
      steady_none (n + 1) ctx (k (outcome_at o n)) (t.1 (outcome_at o n)) (λ j l. h (suc j) (omega arith)) ∙ t.0 (h zero (omega arith))

  -- The last of those that do.
  pub steady_last : (n : ℕ) (at : List ℕ) (c : Course A) → Steady of at c → (i : ℕ) → i < length (words o n c) →
      ((k : ℕ) → i < k → k < length (words o n c) → reads_context (get_or (words o n c) k 0) ≡ false) →
      of (result o n c) ≡ context_at o n i c
  unfolding Steady words result context_at
  steady_last n at (ends a) t i h g = absurd (omega arith)
  steady_last n at (sends c ctx k) t zero h g =
      steady_none (n + 1) ctx (k (outcome_at o n)) (t.1 (outcome_at o n)) (λ j l. g (suc j) (omega arith) (omega arith))
  steady_last n at (sends c ctx k) t (suc i) h g =
      steady_last (n + 1) ctx (k (outcome_at o n)) (t.1 (outcome_at o n)) i (omega arith) (λ j l m. g (suc j) (omega arith) (omega arith))

-- Sweeps.
module _ (ctx : List ℕ) where
  resume_over_from : (ds : List ℕ) (active : ℕ) → Over ctx (resume_from ctx active ds)
  unfolding Over resume_from
  resume_over_from [] active = tt
  resume_over_from (d ∷ ds) active = (refl, each_outcome (Over ctx) _ _ _ (resume_over_from ds (active + 1)) (λ code. tt) tt)

  pub resume_over : (ds : List ℕ) → Over ctx (resume_stopped_endpoints ctx ds)
  unfolding resume_stopped_endpoints
  resume_over ds = resume_over_from ds 0

  stop_over_from : (stopped ds : List ℕ) → Over ctx (stop_from ctx stopped ds)
  unfolding Over stop_from undo_stops
  stop_over_from stopped [] = tt
  stop_over_from stopped (d ∷ ds) = (
    refl,
    each_outcome (Over ctx) _ _ _ (stop_over_from (stopped ++ (d ∷ [])) ds)
        (λ code. over_then ctx (resume_stopped_endpoints ctx stopped) _ (resume_over stopped) (λ r. tt)) tt,
  )

  pub stop_over : (ds : List ℕ) → Over ctx (stop_endpoints ctx ds)
  unfolding stop_endpoints
  stop_over ds = stop_over_from [] ds

  pub stop_each_over : (ds : List ℕ) → Over ctx (stop_each ctx ds)
  unfolding Over stop_each
  stop_each_over [] = tt
  stop_each_over (d ∷ ds) = (refl, each_outcome (Over ctx) _ _ _ (stop_each_over ds) (λ code. stop_each_over ds) tt)

  -- A sweep of which a command is not done does not end done.
  abbrev pub Undone : Sweep → Type 0
  Undone r = r.sent ≡ Done → ⊥

  code_undone : (code : ℕ) (s : Sent) → or_code code s ≡ Done → ⊥
  unfolding or_code
  code_undone code Done e = cc
  code_undone code (Failed later) e = cc
  code_undone code Cut e = cc

  stop_strict_from : (stopped ds : List ℕ) → Strict Undone (stop_from ctx stopped ds)
  unfolding EachEnd stop_from undo_stops
  stop_strict_from stopped [] = strict_ends Undone _
  stop_strict_from stopped (d ∷ ds) =
      strict_sends Undone _ ctx _ _ _ (stop_strict_from (stopped ++ (d ∷ [])) ds)
      (λ code. end_then Undone (resume_stopped_endpoints ctx stopped) _ (λ r. code_undone code r.sent)) (λ e. cc)

  pub stop_strict : (ds : List ℕ) → Strict Undone (stop_endpoints ctx ds)
  unfolding stop_endpoints
  stop_strict ds = stop_strict_from [] ds
