-- The endpoints that a course leaves enabled: what a Configure's context says, and what an answer tells.
use Prim.Native.Nat.{ℕ, ◌+◌, ◌<◌, ◌≤◌}
use mathlib.Core.Path.{◌≡◌, refl, sym, ap, ◌∙◌}
use mathlib.Core.Bool.{Bool, true, false, not, cond, ◌&&◌, ◌||◌}
use mathlib.Core.List.{List}
use native.Mathlib.Nat.{mul-zero}
use native.Mathlib.Omega.{arith}
use borrow.Author.Tests.{le-leb, lt-ltb}
use lib.Dec.{eqb}
use lib.ListN.{length, take}
use Rattle.laws.proofs.Tests.{not_both}
use Rattle.laws.proofs.Cases.{or_none}
use Rattle.answer.specs.declared.Answer.{Answer}
use Rattle.answer.specs.declared.Answer.TheVariants as answer
use Rattle.answer.specs.Answer.{number}
use Rattle.command.specs.declared.Command.{Command}
use Rattle.command.specs.declared.Command.TheVariants as command
use Rattle.command.specs.declared.Sent.{Sent}
use Rattle.command.specs.declared.Sent.TheVariants.{Done, Failed, Cut}
use Rattle.command.specs.Command.{outcome_at}
use Rattle.command.specs.Course.{Course, ends, sends, on_sent, then}
use Rattle.command.specs.Sweep.{Sweep, stop_endpoints, resume_stopped_endpoints, stop_each}
use Rattle.command.proofs.Operations.{operation, EachCommand}
use Rattle.command.proofs.Sweeps.{stop_each_each}
use Rattle.context_field.specs.declared.Field.{Field}
use Rattle.context_field.specs.Field.{read_field}
use Rattle.context_block.specs.Fields.{DROP-FLAG, ADD-FLAG}
use Rattle.context_block.specs.Blocks.{some_dci}
use Rattle.context.specs.Place.{block_at, read_at, written, CONTROL, Spaced}
use Rattle.context.specs.Steps.{configure_writes}
use Rattle.context.proofs.Laws.{written_length}
use Rattle.context.proofs.Added.{drop_flag_reads, add_flag_reads}
use Rattle.transfer.specs.Routes.{Queue}
use Rattle.theorem_controller.specs.Controller.{CONFIGURE, DISABLE, is_done, configured, enabled_after}
use Rattle.theorem_controller.proofs.Done.{NoneOf}
use Rattle.theorem_controller.proofs.Followed.{followed, Follows, Idle, follows_sends, follows_idle, follows_then, stop_then, resume_then}

flag_set : (b : Bool) → eqb (cond b 1 0) 1 ≡ b
flag_set true = refl
flag_set false = refl

-- the first block is the control block
first_block : (s : ℕ) (ctx : List ℕ) (f : Field) → read_field (take 32 ctx) f ≡ read_at s ctx CONTROL f
unfolding read_at block_at
first_block s ctx f = rw mul-zero

module _ (s : ℕ) (ctx : List ℕ) (spaced : Spaced s (length ctx)) (d : ℕ) (two : 2 ≤ d) (h : d < 32) where
  -- a done Configure drops the endpoints of the dropped words and then adds those of the added ones
  pub configured_writes : (speed interface alternate : ℕ) (dropped added : List ℕ) (qs : List Queue) (dcis : List ℕ)
      (enabled : ℕ → Bool) →
      configured (written s (configure_writes speed interface alternate dropped added qs dcis) ctx) enabled d
      ≡ ((enabled d && not (some_dci d dropped)) || some_dci d added)
  unfolding configured
  configured_writes speed interface alternate dropped added qs dcis enabled =
      let after : List ℕ = written s (configure_writes speed interface alternate dropped added qs dcis) ctx in
      let drops : read_field (take 32 after) (DROP-FLAG d) ≡ cond (some_dci d dropped) 1 0 =
      first_block s after (DROP-FLAG d) ∙ drop_flag_reads speed interface alternate dropped added qs dcis s ctx spaced d two h in
      let adds : read_field (take 32 after) (ADD-FLAG d) ≡ cond (some_dci d added) 1 0 =
      first_block s after (ADD-FLAG d) ∙ add_flag_reads speed interface alternate dropped added qs dcis s ctx spaced d two h in
      rw (le-leb 2 d two, lt-ltb d 32 h, drops, adds, flag_set (some_dci d dropped), flag_set (some_dci d added))

-- a Configure that adds none
pub drops_only : (was dropped : Bool) → ((was && not dropped) || false) ≡ (was && not dropped)
drops_only true true = refl
drops_only true false = refl
drops_only false true = refl
drops_only false false = refl

-- what was dropped is added again and what was added dropped, and nothing else
drops_undone : (was dropped added : Bool) → (dropped ≡ true → was ≡ true) → (added ≡ true → dropped ≡ false → was ≡ false) →
    ((((was && not dropped) || added) && not added) || dropped) ≡ was
drops_undone true true added h g = go added
  where
    go : (a : Bool) → (((false || a) && not a) || true) ≡ true
    go true = refl
    go false = refl
drops_undone true false true h g = sym (g refl refl)
drops_undone true false false h g = refl
drops_undone false true added h g = not_both true refl (sym (h refl))
drops_undone false false true h g = refl
drops_undone false false false h g = refl

module _ (s : ℕ) (ctx : List ℕ) (spaced : Spaced s (length ctx)) (d : ℕ) (two : 2 ≤ d) (h : d < 32) where
  -- a second Configure that drops what the first added and adds what it dropped undoes it
  pub configured_undone : (speed interface alternate back_alternate : ℕ) (dropped added : List ℕ) (qs back_qs : List Queue)
      (dcis : List ℕ) (enabled : ℕ → Bool) →
      (some_dci d dropped ≡ true → enabled d ≡ true) →
      (some_dci d added ≡ true → some_dci d dropped ≡ false → enabled d ≡ false) →
      let first = written s (configure_writes speed interface alternate dropped added qs dcis) ctx in
      let second = written s (configure_writes speed interface back_alternate added dropped back_qs dcis) first in
      configured second (configured first enabled) d ≡ enabled d
  configured_undone speed interface alternate back_alternate dropped added qs back_qs dcis enabled p q =
      let first : List ℕ = written s (configure_writes speed interface alternate dropped added qs dcis) ctx in
      let still : Spaced s (length first) =
      rw (written_length s (configure_writes speed interface alternate dropped added qs dcis) ctx) spaced in
      configured_writes s first still d two h speed interface back_alternate added dropped back_qs dcis (configured first enabled)
      ∙ ap (λ x. (x && not (some_dci d added)) || some_dci d dropped)
      (configured_writes s ctx spaced d two h speed interface alternate dropped added qs dcis enabled)
      ∙ drops_undone (enabled d) (some_dci d dropped) (some_dci d added) p q

-- a command that is neither Configure nor Disable changes none
idle_other : (op : ℕ) → (eqb op CONFIGURE || eqb op DISABLE) ≡ false → Idle enabled_after op
unfolding enabled_after
idle_other op e s ctx enabled = let n = or_none (eqb op CONFIGURE) (eqb op DISABLE) e in rw (n.0, n.1)

module _ {A : Type 0} (Q : A → (ℕ → Bool) → Type 0) (enabled : ℕ → Bool) where
  -- what comes after a sweep decides
  pub follows_stop : (ctx ds : List ℕ) (f : Sweep → Course A) → ((r : Sweep) → Follows enabled_after Q enabled (f r)) →
      Follows enabled_after Q enabled (then (stop_endpoints ctx ds) f)
  follows_stop ctx ds f next = stop_then enabled_after Q enabled (idle_other 5 refl) ctx ds f next (idle_other 4 refl)

  pub follows_resume : (ctx ds : List ℕ) (f : Sweep → Course A) → ((r : Sweep) → Follows enabled_after Q enabled (f r)) →
      Follows enabled_after Q enabled (then (resume_stopped_endpoints ctx ds) f)
  follows_resume = resume_then enabled_after Q enabled (idle_other 5 refl)

  -- a Configure, where it is done
  pub follows_configure : (ctx : List ℕ) (done : Course A) (failed : ℕ → Course A) (cut : Course A) →
      Follows enabled_after Q (configured ctx enabled) done → ((code : ℕ) → Follows enabled_after Q enabled (failed code)) →
      Follows enabled_after Q enabled cut → Follows enabled_after Q enabled (sends command.Configure ctx (λ s. on_sent s done failed cut))
  unfolding enabled_after operation is_done
  follows_configure ctx done failed cut d f u = follows_sends enabled_after Q enabled command.Configure ctx done failed cut d f u

  -- a Disable, where it is done
  pub follows_disable : (ctx : List ℕ) (k : Sent → Course A) → Follows enabled_after Q (λ d. false) (k Done) →
      ((code : ℕ) → Follows enabled_after Q enabled (k (Failed code))) → Follows enabled_after Q enabled (k Cut) →
      Follows enabled_after Q enabled (sends command.Disable ctx k)
  unfolding Follows enabled_after operation is_done
  follows_disable ctx k d f u Done = d
  follows_disable ctx k d f u (Failed code) = f code
  follows_disable ctx k d f u Cut = u

  -- what comes after endpoints stopped past failures decides
  pub follows_stops : (ctx ds : List ℕ) (f : Bool → Course A) → ((cut : Bool) → Follows enabled_after Q enabled (f cut)) →
      Follows enabled_after Q enabled (then (stop_each ctx ds) f)
  unfolding operation
  follows_stops ctx ds f next =
      follows_then enabled_after Q enabled (stop_each ctx ds) f (stop_each_each _ ctx ds (λ k h. idle_other 4 refl)) next

  -- any other command
  pub follows_other : (c : Command) → (eqb (operation c) CONFIGURE || eqb (operation c) DISABLE) ≡ false → (ctx : List ℕ) (done : Course A)
      (failed : ℕ → Course A) (cut : Course A) → Follows enabled_after Q enabled done →
      ((code : ℕ) → Follows enabled_after Q enabled (failed code)) → Follows enabled_after Q enabled cut →
      Follows enabled_after Q enabled (sends c ctx (λ s. on_sent s done failed cut))
  follows_other c e = follows_idle enabled_after Q enabled c (idle_other (operation c) e)

-- No flag speaks of control: while no command is a Disable, it stays enabled.
control_step : (op : ℕ) → eqb op DISABLE ≡ false → (sent : Sent) (ctx : List ℕ) (enabled : ℕ → Bool) → enabled_after op sent ctx enabled 1 ≡ enabled 1
unfolding enabled_after configured
control_step op n sent ctx enabled = rw n (go (eqb op CONFIGURE && is_done sent))
  where
    go : (b : Bool) → (cond b (configured ctx enabled) enabled) 1 ≡ enabled 1
    go true = refl
    go false = refl

pub control_followed : {A : Type 0} (o : List ℕ) (n : ℕ) (c : Course A) (enabled : ℕ → Bool) → NoneOf DISABLE c →
    followed enabled_after o n c enabled 1 ≡ enabled 1
unfolding followed EachCommand
control_followed o n (ends a) enabled e = refl
control_followed o n (sends c ctx k) enabled e =
    control_followed o (n + 1) (k (outcome_at o n)) _ (e.1 (outcome_at o n)) ∙ control_step (operation c) e.0 (outcome_at o n) ctx enabled

-- What an answer tells of whether an endpoint is enabled: accepted, it is as `made`; failed, it is as it `was`, given what an undoing needs.
pub record Told (was made : Bool) (Given : Type 0) (x : Answer) (now : Bool) : Type 0 where
  pub accepted : x ≡ answer.Accepted → now ≡ made
  pub failed : (code : ℕ) → x ≡ answer.Failed code → Given → now ≡ was

module _ {was made : Bool} {Given : Type 0} where
  pub told_accepted : {now : Bool} → now ≡ made → Told was made Given answer.Accepted now
  unfolding number
  told_accepted e = record { accepted = λ a. e; failed = λ code f. absurd (omega (arith, ap number f)) }

  pub told_failed : {code : ℕ} {now : Bool} → (Given → now ≡ was) → Told was made Given (answer.Failed code) now
  unfolding number
  told_failed u = record { accepted = λ a. absurd (omega (arith, ap number a)); failed = λ code f. u }

  told_nothing : {x : Answer} {now : Bool} → 13 < number x → Told was made Given x now
  unfolding number
  told_nothing h =
      record {
        accepted = λ a. absurd (omega (arith, h, ap number a));
        failed = λ code f. absurd (omega (arith, h, ap number f));
      }

  -- the other answers tell nothing
  pub told_broken : {now : Bool} → Told was made Given answer.InterfaceBroken now
  unfolding number
  told_broken = told_nothing (omega arith)

  pub told_cut : {now : Bool} → Told was made Given answer.Cut now
  unfolding number
  told_cut = told_nothing (omega arith)

  pub told_invalid : {now : Bool} → Told was made Given answer.InvalidEndpoint now
  unfolding number
  told_invalid = told_nothing (omega arith)
