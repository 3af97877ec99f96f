-- What a submission and a turn make, case by case, and one step of the search.
use Prim.Native.Nat.{ℕ, suc, ◌+◌, ◌-◌, ◌%◌, ◌<◌, ◌≤◌}
use mathlib.Core.Path.{◌≡◌, sym, ◌∙◌}
use mathlib.Core.Bool.{cond}
use mathlib.Core.List.{List}
use native.Mathlib.Omega.{arith}
use borrow.Author.Tests.{ne_eqb, le-leb, lt-leb, lt-ltb, le-ltb}
use lib.ListN.{get_or}
use Rattle.dispatcher.specs.declared.Dispatcher.{Dispatcher}
use Rattle.dispatcher.specs.Dispatcher.{WAITS, ALREADY-WAITING, TOO-MANY-SLOTS, answers, waits_now, untaken, waiting, submitted, first_waiting, next_slot, serves, serves_none, turned}

module _ (d : Dispatcher) (slot : ℕ) where
  pub submit_again : get_or d.marks slot 0 ≡ 2 → submitted d slot ≡ answers ALREADY-WAITING d
  unfolding submitted waiting
  submit_again e = rw e

  pub submit_many : get_or d.marks slot 0 ≡ 0 → 32 ≤ d.taken → submitted d slot ≡ answers TOO-MANY-SLOTS d
  unfolding submitted waiting untaken
  submit_many e h = rw (e, le-leb 32 d.taken h)

  pub submit_new : get_or d.marks slot 0 ≡ 0 → d.taken < 32 → submitted d slot ≡ answers WAITS (waits_now d slot (d.taken + 1))
  unfolding submitted waiting untaken
  submit_new e h = rw (e, lt-leb 32 d.taken h)

  pub submit_known : (get_or d.marks slot 0 ≡ 2 → ⊥) → (get_or d.marks slot 0 ≡ 0 → ⊥) →
      submitted d slot ≡ answers WAITS (waits_now d slot d.taken)
  unfolding submitted waiting untaken
  submit_known h g = rw (ne_eqb (get_or d.marks slot 0) 2 h, ne_eqb (get_or d.marks slot 0) 0 g)

module _ (marks : List ℕ) (from k x : ℕ) (fits : k < 256) (inv : x ≡ first_waiting (waiting marks) (256 - k) (from + k)) where
  first_step : x ≡ cond (waiting marks ((from + k) % 256)) ((from + k) % 256) (first_waiting (waiting marks) (256 - (k + 1)) (from + k + 1))
  unfolding first_waiting
  first_step = let e : 256 - k ≡ suc (256 - (k + 1)) = omega arith in inv ∙ rw e

  pub first_found : get_or marks ((from + k) % 256) 0 ≡ 2 → (from + k) % 256 ≡ x
  unfolding waiting
  first_found e = sym (first_step ∙ rw e)

  pub first_on : (get_or marks ((from + k) % 256) 0 ≡ 2 → ⊥) → x ≡ first_waiting (waiting marks) (256 - (k + 1)) (from + (k + 1))
  unfolding waiting
  first_on n = let e : from + k + 1 ≡ from + (k + 1) = omega arith in first_step ∙ rw (ne_eqb (get_or marks ((from + k) % 256) 0) 2 n, e)

pub first_none : (marks : List ℕ) (from k x : ℕ) → 256 ≤ k → x ≡ first_waiting (waiting marks) (256 - k) (from + k) → 256 ≡ x
unfolding first_waiting
first_none marks from k x g inv = let e : 256 - k ≡ 0 = omega arith in sym (inv ∙ rw e)

module _ (d : Dispatcher) (place : ℕ) (found : place ≡ next_slot d) where
  pub turn_slot : place < 256 → serves d place ≡ turned d
  unfolding turned
  turn_slot h = rw (← found, lt-ltb place 256 h)

  pub turn_nobody : 256 ≤ place → serves_none d ≡ turned d
  unfolding turned
  turn_nobody h = rw (← found, le-ltb place 256 h)
