-- The drivers' guesses are valid, and right about what was read.
use Prim.Native.Nat.{ℕ, ◌+◌, ◌-◌, ◌≤◌}
use mathlib.Core.Path.{◌≡◌, refl}
use mathlib.Core.Bool.{Bool, true, false, not, cond, ◌||◌}
use mathlib.Core.List.{[]}
use native.Mathlib.Omega.{arith}
use borrow.Author.Tests.{lt-ltb}
use lib.Dec.{ltb}
use lib.ListN.{length, take, length-take}
use Rattle.def.specs.Speed.{is_super}
use Rattle.descriptor.specs.Word.{kind}
use Rattle.descriptor_list.specs.Valid.{begins_with_configuration, words_ok, runs_fit, configurations, interfaces, valid_list}
use Rattle.descriptor_list.specs.Companions.{joined, companions_ok, list_ok, paired_after, paired, companions_fit, valid_at}
use Rattle.course_init.specs.Reading.{BringUp}
use Rattle.theorem_slot.specs.Call.{cut_at}
use Rattle.theorem_driver.specs.Driven.{DEVICE, FIRST-CONFIG, Right, partly_read, drivers_guess, DrivenAsWhole}
use Rattle.theorem_driver.proofs.Partly.{partly_count, partly_first}
use Rattle.theorem_driver.proofs.Pairs.{partly_valid_at}
use Rattle.theorem_driver.proofs.Unread.{guesses_unread}

empty_valid : (speed : ℕ) → valid_at speed [] ≡ true
unfolding
    joined companions_ok list_ok paired_after paired companions_fit valid_at kind valid_list begins_with_configuration words_ok runs_fit configurations interfaces
empty_valid speed = go (is_super speed)
  where
    go : (b : Bool) → (not b || true) ≡ true
    go true = refl
    go false = refl

module _ (a : BringUp) (i : ℕ) where
  guess_valid : valid_at a.speed a.list ≡ true → valid_at a.speed (drivers_guess a i).list ≡ true
  unfolding drivers_guess
  guess_valid v = go (ltb DEVICE i)
    where
      go : (b : Bool) → valid_at a.speed (cond b (partly_read (i - FIRST-CONFIG) a.list) []) ≡ true
      go true = partly_valid_at a.speed (i - FIRST-CONFIG) a.list v
      go false = empty_valid a.speed

  guess_right : (j : ℕ) → j ≤ i → Right a (drivers_guess a i) j
  unfolding drivers_guess
  guess_right j l =
      record {
        header = λ h. (rw (lt-ltb 1 i (omega arith)), rw (lt-ltb 1 i (omega arith)));
        value = λ h. rw (lt-ltb 3 i (omega arith));
        device = λ h. rw (lt-ltb 4 i (omega arith)) (partly_count (i - 5) a.list);
        config = λ k h. rw (lt-ltb 4 i (omega arith)) (partly_first (k + 1) (i - 5) a.list (omega arith));
      }

pub driven_as_whole : DrivenAsWhole
unfolding cut_at
driven_as_whole a b d routes i v =
    guesses_unread a (drivers_guess a i) (cut_at i b) d routes v (guess_valid a i v)
    (guess_right a i (length (take i b.outcomes)) (let l = length-take i b.outcomes in omega (arith, l)))
