-- The marks of slots, and one that is set.
use Prim.Native.Nat.{ℕ, ◌<◌}
use mathlib.Core.Path.{◌≡◌, refl, sym, ◌∙◌}
use mathlib.Core.Bool.{Bool, true, false, not}
use mathlib.Core.List.{List}
use native.Mathlib.Omega.{arith}
use native.Mathlib.Decide.{ℕ_discrete}
use lib.ListN.{length, get_or, set}
use lib.Seq.{get_or-set_same, get_or-set_other}
use borrow.Author.Tests.{eqb-true, eq-eqb, ne_eqb}
use Rattle.dispatcher.specs.Dispatcher.{waiting, untaken}

-- A slot that was taken.
unfoldable pub marked : List ℕ → ℕ → Bool
marked marks s = not (untaken marks s)

module _ (marks : List ℕ) (s : ℕ) where
  pub waits_mark : waiting marks s ≡ true → get_or marks s 0 ≡ 2
  unfolding waiting
  waits_mark e = eqb-true (get_or marks s 0) 2 e

  pub mark_waits : get_or marks s 0 ≡ 2 → waiting marks s ≡ true
  unfolding waiting
  mark_waits e = eq-eqb (get_or marks s 0) 2 e

  pub not_waits : (get_or marks s 0 ≡ 2 → ⊥) → waiting marks s ≡ false
  unfolding waiting
  not_waits n = ne_eqb (get_or marks s 0) 2 n

  pub marked_true : (get_or marks s 0 ≡ 0 → ⊥) → marked marks s ≡ true
  unfolding marked untaken
  marked_true n = rw (ne_eqb (get_or marks s 0) 0 n) refl

  pub marked_false : get_or marks s 0 ≡ 0 → marked marks s ≡ false
  unfolding marked untaken
  marked_false e = rw e refl

module _ (marks : List ℕ) (u m s : ℕ) where
  pub waiting_else : (s ≡ u → ⊥) → waiting (set marks u m) s ≡ waiting marks s
  unfolding waiting
  waiting_else n = rw (get_or-set_other marks u s m 0 n) refl

  pub marked_else : (s ≡ u → ⊥) → marked (set marks u m) s ≡ marked marks s
  unfolding marked untaken
  marked_else n = rw (get_or-set_other marks u s m 0 n) refl

  -- where it was taken before, no more slots are
  pub marked_known : marked marks u ≡ true → marked (set marks u m) s ≡ true → marked marks s ≡ true
  marked_known e g = go (ℕ_discrete s u)
    where
      go : Dec (s ≡ u) → marked marks s ≡ true
      go (yes q) = rw q e
      go (no n) = sym (marked_else n) ∙ g

module _ (marks : List ℕ) (u s : ℕ) (long : length marks ≡ 256) (h : u < 256) (q : s ≡ u) where
  pub waiting_there : waiting (set marks u 2) s ≡ true
  unfolding waiting
  waiting_there = rw (q, get_or-set_same marks u 2 0 (omega arith)) refl

  pub waiting_gone : waiting (set marks u 1) s ≡ false
  unfolding waiting
  waiting_gone = rw (q, get_or-set_same marks u 1 0 (omega arith)) refl

  pub marked_there : (m : ℕ) → (m ≡ 0 → ⊥) → marked (set marks u m) s ≡ true
  unfolding marked untaken
  marked_there m n = rw (q, get_or-set_same marks u m 0 (omega arith), ne_eqb m 0 n) refl
