-- Distinct numbers, counted in a walk that marks those it has met.
use Prim.Native.Nat.{ℕ, zero, suc, ◌+◌}
use native.Mathlib.Omega.{arith}
use mathlib.Core.Path.{◌≡◌, refl, ap, ◌∙◌}
use mathlib.Core.Logic.{inl, inr}
use mathlib.Core.Bool.{Bool, true, false, cond, ◌||◌}
use mathlib.Core.List.{List, [], ◌∷◌}
use borrow.Author.Tests.{eqb-true}
use lib.Dec.{eqb}
use lib.ListN.{get_or, replicate}
use Rattle.laws.proofs.Cases.{Decided, decided}
use Rattle.laws.specs.Distinct.{elem}
use Rattle.descriptor_raw.specs.declared.marks.Marks.{Marks}
use Rattle.descriptor_raw.specs.Claims.{distinct_count}
use Rattle.descriptor_raw.specs.Marked.{has_mark, MarkedWith}

-- How many distinct numbers of a list have no mark.
unfoldable pub unmarked : Marks → List ℕ → ℕ
unmarked marks [] = 0
unmarked marks (x ∷ l) = cond (has_mark marks x || elem x l) (unmarked marks l) (suc (unmarked marks l))

no_mark : (n x : ℕ) → get_or (replicate n false) x false ≡ false
no_mark zero x = refl
no_mark (suc n) zero = refl
no_mark (suc n) (suc x) = no_mark n x

-- without marks, all
pub unmarked_all : (marks : Marks) → marks.met ≡ replicate 256 false → (l : List ℕ) → unmarked marks l ≡ distinct_count l
unfolding unmarked distinct_count
unmarked_all marks e [] = refl
unmarked_all marks e (x ∷ l) = rw (e, no_mark 256 x, unmarked_all marks e l)

-- where no number is left
pub none_left : (marks : Marks) (l : List ℕ) → l ≡ [] → unmarked marks l ≡ 0
unfolding unmarked
none_left marks l e = rw e

-- A number that is marked.
module _ (x : ℕ) (old new : Marks) (m : MarkedWith x old new) where
  -- it had a mark
  marked_again : has_mark old x ≡ true → (l : List ℕ) → unmarked new l ≡ unmarked old l
  unfolding unmarked
  marked_again h [] = refl
  marked_again h (y ∷ l) = rw (m.marks y, marked_again h l) (go (decided (eqb x y)))
    where
      go : Decided (eqb x y) →
          cond ((eqb x y || has_mark old y) || elem y l) (unmarked old l) (suc (unmarked old l))
          ≡ cond (has_mark old y || elem y l) (unmarked old l) (suc (unmarked old l))
      go (inl p) = let s : x ≡ y = eqb-true x y p in rw (p, ← s, h)
      go (inr p) = rw p

  -- it had none
  marked_one : has_mark old x ≡ false → (l : List ℕ) → cond (elem x l) (suc (unmarked new l)) (unmarked new l) ≡ unmarked old l
  unfolding unmarked elem
  marked_one h [] = refl
  marked_one h (y ∷ l) = go (decided (eqb x y)) (decided (elem x l)) (marked_one h l)
    where
      again : (b e : Bool) (k j : ℕ) → cond e (suc k) k ≡ j → cond e (suc (cond b k (suc k))) (cond b k (suc k)) ≡ cond b j (suc j)
      again true true k j q = q
      again true false k j q = q
      again false true k j q = ap suc q
      again false false k j q = ap suc q

      go : Decided (eqb x y) → Decided (elem x l) →
          cond (elem x l) (suc (unmarked new l)) (unmarked new l) ≡ unmarked old l →
          cond (eqb x y || elem x l) (suc (unmarked new (y ∷ l))) (unmarked new (y ∷ l)) ≡ unmarked old (y ∷ l)
      go (inl p) (inl q) e = let s : x ≡ y = eqb-true x y p in rw (m.marks y, p, ← s, h, q) (rw q at e)
      go (inl p) (inr q) e = let s : x ≡ y = eqb-true x y p in rw (m.marks y, p, ← s, h, q) (ap suc (rw q at e))
      go (inr p) q e = rw (m.marks y, p) (again (has_mark old y || elem y l) (elem x l) _ _ e)

  -- what the marks have and what is left are as many as before
  marked_counts : (l : List ℕ) → new.count + unmarked new l ≡ old.count + unmarked old (x ∷ l)
  unfolding unmarked
  marked_counts l =
      ap (λ (n : ℕ). n + unmarked new l) m.count ∙ go (decided (has_mark old x)) (elem x l) (λ h. marked_one h l)
    where
      go : Decided (has_mark old x) → (e : Bool) → (has_mark old x ≡ false → cond e (suc (unmarked new l)) (unmarked new l) ≡ unmarked old l) →
          cond (has_mark old x) old.count (old.count + 1) + unmarked new l
          ≡ old.count + cond (has_mark old x || e) (unmarked old l) (suc (unmarked old l))
      go (inl h) e q = rw (h, marked_again h l)
      go (inr h) true q = rw h (rw (← q h) (omega arith))
      go (inr h) false q = rw h (rw (← q h) (omega arith))

-- One turn of the walk: `total` numbers, `l` still to come, `rest` after the turn.
module _ (marks : Marks) (total : ℕ) (l rest : List ℕ) (e : marks.count + unmarked marks l ≡ total) where
  pub met_other : l ≡ rest → marks.count + unmarked marks rest ≡ total
  met_other q = rw (← q) e

  pub met : (x : ℕ) (next : Marks) {y : ℕ} → l ≡ y ∷ rest → x ≡ y → MarkedWith x marks next → next.count + unmarked next rest ≡ total
  met x next q s m = marked_counts x marks next m rest ∙ rw (s, ← q) e
