-- One turn of the walk that counts interfaces from the end of a list, with a mark for each interface behind it.
use Prim.Native.Nat.{ℕ, ◌+◌, ◌≤◌, ◌<◌}
use mathlib.Core.Path.{◌≡◌, refl, sym}
use mathlib.Core.Logic.{inl, inr}
use mathlib.Core.Bool.{Bool, true, false, cond, not, ◌||◌}
use mathlib.Core.List.{List, [], ◌∷◌}
use native.Mathlib.Omega.{arith}
use native.Mathlib.Numerals.{add-one}
use borrow.Author.Tests.{eqb-true, eqb-false, eq-eqb}
use lib.Dec.{eqb}
use lib.ListN.{length, get_or, set, drop, replicate, drop_of_length-le, get_or-replicate}
use lib.Seq.{get_or-set_same, get_or-set_other}
use Rattle.laws.proofs.Cases.{Decided, decided}
use Rattle.descriptor.specs.Word.{kind, interface_number, ALTERNATE}
use Rattle.descriptor_list.specs.Lookup.{of_interface}
use Rattle.descriptor_list.specs.Valid.{has_interface, last_alternate, interfaces}

-- The marks and the count of a list's interfaces.
pub record Counted (marks : List Bool) (count : ℕ) (l : List ℕ) : Type 0 where
  pub marked : (k : ℕ) → k < 256 → get_or marks k false ≡ has_interface k l
  pub counted : count ≡ interfaces l

none_counted : Counted (replicate 256 false) 0 []
unfolding has_interface interfaces
none_counted = record { marked = λ k h. get_or-replicate 256 k false false h; counted = refl }

-- nothing stands after the end
pub counted_end : (l : List ℕ) → Counted (replicate 256 false) 0 (drop (length l) l)
counted_end l = let h : length l ≤ length l = omega arith in rw (drop_of_length-le l h) none_counted

-- at the beginning the whole list is counted
pub counted_all : (marks : List Bool) (count : ℕ) (l : List ℕ) (i : ℕ) → i ≤ 0 → Counted marks count (drop i l) →
    count ≡ interfaces l
counted_all marks count l i h c = let e : i ≡ 0 = omega arith in rw e at c.counted

module _ (marks : List Bool) (count w : ℕ) (l : List ℕ) (c : Counted marks count l) where
  -- a word of another kind than an alternate's
  pub other_word : (k : ℕ) → kind w ≡ k → eqb k ALTERNATE ≡ false → Counted marks count (w ∷ l)
  unfolding has_interface of_interface interfaces last_alternate
  other_word k e f = record { marked = λ x h. rw (e, f) (c.marked x h); counted = rw (e, f) c.counted }

  module _ (x : ℕ) (e : x ≡ interface_number w) (a : kind w ≡ ALTERNATE) (b : x < 256) where
    has_word : (k : ℕ) → has_interface k (w ∷ l) ≡ eqb x k || has_interface k l
    unfolding has_interface of_interface
    has_word k = rw (eq-eqb (kind w) ALTERNATE a, e)

    count_word : interfaces (w ∷ l) ≡ cond (not (get_or marks x false)) (interfaces l + 1) (interfaces l)
    unfolding interfaces last_alternate
    count_word = rw (eq-eqb (kind w) ALTERNATE a, ← e, c.marked x b, add-one)

    -- an alternate of an interface with a mark
    pub marked_word : get_or marks x false ≡ true → Counted marks count (w ∷ l)
    marked_word m = record { marked = λ k h. go k h (decided (eqb x k)); counted = rw (count_word, m) c.counted }
      where
        go : (k : ℕ) → k < 256 → Decided (eqb x k) → get_or marks k false ≡ has_interface k (w ∷ l)
        go k h (inl p) = let s : x ≡ k = eqb-true x k p in rw (has_word k, p, ← s, m)
        go k h (inr p) = rw (has_word k, p) (c.marked k h)

    -- and of one without
    pub new_word : length marks ≡ 256 → get_or marks x false ≡ false → Counted (set marks x true) (count + 1) (w ∷ l)
    new_word n m = record { marked = λ k h. go k h (decided (eqb x k)); counted = rw (count_word, m, c.counted) }
      where
        go : (k : ℕ) → k < 256 → Decided (eqb x k) → get_or (set marks x true) k false ≡ has_interface k (w ∷ l)
        go k h (inl p) =
            let s : x ≡ k = eqb-true x k p in
            rw (has_word k, p, s, get_or-set_same marks k true false (rw n h))
        go k h (inr p) =
            rw (has_word k, p, get_or-set_other marks x k true false (λ s. eqb-false x k p (sym s))) (c.marked k h)
