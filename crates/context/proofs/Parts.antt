-- A part of a list put through a function that keeps lengths.
use Prim.Native.Nat.{ℕ, zero, suc, ◌+◌, ◌-◌, ◌<◌, ◌≤◌}
use mathlib.Core.Path.{◌≡◌, refl, sym, ap, ◌∙◌}
use mathlib.Core.Logic.{◌⊎◌, inl, inr}
use mathlib.Core.List.{List, [], ◌∷◌, ◌++◌}
use native.Mathlib.Omega.{arith}
use native.Mathlib.Nat.{add-zero}
use lib.ListN.{length, take, drop, get_or, take-append-drop, length-append, length-take, length-drop}
use lib.Seq.{take-take, drop-drop, length_front, get_or-take, get_or-drop}
use Rattle.context.specs.Place.{on_part}

-- A list with its end, or its beginning, put anew.

new_end : (a : ℕ) (l y : List ℕ) → length y ≡ length (drop a l) → drop a (take a l ++ y) ≡ y
new_end zero l y e = refl
new_end (suc a) [] [] e = refl
new_end (suc a) [] (x ∷ y) e = absurd (omega arith)
new_end (suc a) (x ∷ l) y e = new_end a l y e

old_front : (a : ℕ) (l y : List ℕ) → length y ≡ length (drop a l) → take a (take a l ++ y) ≡ take a l
old_front zero l y e = refl
old_front (suc a) [] [] e = refl
old_front (suc a) [] (x ∷ y) e = absurd (omega arith)
old_front (suc a) (x ∷ l) y e = ap (λ (m : List ℕ). x ∷ m) (old_front a l y e)

new_front : (k : ℕ) (q p : List ℕ) → length p ≡ length (take k q) → take k (p ++ drop k q) ≡ p
new_front zero q [] e = refl
new_front zero q (x ∷ p) e = absurd (omega arith)
new_front (suc k) [] [] e = refl
new_front (suc k) [] (x ∷ p) e = absurd (omega arith)
new_front (suc k) (y ∷ q) [] e = absurd (omega arith)
new_front (suc k) (y ∷ q) (x ∷ p) e = ap (λ (m : List ℕ). x ∷ m) (new_front k q p (omega arith))

old_end : (k : ℕ) (q p : List ℕ) → length p ≡ length (take k q) → drop k (p ++ drop k q) ≡ drop k q
old_end zero q [] e = refl
old_end zero q (x ∷ p) e = absurd (omega arith)
old_end (suc k) [] [] e = refl
old_end (suc k) [] (x ∷ p) e = absurd (omega arith)
old_end (suc k) (y ∷ q) [] e = absurd (omega arith)
old_end (suc k) (y ∷ q) (x ∷ p) e = old_end k q p (omega arith)

window : (b n a : ℕ) (l : List ℕ) → b + n ≤ a → take n (drop b (take a l)) ≡ take n (drop b l)
window zero n a l h = take-take n a l (omega arith)
window (suc b) n zero l h = absurd (omega arith)
window (suc b) n (suc a) [] h = refl
window (suc b) n (suc a) (x ∷ l) h = window b n a l (omega arith)

part_whole :
    (a k : ℕ) (f : List ℕ → List ℕ) (l : List ℕ) →
    on_part a k f l ≡ take a l ++ (f (take k (drop a l)) ++ drop k (drop a l))
unfolding on_part
part_whole a k f l = refl

module _ (a k : ℕ) (f : List ℕ → List ℕ) (l : List ℕ) (keeps : (m : List ℕ) → length (f m) ≡ length m) where
  part_length_from : length (f (take k (drop a l)) ++ drop k (drop a l)) ≡ length (drop a l)
  part_length_from = length_front (drop a l) (f (take k (drop a l))) k (keeps (take k (drop a l)))

  part_from : drop a (on_part a k f l) ≡ f (take k (drop a l)) ++ drop k (drop a l)
  unfolding on_part
  part_from = new_end a l (f (take k (drop a l)) ++ drop k (drop a l)) part_length_from

  part_front : take a (on_part a k f l) ≡ take a l
  unfolding on_part
  part_front = old_front a l (f (take k (drop a l)) ++ drop k (drop a l)) part_length_from

  part_end : drop k (drop a (on_part a k f l)) ≡ drop k (drop a l)
  part_end = rw part_from (old_end k (drop a l) (f (take k (drop a l))) (keeps (take k (drop a l))))

  -- The list keeps its length.
  pub part_length : length (on_part a k f l) ≡ length l
  unfolding on_part
  part_length = simp (length-append, keeps, length-take, length-drop) (omega arith)

  -- The part.
  pub part_same : take k (drop a (on_part a k f l)) ≡ f (take k (drop a l))
  part_same = rw part_from (new_front k (drop a l) (f (take k (drop a l))) (keeps (take k (drop a l))))

  -- What lies above it.
  pub part_above : (b : ℕ) → a + k ≤ b → drop b (on_part a k f l) ≡ drop b l
  part_above b h = split (on_part a k f l) ∙ ap (drop (b - (a + k))) part_end ∙ sym (split l)
    where
      split : (m : List ℕ) → drop b m ≡ drop (b - (a + k)) (drop k (drop a m))
      split m =
          let e : b ≡ a + k + (b - (a + k)) = omega arith in
          ap (λ (x : ℕ). drop x m) e ∙ sym (drop-drop (b - (a + k)) (a + k) m) ∙ ap (drop (b - (a + k))) (sym (drop-drop k a m))

  -- What lies below it.
  pub part_below : (b n : ℕ) → b + n ≤ a → take n (drop b (on_part a k f l)) ≡ take n (drop b l)
  part_below b n h = sym (window b n a (on_part a k f l) h) ∙ rw part_front (window b n a l h)

  -- A byte outside it.
  pub part_other : (i : ℕ) → (i < a) ⊎ (a + k ≤ i) → get_or (on_part a k f l) i 0 ≡ get_or l i 0
  part_other i (inl h) = sym (get_or-take a (on_part a k f l) i 0 h) ∙ rw part_front (get_or-take a l i 0 h)
  part_other i (inr h) = at (on_part a k f l) ∙ ap (λ (m : List ℕ). get_or m 0 0) (part_above i h) ∙ sym (at l)
    where
      at : (m : List ℕ) → get_or m i 0 ≡ get_or (drop i m) 0 0
      at m = ap (λ (x : ℕ). get_or m x 0) (sym (add-zero i)) ∙ sym (get_or-drop i m 0 0)

  -- The part put through another.
  pub part_twice : (g : List ℕ → List ℕ) → on_part a k g (on_part a k f l) ≡ on_part a k (λ m. g (f m)) l
  part_twice g = part_whole a k g (on_part a k f l) ∙ rw (part_front, part_same, part_end) (sym (part_whole a k (λ m. g (f m)) l))

pub part_none : (a k : ℕ) (l : List ℕ) → on_part a k (λ m. m) l ≡ l
unfolding on_part
part_none a k l = rw (take-append-drop k (drop a l), take-append-drop a l)
