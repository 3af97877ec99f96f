-- The configurations of a list: the words of the first ones, and their count.
use Prim.Native.Nat.{ℕ, zero, suc, ◌+◌, ◌-◌, ◌<◌, ◌≤◌}
use mathlib.Core.Path.{◌≡◌, refl, ap, ◌∙◌}
use mathlib.Core.Bool.{Bool, true, false, cond}
use mathlib.Core.List.{List, [], ◌∷◌, ◌++◌, append_assoc, append-nil}
use native.Mathlib.Numerals.{add-one}
use native.Mathlib.Omega.{arith}
use borrow.Author.Tests.{eqb-true, ne_eqb}
use lib.Dec.{eqb}
use lib.ListN.{length, get_or, take, drop, drop_of_length-le}
use lib.Seq.{take-suc, drop-cons}
use Rattle.descriptor.specs.Word.{kind, CONFIGURATION}
use Rattle.descriptor_list.specs.Valid.{begins_with_configuration, configurations}
use Rattle.course_init.specs.Reading.{first_configurations}

module _ (w : ℕ) (l : List ℕ) where
  -- a word of another kind belongs to the configuration before it
  first_other : (k : ℕ) → eqb (kind w) CONFIGURATION ≡ false → first_configurations k (w ∷ l) ≡ w ∷ first_configurations k l
  unfolding first_configurations
  first_other zero e = rw e
  first_other (suc k) e = rw e

  -- a configuration begins, and there is to be one more
  first_more : (k : ℕ) → eqb (kind w) CONFIGURATION ≡ true → 0 < k →
      first_configurations k (w ∷ l) ≡ w ∷ first_configurations (k - 1) l
  unfolding first_configurations
  first_more zero e h = absurd (omega arith)
  first_more (suc k) e h = let z : suc k - 1 ≡ k = omega arith in rw (e, z)

  -- or none
  first_none : eqb (kind w) CONFIGURATION ≡ true → first_configurations 0 (w ∷ l) ≡ []
  unfolding first_configurations
  first_none e = rw e

-- Of a list with i words behind, the words of so many configurations more are to be counted.
pub record Counted (list : List ℕ) (k left i : ℕ) : Type 0 where
  pub inside : i ≤ length list
  pub rest : first_configurations k list ≡ take i list ++ first_configurations left (drop i list)

module _ (list : List ℕ) (k : ℕ) where
  module _ (left i : ℕ) (h : i < length list) (c : Counted list k left i) where
    behind : (x : List ℕ) → take i list ++ (get_or list i 0 ∷ x) ≡ take (i + 1) list ++ x
    behind x = rw (add-one i, take-suc list i 0 h, append_assoc)

    here : first_configurations k list ≡ take i list ++ first_configurations left (get_or list i 0 ∷ drop (i + 1) list)
    here = c.rest ∙ ap (λ l. take i list ++ first_configurations left l) (rw (add-one i, drop-cons list i 0 h))

    pub counted_other : eqb (kind (get_or list i 0)) CONFIGURATION ≡ false → Counted list k left (i + 1)
    counted_other e =
        record {
          inside = omega arith;
          rest = here ∙ rw (first_other (get_or list i 0) (drop (i + 1) list) left e) (behind _);
        }

    pub counted_more : eqb (kind (get_or list i 0)) CONFIGURATION ≡ true → 0 < left → Counted list k (left - 1) (i + 1)
    counted_more e l =
        record {
          inside = omega arith;
          rest = here ∙ rw (first_more (get_or list i 0) (drop (i + 1) list) left e l) (behind _);
        }

-- where the list ends
none_left : (k : ℕ) → first_configurations k [] ≡ []
unfolding first_configurations
none_left zero = refl
none_left (suc k) = refl

module _ (list : List ℕ) (k left i : ℕ) (c : Counted list k left i) where
  -- where the list ends, all its words are those
  pub counted_end : length list ≤ i → first_configurations k list ≡ take (length list) list
  counted_end h =
      let e : i ≡ length list = omega (arith, c.inside) in
      c.rest ∙ rw (drop_of_length-le list h, none_left left, append-nil, e)

  -- and where a configuration too many begins
  pub counted_enough : i < length list → eqb (kind (get_or list i 0)) CONFIGURATION ≡ true → left ≡ 0 →
      first_configurations k list ≡ take i list
  counted_enough h e z =
      here list k left i h c ∙ rw (z, first_none (get_or list i 0) (drop (i + 1) list) e, append-nil)

first_begun : (w : ℕ) (l : List ℕ) (b : Bool) → eqb (kind w) CONFIGURATION ≡ b →
    first_configurations (configurations l) l ≡ l →
    first_configurations (cond b (suc (configurations l)) (configurations l)) (w ∷ l) ≡ w ∷ l
first_begun w l true e all =
    let z : suc (configurations l) - 1 ≡ configurations l = omega arith in
    first_more w l (suc (configurations l)) e (omega arith) ∙ rw (z, all)
first_begun w l false e all = first_other w l (configurations l) e ∙ rw all

-- all configurations are the whole list
pub first_all : (l : List ℕ) → first_configurations (configurations l) l ≡ l
unfolding configurations
first_all [] = none_left 0
first_all (w ∷ l) = first_begun w l (eqb (kind w) CONFIGURATION) refl (first_all l)

-- before the first one there is no word
pub begun_none : (l : List ℕ) → begins_with_configuration l ≡ true → first_configurations 0 l ≡ []
unfolding begins_with_configuration
begun_none [] e = none_left 0
begun_none (w ∷ l) e = first_none w l e

-- a list with configurations has words
pub some_words : (l : List ℕ) → 0 < configurations l → eqb (length l) 0 ≡ false
unfolding configurations
some_words [] h = absurd (omega arith)
some_words (w ∷ l) h = ne_eqb (suc (length l)) 0 (λ e. omega (arith, e))

-- and one without words has none
pub none_of : (l : List ℕ) → eqb (length l) 0 ≡ true → configurations l ≡ 0
unfolding configurations
none_of [] e = refl
none_of (w ∷ l) e = absurd (omega (arith, eqb-true (suc (length l)) 0 e))

-- a list without words
pub first_empty : (k : ℕ) (l : List ℕ) → length l ≡ 0 → first_configurations k l ≡ l
first_empty k [] e = none_left k
first_empty k (w ∷ l) e = absurd (omega arith)
