-- The names, each once, and the place of each.
use Rattle.std.specs.Prelude.{ℕ, suc, ◌+◌, ◌-◌, ◌<◌, ◌≤◌, ◌≡◌, ◌⊎◌, Bool, true, false, not, cond, ◌||◌, List, [], ◌∷◌, ◌++◌, eqb, length, get_or, set, take, drop}
use mathlib.Core.Path.{refl, sym, ap, ◌∙◌}
use mathlib.Core.Logic.{inl, inr}
use native.Mathlib.Omega.{arith}
use native.Mathlib.Numerals.{add-one}
use lib.Seq.{drop-cons}
use borrow.Author.Tests.{eqb-true, eq-eqb, ne_eqb}
use Rattle.std.proofs.lemmas.List.{take_more_set, append_assoc, append-nil, drop_all}
use Rattle.laws.specs.Distinct.{elem, distinct}
use Rattle.laws.proofs.Cases.{Decided, decided, or_cases, or_left, or_right, or_left_false, false_if}
use Rattle.laws.proofs.Tests.{and-true, not_both}
use Rattle.choice_search.specs.Search.{turned}
use Rattle.choice_list.specs.Tried.{new_names, place_of}

pub elem_append : (x y : ℕ) (l : List ℕ) → elem x (l ++ (y ∷ [])) ≡ (elem x l || eqb x y)
unfolding elem
elem_append x y [] = go (eqb x y)
  where
    go : (b : Bool) → (b || false) ≡ b
    go true = refl
    go false = refl
elem_append x y (z ∷ l) = go (eqb x z) (elem_append x y l)
  where
    go : (b : Bool) → elem x (l ++ (y ∷ [])) ≡ (elem x l || eqb x y) → (b || elem x (l ++ (y ∷ []))) ≡ ((b || elem x l) || eqb x y)
    go true e = refl
    go false e = e

-- Where the walk over the names stands.
pub record Naming (names once : List ℕ) (count i : ℕ) : Type 0 where
  pub few : count ≤ i
  pub whole : take count once ++ new_names (take count once) (drop i names) ≡ new_names [] names

pub naming_starts : (names once : List ℕ) → Naming names once 0 0
naming_starts names once = record { few = omega arith; whole = refl }

module _ (names once : List ℕ) (count i : ℕ) (h : i < length names) (n : Naming names once count i) where
  abbrev name : ℕ
  name = get_or names i 0

  next : (b : Bool) → elem name (take count once) ≡ b →
      new_names (take count once) (drop i names)
      ≡ cond b (new_names (take count once) (drop (i + 1) names)) (name ∷ new_names (take count once ++ (name ∷ [])) (drop (i + 1) names))
  unfolding new_names
  next b e = rw (drop-cons names i 0 h, e, add-one) refl

  pub naming_skips : elem name (take count once) ≡ true → Naming names once count (i + 1)
  naming_skips e =
      record {
        few = let f = n.few in omega arith;
        whole = ap (λ r. take count once ++ r) (sym (next true e)) ∙ n.whole;
      }

  pub naming_puts : elem name (take count once) ≡ false → count < length once → Naming names (set once count name) (count + 1) (i + 1)
  naming_puts e f =
      record {
        few = let g = n.few in omega arith;
        whole =
            rw (take_more_set once count name f)
            (append_assoc (take count once) (name ∷ []) _ ∙ ap (λ r. take count once ++ r) (sym (next false e)) ∙ n.whole);
      }

pub naming_ends : (names once : List ℕ) (count i : ℕ) → length names ≤ i → Naming names once count i → take count once ≡ new_names [] names
unfolding new_names
naming_ends names once count i h n = sym (append-nil (take count once)) ∙ rw (drop_all i names h) at n.whole

-- The place of a name, name by name.
abbrev pub Seeking : List ℕ → List ℕ → ℕ → ℕ → ℕ → Type 0
Seeking names picks n name i = place_of (drop i names) (turned picks (n - i)) name ≡ place_of names (turned picks n) name

module _ (names picks : List ℕ) (n name : ℕ) (all : length names ≡ n) where
  module _ (i : ℕ) (h : i < length names) (s : Seeking names picks n name i) where
    seek : place_of (drop i names) (turned picks (n - i)) name
        ≡ cond (eqb (get_or names i 0) name) (get_or picks (n - 1 - i) 0) (place_of (drop (i + 1) names) (turned picks (n - (i + 1))) name)
    unfolding place_of turned
    seek =
        let e : n - i ≡ suc (n - (i + 1)) = omega arith in
        let k : n - 1 - i ≡ n - (i + 1) = omega arith in
        rw (drop-cons names i 0 h, e, k, add-one) refl

    pub sought : get_or names i 0 ≡ name → get_or picks (n - 1 - i) 0 ≡ place_of names (turned picks n) name
    sought e = sym (seek ∙ rw (eq-eqb (get_or names i 0) name e) refl) ∙ s

    pub seek_on : (get_or names i 0 ≡ name → ⊥) → Seeking names picks n name (i + 1)
    seek_on e = sym (seek ∙ rw (ne_eqb (get_or names i 0) name e) refl) ∙ s

  pub not_sought : (i : ℕ) → length names ≤ i → Seeking names picks n name i → 0 ≡ place_of names (turned picks n) name
  unfolding place_of
  not_sought i h s = rw (drop_all i names h) at s

-- What is left when names were seen: it has a name exactly if it was not seen and is one of the others, and it has no name twice.
pub new_is_named : (x : ℕ) (seen names : List ℕ) → elem x (new_names seen names) ≡ true → (elem x names ≡ true) × (elem x seen ≡ false)
unfolding new_names elem
new_is_named x seen [] e = not_both false e refl
new_is_named x seen (n ∷ ns) e = go (decided (elem n seen)) e (new_is_named x seen ns) (new_is_named x (seen ++ (n ∷ [])) ns)
  where
    go : Decided (elem n seen) → elem x (cond (elem n seen) (new_names seen ns) (n ∷ new_names (seen ++ (n ∷ [])) ns)) ≡ true →
        (elem x (new_names seen ns) ≡ true → (elem x ns ≡ true) × (elem x seen ≡ false)) →
        (elem x (new_names (seen ++ (n ∷ [])) ns) ≡ true → (elem x ns ≡ true) × (elem x (seen ++ (n ∷ [])) ≡ false)) →
        ((eqb x n || elem x ns) ≡ true) × (elem x seen ≡ false)
    go (inl t) e i j = let k = i (rw t at e) in (or_right (eqb x n) (elem x ns) k.0, k.1)
    go (inr t) e i j = here (or_cases (eqb x n) _ (rw t at e)) j
      where
        here : (eqb x n ≡ true) ⊎ (elem x (new_names (seen ++ (n ∷ [])) ns) ≡ true) →
            (elem x (new_names (seen ++ (n ∷ [])) ns) ≡ true → (elem x ns ≡ true) × (elem x (seen ++ (n ∷ [])) ≡ false)) →
            ((eqb x n || elem x ns) ≡ true) × (elem x seen ≡ false)
        here (inl q) j = (or_left (eqb x n) (elem x ns) q, rw (eqb-true x n q) t)
        here (inr q) j = let k = j q in (or_right (eqb x n) (elem x ns) k.0, or_left_false (elem x seen) (eqb x n) (sym (elem_append x n seen) ∙ k.1))

pub named_is_new : (x : ℕ) (seen names : List ℕ) → elem x names ≡ true → elem x seen ≡ false → elem x (new_names seen names) ≡ true
unfolding new_names elem
named_is_new x seen [] e s = e
named_is_new x seen (n ∷ ns) e s = go (decided (elem n seen)) (decided (eqb x n)) (named_is_new x seen ns) (named_is_new x (seen ++ (n ∷ [])) ns)
  where
    go : Decided (elem n seen) → Decided (eqb x n) → (elem x ns ≡ true → elem x seen ≡ false → elem x (new_names seen ns) ≡ true) →
        (elem x ns ≡ true → elem x (seen ++ (n ∷ [])) ≡ false → elem x (new_names (seen ++ (n ∷ [])) ns) ≡ true) →
        elem x (cond (elem n seen) (new_names seen ns) (n ∷ new_names (seen ++ (n ∷ [])) ns)) ≡ true
    go (inl t) (inl q) i j = not_both (elem n seen) t (rw (eqb-true x n q) at s)
    go (inl t) (inr q) i j = rw t (i (rw q at e) s)
    go (inr t) (inl q) i j = rw t (or_left (eqb x n) _ q)
    go (inr t) (inr q) i j = rw t (or_right (eqb x n) _ (j (rw q at e) (elem_append x n seen ∙ rw (s, q) refl)))

pub new_distinct : (seen names : List ℕ) → distinct (new_names seen names) ≡ true
unfolding new_names distinct
new_distinct seen [] = refl
new_distinct seen (n ∷ ns) = go (decided (elem n seen)) (new_distinct seen ns) (new_distinct (seen ++ (n ∷ [])) ns)
  where
    go : Decided (elem n seen) → distinct (new_names seen ns) ≡ true → distinct (new_names (seen ++ (n ∷ [])) ns) ≡ true →
        distinct (cond (elem n seen) (new_names seen ns) (n ∷ new_names (seen ++ (n ∷ [])) ns)) ≡ true
    go (inl t) i j = rw t i
    go (inr t) i j = rw t (and-true (not (elem n (new_names (seen ++ (n ∷ [])) ns))) _ (rw (false_if (elem n (new_names (seen ++ (n ∷ [])) ns)) seen_it) refl) j)
      where
        seen_it : elem n (new_names (seen ++ (n ∷ [])) ns) ≡ true → ⊥
        seen_it e =
            not_both (elem n (seen ++ (n ∷ []))) (elem_append n n seen ∙ or_right (elem n seen) (eqb n n) (eq-eqb n n refl))
            (new_is_named n (seen ++ (n ∷ [])) ns e).1
