-- The candidates of different interfaces are no more than the places of the first configuration: each place is one interface's.
use Rattle.std.specs.Prelude.{ℕ, zero, suc, ◌+◌, ◌≤◌, ◌≡◌, Bool, true, false, List, [], ◌∷◌, eqb, length, get_or, take}
use Rattle.std.specs.List.{flat_map}
use mathlib.Core.Path.{refl, sym, ap, ◌∙◌}
use mathlib.Core.Logic.{inl, inr}
use native.Mathlib.Omega.{arith}
use borrow.Author.Tests.{eqb-true}
use Rattle.std.proofs.lemmas.List.{length-append}
use Rattle.laws.specs.Distinct.{elem, distinct}
use Rattle.laws.proofs.Cases.{Decided, decided, false_if}
use Rattle.laws.proofs.Distinct.{elem_here, elem_there, distinct_first, distinct_rest}
use Rattle.laws.proofs.Tests.{and_left, and_right, not_both}
use Rattle.descriptor.specs.Word.{kind, interface_number, ALTERNATE}
use Rattle.descriptor_list.specs.Lookup.{of_interface}
use Rattle.choice_search.specs.declared.by_name.Candidate.{Candidate}
use Rattle.choice_list.specs.Candidate.{first_length}
use Rattle.choice_list.specs.Tried.{may_choose, candidates_from, candidates}

pub prefix_few : (f : ℕ → List Candidate) (k : ℕ) (names : List ℕ) → length (flat_map f (take k names)) ≤ length (flat_map f names)
prefix_few f zero names = omega arith
prefix_few f (suc k) [] = omega arith
prefix_few f (suc k) (x ∷ xs) =
    let i = prefix_few f k xs in
    omega (arith, length-append (f x) (flat_map f (take k xs)), length-append (f x) (flat_map f xs))

module _ (list : List ℕ) (speed longest : ℕ) where
  module _ (n place : ℕ) where
    abbrev here : ℕ → List Candidate
    here x = candidates_from list speed longest x (suc n) place

    abbrev later : ℕ → List Candidate
    later x = candidates_from list speed longest x n (place + 1)

    abbrev number : ℕ
    number = interface_number (get_or list place 0)

    passes : (x : ℕ) → may_choose list speed longest x place ≡ false → length (here x) ≡ length (later x)
    unfolding candidates_from
    passes x e = rw e refl

    puts : (x : ℕ) → may_choose list speed longest x place ≡ true → length (here x) ≡ suc (length (later x))
    unfolding candidates_from
    puts x e = rw e refl

    its_number : (x : ℕ) → may_choose list speed longest x place ≡ true → number ≡ x
    unfolding may_choose of_interface
    its_number x e =
        eqb-true number x (and_right (eqb (kind (get_or list place 0)) ALTERNATE) (eqb number x) (and_left (of_interface x (get_or list place 0)) _ e))

    none_more : (names : List ℕ) → elem number names ≡ false → length (flat_map here names) ≤ length (flat_map later names)
    none_more [] e = omega arith
    none_more (x ∷ xs) e =
        let p = passes x (false_if (may_choose list speed longest x place) (λ t. not_both _ (rw (its_number x t) (elem_here x xs)) e)) in
        let i = none_more xs (false_if (elem number xs) (λ t. not_both _ (elem_there number x xs t) e)) in
        omega (arith, p, i, length-append (here x) (flat_map here xs), length-append (later x) (flat_map later xs))

    one_more : (names : List ℕ) → distinct names ≡ true → length (flat_map here names) ≤ suc (length (flat_map later names))
    one_more [] d = omega arith
    one_more (x ∷ xs) d = go (decided (may_choose list speed longest x place)) (one_more xs (distinct_rest x xs d))
      where
        go : Decided (may_choose list speed longest x place) → length (flat_map here xs) ≤ suc (length (flat_map later xs)) →
            length (flat_map here (x ∷ xs)) ≤ suc (length (flat_map later (x ∷ xs)))
        go (inl t) i =
            let p = puts x t in
            let m = none_more xs (rw (its_number x t) (distinct_first x xs d)) in
            omega (arith, p, m, length-append (here x) (flat_map here xs), length-append (later x) (flat_map later xs))
        go (inr f) i =
            let p = passes x f in
            omega (arith, p, i, length-append (here x) (flat_map here xs), length-append (later x) (flat_map later xs))

  none_left : (place : ℕ) (names : List ℕ) → length (flat_map (λ x. candidates_from list speed longest x 0 place) names) ≡ 0
  unfolding candidates_from
  none_left place [] = refl
  none_left place (x ∷ xs) = none_left place xs

  few_from : (n place : ℕ) (names : List ℕ) → distinct names ≡ true →
      length (flat_map (λ x. candidates_from list speed longest x n place) names) ≤ n
  few_from zero place names d = let e = none_left place names in omega (arith, e)
  few_from (suc n) place names d =
      let i = few_from n (place + 1) names d in
      let o = one_more n place names d in
      omega (arith, i, o)

  pub few_candidates : (names : List ℕ) → distinct names ≡ true → length (flat_map (candidates list speed longest) names) ≤ first_length list
  unfolding candidates
  few_candidates names d = few_from (first_length list) 0 names d
