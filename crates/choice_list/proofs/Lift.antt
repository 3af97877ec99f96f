-- From picks for the names, each once, to choices for all of them, and back.
use Rattle.std.specs.Prelude.{ℕ, zero, suc, ◌<◌, ◌≡◌, ◌⊎◌, true, false, cond, Some, None, List, [], ◌∷◌, ◌++◌, eqb, length, get_or, map}
use mathlib.Core.Path.{refl, sym, ap, ◌∙◌}
use mathlib.Core.Logic.{inl, inr}
use native.Mathlib.Omega.{arith}
use borrow.Author.Tests.{eqb-true, eqb-false, eq-eqb, ne_eqb, not-true}
use Rattle.std.specs.Int.Bits.{bit_and, bit_or}
use Rattle.std.proofs.lemmas.List.{get_or-map, length-map}
use Rattle.laws.specs.Distinct.{elem, distinct}
use Rattle.laws.proofs.Cases.{Decided, decided, or_cases, or_left, or_right}
use Rattle.laws.proofs.Tests.{and_left, and_right, not_both}
use Rattle.context_block.specs.Flags.{flags_of}
use Rattle.choice_search.specs.Order.{NotAfter, alike, lower, same}
use Rattle.choice_search.specs.Search.{pick, has}
use Rattle.choice_search.specs.Promises.{IsPick}
use Rattle.choice_search.proofs.Promises.{picks_earliest, none_picks}
use Rattle.choice_search.proofs.Sets.{has_none, apart_not}
use Rattle.choice_list.specs.Candidate.{words_at, is_candidate}
use Rattle.choice_list.specs.Choice.{Choice, First}
use Rattle.choice_list.specs.Tried.{candidates, new_names, place_of}
use Rattle.choice_list.proofs.Masks.{Apart, apart_turned, apart_from_both, apart_first, apart_second, mask_apart, apart_addresses, apart_masks}
use Rattle.choice_list.proofs.Members.{candidate_is, is_among, all_rise}
use Rattle.choice_list.proofs.Listed.{at_place}
use Rattle.choice_list.proofs.Once.{elem_append, new_is_named, named_is_new, new_distinct}

-- A name among some, and the place that stands beside it first.
record Standing (names places : List ℕ) (x : ℕ) : Type 0 where
  at : ℕ
  below : at < length names
  is : get_or names at 0 ≡ x
  place : place_of names places x ≡ get_or places at 0

stands : (x : ℕ) (names places : List ℕ) → length places ≡ length names → elem x names ≡ true → Standing names places x
unfolding elem place_of
stands x [] places l e = not_both false e refl
stands x (n ∷ ns) [] l e = absurd (omega arith)
stands x (n ∷ ns) (p ∷ ps) l e = go (decided (eqb n x)) (or_cases (eqb x n) (elem x ns) e) (stands x ns ps (omega arith))
  where
    go : Decided (eqb n x) → (eqb x n ≡ true) ⊎ (elem x ns ≡ true) → (elem x ns ≡ true → Standing ns ps x) → Standing (n ∷ ns) (p ∷ ps) x
    go (inl q) o i = record { at = 0; below = omega arith; is = eqb-true n x q; place = rw q refl }
    go (inr q) (inl t) i = absurd (eqb-false n x q (sym (eqb-true x n t)))
    go (inr q) (inr t) i =
        let s = i t in
        let b = s.below in
        record { at = suc s.at; below = omega arith; is = s.is; place = rw q s.place }

named : (names : List ℕ) (j : ℕ) → j < length names → elem (get_or names j 0) names ≡ true
unfolding elem
named [] j h = absurd (omega arith)
named (n ∷ ns) zero h = or_left (eqb n n) (elem n ns) (eq-eqb n n refl)
named (n ∷ ns) (suc j) h = or_right (eqb (get_or ns j 0) n) (elem (get_or ns j 0) ns) (named ns j (omega arith))

map_places : (f : ℕ → ℕ) (names places : List ℕ) → length places ≡ length names →
    ((j : ℕ) → j < length names → f (get_or names j 0) ≡ get_or places j 0) → places ≡ map f names
map_places f [] [] l h = refl
map_places f [] (p ∷ ps) l h = absurd (omega arith)
map_places f (n ∷ ns) [] l h = absurd (omega arith)
map_places f (n ∷ ns) (p ∷ ps) l h = rw (← map_places f ns ps (omega arith) (λ j i. h (suc j) (omega arith)), ← h 0 (omega arith)) refl

-- Order: what is compared where a name stands first is compared everywhere.
parted : (p q : ℕ) (ps qs : List ℕ) → NotAfter (p ∷ ps) (q ∷ qs) → (p < q) ⊎ ((p ≡ q) × NotAfter ps qs)
parted p q ps qs (lower h) = inl h
parted p q ps qs (same n) = inr (refl, n)

same_at : (p q : ℕ) (ps qs : List ℕ) → p ≡ q → NotAfter ps qs → NotAfter (p ∷ ps) (q ∷ qs)
same_at p q ps qs e n = rw e (same n)

module _ (f g : ℕ → ℕ) where
  order : (seen names : List ℕ) → ((x : ℕ) → elem x seen ≡ true → f x ≡ g x) →
      NotAfter (map f (new_names seen names)) (map g (new_names seen names)) → NotAfter (map f names) (map g names)
  unfolding new_names
  order seen [] e n = alike
  order seen (x ∷ xs) e n = go (decided (elem x seen)) n (order seen xs e) (order (seen ++ (x ∷ [])) xs)
    where
      more : f x ≡ g x → (y : ℕ) → elem y (seen ++ (x ∷ [])) ≡ true → f y ≡ g y
      more q y t = here (or_cases (elem y seen) (eqb y x) (sym (elem_append y x seen) ∙ t))
        where
          here : (elem y seen ≡ true) ⊎ (eqb y x ≡ true) → f y ≡ g y
          here (inl u) = e y u
          here (inr u) = rw (eqb-true y x u) q

      go : Decided (elem x seen) →
          NotAfter (map f (cond (elem x seen) (new_names seen xs) (x ∷ new_names (seen ++ (x ∷ [])) xs)))
          (map g (cond (elem x seen) (new_names seen xs) (x ∷ new_names (seen ++ (x ∷ [])) xs))) →
          (NotAfter (map f (new_names seen xs)) (map g (new_names seen xs)) → NotAfter (map f xs) (map g xs)) →
          (((y : ℕ) → elem y (seen ++ (x ∷ [])) ≡ true → f y ≡ g y) →
          NotAfter (map f (new_names (seen ++ (x ∷ [])) xs)) (map g (new_names (seen ++ (x ∷ [])) xs)) → NotAfter (map f xs) (map g xs)) →
          NotAfter (f x ∷ map f xs) (g x ∷ map g xs)
      go (inl t) n i j = same_at _ _ _ _ (e x t) (i (rw t at n))
      go (inr t) n i j = here (parted _ _ _ _ (rw t at n)) j
        where
          here : (f x < g x) ⊎ ((f x ≡ g x) × NotAfter (map f (new_names (seen ++ (x ∷ [])) xs)) (map g (new_names (seen ++ (x ∷ [])) xs))) →
              (((y : ℕ) → elem y (seen ++ (x ∷ [])) ≡ true → f y ≡ g y) →
              NotAfter (map f (new_names (seen ++ (x ∷ [])) xs)) (map g (new_names (seen ++ (x ∷ [])) xs)) → NotAfter (map f xs) (map g xs)) →
              NotAfter (f x ∷ map f xs) (g x ∷ map g xs)
          here (inl l) j = lower l
          here (inr q) j = same_at _ _ _ _ q.0 (j (more q.0) q.1)

module _ (list : List ℕ) (speed longest : ℕ) where
  abbrev mask : ℕ → ℕ → ℕ
  mask x p = flags_of (words_at list x p)

  -- Places for some names, by a function.
  record Placing (names : List ℕ) (taken : ℕ) (f : ℕ → ℕ) : Type 0 where
    each : (x : ℕ) → elem x names ≡ true → is_candidate list speed longest x (f x) ≡ true
    free : (x : ℕ) → elem x names ≡ true → Apart (mask x (f x)) taken
    apart : (x y : ℕ) → elem x names ≡ true → elem y names ≡ true → (x ≡ y → ⊥) → Apart (mask x (f x)) (mask y (f y))

  -- With one more name.
  module _ (x : ℕ) (xs : List ℕ) (taken p : ℕ) (f g : ℕ → ℕ) (is : is_candidate list speed longest x p ≡ true) (free : Apart (mask x p) taken)
      (rest : Placing xs (bit_or taken (mask x p)) g) (at : f x ≡ p) (later : (y : ℕ) → elem y xs ≡ true → f y ≡ g y) where
    Either : ℕ → Type 0
    Either y = (y ≡ x) ⊎ (elem y xs ≡ true)

    either : (y : ℕ) → elem y (x ∷ xs) ≡ true → Either y
    unfolding elem Either
    either y e = go (or_cases (eqb y x) (elem y xs) e)
      where
        go : (eqb y x ≡ true) ⊎ (elem y xs ≡ true) → (y ≡ x) ⊎ (elem y xs ≡ true)
        go (inl q) = inl (eqb-true y x q)
        go (inr q) = inr q

    each_one : (y : ℕ) → Either y → is_candidate list speed longest y (f y) ≡ true
    unfolding Either
    each_one y (inl q) = rw (q, at) is
    each_one y (inr q) = rw (later y q) (rest.each y q)

    free_one : (y : ℕ) → Either y → Apart (mask y (f y)) taken
    unfolding Either
    free_one y (inl q) = rw (q, at) free
    free_one y (inr q) = rw (later y q) (apart_first _ _ _ (rest.free y q))

    apart_one : (y z : ℕ) → Either y → Either z → (y ≡ z → ⊥) → Apart (mask y (f y)) (mask z (f z))
    unfolding Either
    apart_one y z (inl q) (inl r) n = absurd (n (q ∙ sym r))
    apart_one y z (inl q) (inr r) n = rw (q, at, later z r) (apart_turned _ _ (apart_second _ _ _ (rest.free z r)))
    apart_one y z (inr q) (inl r) n = rw (r, at, later y q) (apart_second _ _ _ (rest.free y q))
    apart_one y z (inr q) (inr r) n = rw (later y q, later z r) (rest.apart y z q r n)

    one_more : Placing (x ∷ xs) taken f
    one_more =
        record {
          each = λ y e. each_one y (either y e);
          free = λ y e. free_one y (either y e);
          apart = λ y z e d n. apart_one y z (either y e) (either z d) n;
        }

  -- A pick places the names.
  record Places (names : List ℕ) (taken : ℕ) (ps : List ℕ) : Type 0 where
    placing : Placing names taken (place_of names ps)
    are : ps ≡ map (place_of names ps) names

  map_same : (f g : ℕ → ℕ) (xs : List ℕ) → ((y : ℕ) → elem y xs ≡ true → f y ≡ g y) → map f xs ≡ map g xs
  unfolding elem
  map_same f g [] h = refl
  map_same f g (x ∷ xs) h =
      rw (h x (or_left (eqb x x) (elem x xs) (eq-eqb x x refl)), map_same f g xs (λ y e. h y (or_right (eqb y x) (elem y xs) e))) refl

  pick_places : (names : List ℕ) (taken : ℕ) (ps : List ℕ) → distinct names ≡ true → IsPick (map (candidates list speed longest) names) taken ps →
      Places names taken ps
  unfolding IsPick distinct elem place_of
  pick_places [] taken [] d i =
      record {
        placing = record { each = λ x e. not_both false e refl; free = λ x e. not_both false e refl; apart = λ x y e. not_both false e refl };
        are = refl;
      }
  pick_places [] taken (p ∷ ps) d i = absurd i
  pick_places (x ∷ xs) taken [] d i = absurd i
  pick_places (x ∷ xs) taken (p ∷ ps) d (c, (a, e, h, r)) =
      let m = candidate_is list speed longest x c a in
      let q : c.addresses ≡ mask x p = m.addresses ∙ ap (mask x) e in
      go (rw e at m.candidate) (rw q at h) (pick_places xs (bit_or taken (mask x p)) ps (and_right _ (distinct xs) d) (rw q at r))
    where
      other : (y : ℕ) → elem y xs ≡ true → eqb x y ≡ false
      other y t = ne_eqb x y (λ q. not_both (elem x xs) (rw q t) (not-true (elem x xs) (and_left _ (distinct xs) d)))

      go : is_candidate list speed longest x p ≡ true → bit_and (mask x p) taken ≡ 0 → Places xs (bit_or taken (mask x p)) ps →
          Places (x ∷ xs) taken (p ∷ ps)
      go m h s =
          let first : place_of (x ∷ xs) (p ∷ ps) x ≡ p = rw (eq-eqb x x refl) refl in
          let later : (y : ℕ) → elem y xs ≡ true → place_of (x ∷ xs) (p ∷ ps) y ≡ place_of xs ps y = λ y t. rw (other y t) refl in
          record {
            placing = one_more x xs taken p (place_of (x ∷ xs) (p ∷ ps)) (place_of xs ps) m (apart_not (mask x p) taken h) s.placing first later;
            are = rw (map_same (place_of (x ∷ xs) (p ∷ ps)) (place_of xs ps) xs later, first, ← s.are) refl;
          }

  -- And places make a pick.
  places_pick : (names : List ℕ) (taken : ℕ) (f : ℕ → ℕ) → distinct names ≡ true → Placing names taken f →
      IsPick (map (candidates list speed longest) names) taken (map f names)
  unfolding IsPick distinct elem
  places_pick [] taken f d l = tt
  places_pick (x ∷ xs) taken f d l =
      let h : elem x (x ∷ xs) ≡ true = or_left (eqb x x) (elem x xs) (eq-eqb x x refl) in (
        at_place list speed longest x (f x),
        (
          is_among list speed longest x (f x) (l.each x h),
          refl,
          mask_apart (words_at list x (f x)) taken (l.free x h),
          places_pick xs (bit_or taken (mask x (f x))) f (and_right _ (distinct xs) d)
              (record {
                each = λ y t. l.each y (or_right (eqb y x) (elem y xs) t);
                free = λ y t. apart_from_both _ _ _ (l.free y (or_right (eqb y x) (elem y xs) t))
                    (l.apart y x (or_right (eqb y x) (elem y xs) t) h
                    (λ q. not_both (elem x xs) (rw (← q) t) (not-true (elem x xs) (and_left _ (distinct xs) d))));
                apart = λ y z t u n. l.apart y z (or_right (eqb y x) (elem y xs) t) (or_right (eqb z x) (elem z xs) u) n;
              }),
        ),
      )

  module _ (names : List ℕ) where
    abbrev once : List ℕ
    once = new_names [] names

    is_once : (x : ℕ) → elem x names ≡ true → elem x once ≡ true
    unfolding elem
    is_once x e = named_is_new x [] names e refl

    -- Choices are places for the names, each once.
    placing_chosen : (f : ℕ → ℕ) → Placing once 0 f → Choice list speed longest names (map f names)
    placing_chosen f l =
        record {
          long = length-map names f;
          each = λ j h. rw (at j h) (l.each (get_or names j 0) (is_once _ (named names j h)));
          one = λ j k h g e. rw (at j h, at k g) (ap f e);
          apart = λ j k a h g n.
              rw (at j h, at k g)
              (apart_addresses (words_at list (get_or names j 0) (f (get_or names j 0))) (words_at list (get_or names k 0) (f (get_or names k 0)))
              (l.apart (get_or names j 0) (get_or names k 0) (is_once _ (named names j h)) (is_once _ (named names k g)) n) a);
        }
      where
        at : (j : ℕ) → j < length names → get_or (map f names) j 0 ≡ f (get_or names j 0)
        at j h = get_or-map f names j 0 0 h

    module _ (places : List ℕ) (c : Choice list speed longest names places) where
      abbrev its : ℕ → ℕ
      its x = place_of names places x

      stand : (x : ℕ) → elem x once ≡ true → Standing names places x
      stand x e = stands x names places c.long (new_is_named x [] names e).0

      chosen_placing : Placing once 0 its
      chosen_placing =
          record {
            each = λ x e. let s = stand x e in rw s.place (rw s.is at (c.each s.at s.below));
            free = λ x e k h g. not_both (has 0 k) g (has_none k);
            apart = λ x y e d n.
                let s = stand x e in
                let t = stand y d in
                apart_masks (words_at list x (its x)) (words_at list y (its y))
                (λ a. rw (s.place, t.place) (rw (s.is, t.is) at (c.apart s.at t.at a s.below t.below (λ q. n (sym s.is ∙ q ∙ t.is)))));
          }

      chosen_map : places ≡ map its names
      chosen_map =
          map_places its names places c.long
          (λ j h.
          let s = stands (get_or names j 0) names places c.long (named names j h) in
          s.place ∙ c.one s.at j s.below h s.is)

    pub picked_first : (ps : List ℕ) → pick (map (candidates list speed longest) once) 0 ≡ Some ps →
        First list speed longest names (map (place_of once ps) names)
    unfolding elem
    picked_first ps e =
        let s = picks_earliest (map (candidates list speed longest) once) 0 ps (all_rise list speed longest once) e in
        let q = pick_places once 0 ps (new_distinct [] names) s.picks in
        record { choice = placing_chosen (place_of once ps) q.placing; first = first s.first q.are }
      where
        first : ((others : List ℕ) → IsPick (map (candidates list speed longest) once) 0 others → NotAfter ps others) → ps ≡ map (place_of once ps) once →
            (others : List ℕ) → Choice list speed longest names others → NotAfter (map (place_of once ps) names) others
        first f m others c =
            rw (chosen_map others c)
            (order (place_of once ps) (its others c) [] names (λ x t. not_both false t refl)
            (rw m at (f (map (its others c) once) (places_pick once 0 (its others c) (new_distinct [] names) (chosen_placing others c)))))

    pub none_chosen : pick (map (candidates list speed longest) once) 0 ≡ None → (places : List ℕ) → Choice list speed longest names places → ⊥
    none_chosen e places c =
        none_picks (map (candidates list speed longest) once) 0 (all_rise list speed longest once) e _
        (places_pick once 0 (its places c) (new_distinct [] names) (chosen_placing places c))
