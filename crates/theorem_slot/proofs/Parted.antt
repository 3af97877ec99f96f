-- Groups that agree with a record's rings part the given ones.
use Prim.Native.Nat.{ℕ, ◌+◌}
use mathlib.Core.Path.{◌≡◌, refl, sym, ◌∙◌, ap}
use mathlib.Core.Bool.{Bool, true, false, not, cond, ◌&&◌, ◌||◌}
use mathlib.Core.List.{List, [], ◌∷◌}
use mathlib.Core.Logic.{◌⊎◌, inl, inr}
use native.Mathlib.Omega.{arith}
use borrow.Author.Tests.{eqb-true, leb-true}
use lib.Dec.{eqb, leb}
use lib.ListN.{length}
use Rattle.laws.specs.Distinct.{elem, distinct}
use Rattle.laws.proofs.Tests.{and_left, and_right, and-true, not_both}
use Rattle.laws.proofs.Cases.{Decided, decided}
use Rattle.laws.proofs.Distinct.{elem_here, elem_there, elem_none, elem_cases, elem_place}
use Rattle.record_ring.specs.Rings.{rings_ok, not_among}
use Rattle.record_ring.specs.Store.{given_ok, sorted, lowest, least}
use Rattle.record_ring.proofs.Sorted.{elem_sorted, elem_take}
use Rattle.record_ring.proofs.Promises.{given_promise, least_promise}
use Rattle.theorem_slot.specs.Groups.{Groups, chosen, drawn_from, given_groups, freed_groups, only_one, Parted}
use Rattle.theorem_slot.proofs.Bools.{implies, implies_if, law}
use Rattle.theorem_slot.proofs.Agree.{Agree}

-- Where each ring is in one of three groups, these are together as many as the rings.
sum_of :
    (f l q : ℕ → Bool) (rings : List ℕ) → ((x : ℕ) → elem x rings ≡ true → only_one (f x) (l x) (q x) ≡ true) →
    length (chosen f rings) + (length (chosen l rings) + length (chosen q rings)) ≡ length rings
unfolding chosen only_one
sum_of f l q [] h = refl
sum_of f l q (r ∷ rings) h =
    go (chosen f rings) (chosen l rings) (chosen q rings) (f r) (l r) (q r) (h r (elem_here r rings)) (sum_of f l q rings (λ x e. h x (elem_there x r rings e)))
  where
    go :
        (a b c : List ℕ) (x y z : Bool) → only_one x y z ≡ true → length a + (length b + length c) ≡ length rings →
        length (cond x (r ∷ a) a) + (length (cond y (r ∷ b) b) + length (cond z (r ∷ c) c)) ≡ length (r ∷ rings)
    go a b c true true true o e = not_both false o refl
    go a b c true true false o e = not_both false o refl
    go a b c true false true o e = not_both false o refl
    go a b c true false false o e = omega arith
    go a b c false true true o e = not_both false o refl
    go a b c false true false o e = omega arith
    go a b c false false true o e = omega arith
    go a b c false false false o e = not_both false o refl

-- By one and none alone.
parted_if :
    (g : Groups) → distinct g.given ≡ true →
    ((x : ℕ) → elem x g.given ≡ true → only_one (g.free x) (g.live x) (g.quarantined x) ≡ true) →
    ((x : ℕ) → elem x g.given ≡ false → (g.free x || (g.live x || g.quarantined x)) ≡ false) → Parted g
parted_if g d one none =
    record { apart = d; one = one; none = none; together = sum_of g.free g.live g.quarantined g.given one }

pub parted_agree :
    (rings : List ℕ) (u q : ℕ → Bool) (g : Groups) → Agree rings u q g → distinct rings ≡ true →
    ((x : ℕ) → u x ≡ true → elem x rings ≡ true) → ((x : ℕ) → q x ≡ true → elem x rings ≡ true) → Parted g
unfolding only_one
parted_agree rings u q g a d used doubted =
    parted_if g (rw a.given d)
    (λ x e.
    rw (a.live x, a.free x, a.quarantined x)
    (law (λ m u q k o. m) (λ m u q k o. only_one (m && (not u && not q)) (u && not q) q) (λ m u q k o. true) refl (elem x rings) (u x) (q x) false false
    (rw (← a.given) e)))
    (λ x e.
    let n : elem x rings ≡ false = rw (← a.given) e in
    rw (a.live x, a.free x, a.quarantined x)
    (law (λ m u q k o. not m && (implies u m && implies q m)) (λ m u q k o. (m && (not u && not q)) || ((u && not q) || q)) (λ m u q k o. false) refl
    (elem x rings) (u x) (q x) false false
    (and-true _ _ (ap not n) (and-true _ _ (implies_if (u x) (elem x rings) (used x)) (implies_if (q x) (elem x rings) (doubted x))))))

-- Every live ring becomes free.
pub parted_freed : (g : Groups) → Parted g → Parted (freed_groups g)
unfolding freed_groups only_one
parted_freed g p =
    parted_if (freed_groups g) p.apart
    (λ x e.
    law (λ f l q k o. only_one f l q) (λ f l q k o. only_one (f || l) false q) (λ f l q k o. true) refl (g.free x) (g.live x) (g.quarantined x) false false
    (p.one x e))
    (λ x e.
    law (λ f l q k o. not (f || (l || q))) (λ f l q k o. (f || l) || (false || q)) (λ f l q k o. false) refl (g.free x) (g.live x) (g.quarantined x) false false
    (ap not (p.none x e)))

-- Rings that may be given, and the lowest of them.
pub given_distinct : (rings : List ℕ) → given_ok rings ≡ true → distinct rings ≡ true
unfolding given_ok
given_distinct rings e = and_right (rings_ok rings) (distinct rings) (and_right (leb 1 (length rings) && leb (length rings) 64) (rings_ok rings && distinct rings) e)

pub given_least : (rings : List ℕ) → given_ok rings ≡ true → elem (least rings) rings ≡ true
unfolding given_ok
given_least rings e =
    (least_promise rings).of_them
    (leb-true 1 (length rings) (and_left (leb 1 (length rings)) (leb (length rings) 64) (and_left (leb 1 (length rings) && leb (length rings) 64) _ e)))

pub least_nonzero : (rings : List ℕ) → given_ok rings ≡ true → least rings ≡ 0 → ⊥
least_nonzero rings ok z =
    let t = elem_place (least rings) rings (given_least rings ok) in ((given_promise rings).0 ok).nonzero t.0 t.1 (t.2 ∙ z)

pub agree_given :
    (rings : List ℕ) → given_ok rings ≡ true → (u q : ℕ → Bool) → ((x : ℕ) → u x ≡ eqb x (least rings)) → ((x : ℕ) → q x ≡ false) →
    Agree rings u q (given_groups rings)
unfolding given_groups
agree_given rings ok u q used none =
    record {
      given = refl;
      live = λ x. rw (used x, none x) (law (λ a b c d e. true) (λ a b c d e. a) (λ a b c d e. a && true) refl (eqb x (least rings)) false false false false refl);
      free = λ x. rw (used x, none x) (law (λ a b c d e. true) (λ a b c d e. a && not b) (λ a b c d e. a && (not b && true)) refl (elem x rings) (eqb x (least rings)) false false false refl);
      quarantined = λ x. sym (none x);
    }

pub parted_given : (rings : List ℕ) → given_ok rings ≡ true → Parted (given_groups rings)
parted_given rings ok =
    parted_agree rings (λ x. eqb x (least rings)) (λ x. false) (given_groups rings)
    (agree_given rings ok (λ x. eqb x (least rings)) (λ x. false) (λ x. refl) (λ x. refl)) (given_distinct rings ok)
    (λ x e. rw (eqb-true x (least rings) e) (given_least rings ok))
    (λ x e. not_both false e refl)

-- The free rings in the order given.
pub chosen_among :
    (f : ℕ → Bool) (others rings : List ℕ) → ((x : ℕ) → elem x rings ≡ true → f x ≡ not (elem x others)) →
    chosen f rings ≡ not_among others rings
unfolding chosen not_among
chosen_among f others [] h = refl
chosen_among f others (r ∷ rings) h =
    rw (h r (elem_here r rings), chosen_among f others rings (λ x e. h x (elem_there x r rings e))) (go (elem r others))
  where
    go : (b : Bool) → cond (not b) (r ∷ not_among others rings) (not_among others rings) ≡ cond b (not_among others rings) (r ∷ not_among others rings)
    go true = refl
    go false = refl

chosen_from : (f : ℕ → Bool) (rings : List ℕ) (x : ℕ) → elem x (chosen f rings) ≡ true → (f x ≡ true) × (elem x rings ≡ true)
unfolding chosen
chosen_from f [] x e = elem_none x e
chosen_from f (r ∷ rings) x e = go (decided (f r)) (chosen_from f rings x)
  where
    first : f r ≡ true → (x ≡ r) ⊎ (elem x (chosen f rings) ≡ true) → (elem x (chosen f rings) ≡ true → (f x ≡ true) × (elem x rings ≡ true)) →
        (f x ≡ true) × (elem x (r ∷ rings) ≡ true)
    first t (inl s) k = (rw s t, rw s (elem_here r rings))
    first t (inr h) k = ((k h).0, elem_there x r rings (k h).1)

    go :
        Decided (f r) → (elem x (chosen f rings) ≡ true → (f x ≡ true) × (elem x rings ≡ true)) →
        (f x ≡ true) × (elem x (r ∷ rings) ≡ true)
    go (inl t) k = first t (elem_cases x r (chosen f rings) (rw t at e)) k
    go (inr t) k = let s = k (rw t at e) in (s.0, elem_there x r rings s.1)

-- What is drawn is free and given.
pub drawn_free : (g : Groups) (n x : ℕ) → elem x (drawn_from g n) ≡ true → (g.free x ≡ true) × (elem x g.given ≡ true)
unfolding drawn_from lowest
drawn_free g n x e =
    let rings = chosen g.free g.given in
    chosen_from g.free g.given x (sym (elem_sorted x rings) ∙ elem_take n x (sorted rings) e)
