-- Addresses against marks of the places that are taken: one turn of `addresses_fit`.
use Prim.Native.Nat.{ℕ, ◌+◌, ◌≤◌, ◌<◌}
use mathlib.Core.Path.{◌≡◌, refl, sym, ◌∙◌}
use mathlib.Core.Logic.{inl, inr}
use mathlib.Core.Bool.{Bool, true, false, not, ◌&&◌, ◌||◌}
use mathlib.Core.List.{List, [], ◌∷◌}
use native.Mathlib.Decide.{dec_lt}
use native.Mathlib.Omega.{arith}
use borrow.Author.Tests.{lt-ltb, le-ltb, eqb-true, eqb-false}
use lib.Dec.{eqb, ltb}
use lib.ListN.{length, get_or, set, drop, replicate, length-set, get_or-replicate, get_or-eq_default}
use lib.Seq.{get_or-set_same, get_or-set_other}
use Rattle.laws.proofs.Cases.{Decided, decided}
use Rattle.laws.specs.Distinct.{elem}
use Rattle.record_endpoint.specs.Order.{place_of}
use Rattle.record_endpoint.specs.Endpoint.{blank, addresses, addresses_fit}
use Rattle.record_endpoint.specs.declared.entry.Endpoint.{Endpoint}
use Rattle.record_endpoint.proofs.Laws.{place_same}
use Rattle.record_endpoint.proofs.Steps.{addresses_next, addresses_none}

-- Each address has a place that is not taken.
unfoldable pub fit_from : List Bool → List ℕ → Bool
fit_from taken [] = true
fit_from taken (a ∷ l) =
    (ltb (place_of a) 30 && not (get_or taken (place_of a) false)) && fit_from (set taken (place_of a) true) l

unfoldable unmarked : List Bool → List ℕ → Bool
unmarked taken [] = true
unmarked taken (a ∷ l) = not (get_or taken (place_of a) false) && unmarked taken l

-- One place more is taken: its address does not come again.
unmarked_set :
    (taken : List Bool) (a : ℕ) (l : List ℕ) → place_of a < 30 → length taken ≡ 30 →
    unmarked (set taken (place_of a) true) l ≡ (not (elem a l) && unmarked taken l)
unfolding unmarked elem
unmarked_set taken a [] h r = refl
unmarked_set taken a (b ∷ l) h r = rw (unmarked_set taken a l h r) (go (decided (eqb a b)))
  where
    swap : (g e u : Bool) → (not g && (not e && u)) ≡ (not e && (not g && u))
    swap true true u = refl
    swap true false u = refl
    swap false e u = refl

    go :
        Decided (eqb a b) →
        (not (get_or (set taken (place_of a) true) (place_of b) false) && (not (elem a l) && unmarked taken l))
        ≡ (not (eqb a b || elem a l) && (not (get_or taken (place_of b) false) && unmarked taken l))
    go (inl t) =
        let s : b ≡ a = sym (eqb-true a b t) in
        rw (t, s, get_or-set_same taken (place_of a) true false (rw r h))
    go (inr t) =
        let other : place_of b ≡ place_of a → ⊥ = λ s. eqb-false a b t (place_same a b h (sym s)) in
        rw (t, get_or-set_other taken (place_of a) (place_of b) true false other)
        (swap (get_or taken (place_of b) false) (elem a l) (unmarked taken l))

fit_marked :
    (taken : List Bool) (l : List ℕ) → length taken ≡ 30 → fit_from taken l ≡ (addresses_fit l && unmarked taken l)
unfolding fit_from unmarked addresses_fit
fit_marked taken [] r = refl
fit_marked taken (a ∷ l) r =
    go (dec_lt (place_of a) 30) (fit_marked (set taken (place_of a) true) l (length-set taken (place_of a) true ∙ r))
  where
    turn : (g e f u : Bool) → (not g && (f && (not e && u))) ≡ ((not e && f) && (not g && u))
    turn true true f u = refl
    turn true false true u = refl
    turn true false false u = refl
    turn false true true u = refl
    turn false true false u = refl
    turn false false f u = refl

    go :
        Dec (place_of a < 30) →
        fit_from (set taken (place_of a) true) l ≡ (addresses_fit l && unmarked (set taken (place_of a) true) l) →
        ((ltb (place_of a) 30 && not (get_or taken (place_of a) false)) && fit_from (set taken (place_of a) true) l)
        ≡ (((ltb (place_of a) 30 && not (elem a l)) && addresses_fit l) && (not (get_or taken (place_of a) false) && unmarked taken l))
    go (yes h) e =
        rw (lt-ltb (place_of a) 30 h, e, unmarked_set taken a l h r)
        (turn (get_or taken (place_of a) false) (elem a l) (addresses_fit l) (unmarked taken l))
    go (no h) e = rw (le-ltb (place_of a) 30 (omega arith))

none_taken : (p : ℕ) → get_or (replicate 30 false) p false ≡ false
none_taken p = go (dec_lt p 30)
  where
    go : Dec (p < 30) → get_or (replicate 30 false) p false ≡ false
    go (yes h) = get_or-replicate 30 p false false h
    go (no h) = let past : length (replicate 30 false) ≤ p = omega arith in get_or-eq_default (replicate 30 false) false past

unmarked_all : (l : List ℕ) → unmarked (replicate 30 false) l ≡ true
unfolding unmarked
unmarked_all [] = refl
unmarked_all (a ∷ l) = rw (none_taken (place_of a)) (unmarked_all l)

-- With no place taken it is the definition.
pub fit_all : (l : List ℕ) → addresses_fit l ≡ fit_from (replicate 30 false) l
fit_all l = sym (fit_marked (replicate 30 false) l refl ∙ rw (unmarked_all l) (and_one (addresses_fit l)))
  where
    and_one : (a : Bool) → (a && true) ≡ a
    and_one true = refl
    and_one false = refl

module _ (taken : List Bool) (eps : List Endpoint) (i : ℕ) where
  pub fit_next :
      i < length eps →
      fit_from taken (drop i (addresses eps))
      ≡ (ltb (place_of (get_or eps i blank).address) 30 && not (get_or taken (place_of (get_or eps i blank).address) false))
      && fit_from (set taken (place_of (get_or eps i blank).address) true) (drop (i + 1) (addresses eps))
  unfolding fit_from
  fit_next h = rw (addresses_next eps i h)

  pub fit_none : length eps ≤ i → fit_from taken (drop i (addresses eps)) ≡ true
  unfolding fit_from
  fit_none h = rw (addresses_none eps i h)
