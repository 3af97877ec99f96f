-- What the candidates of an interface are: its places that may be chosen, each with its addresses, rising.
use Rattle.std.specs.Prelude.{ℕ, zero, suc, ◌+◌, ◌<◌, ◌≤◌, ◌≡◌, Bool, true, false, cond, List, [], ◌∷◌, ltb, map}
use mathlib.Core.Path.{refl, ap}
use mathlib.Core.Logic.{inl, inr}
use native.Mathlib.Omega.{arith}
use native.Mathlib.Decide.{ℕ_discrete}
use borrow.Author.Tests.{lt-ltb, ltb-true}
use Rattle.laws.proofs.Tests.{and_left, and_right, not_both}
use Rattle.context_block.specs.Flags.{flags_of}
use Rattle.choice_search.specs.declared.by_name.Candidate.{Candidate}
use Rattle.choice_search.specs.Promises.{Among, Rises, AllRise}
use Rattle.choice_list.specs.Candidate.{first_length, words_at, is_candidate}
use Rattle.choice_list.specs.Tried.{may_choose, candidates_from, candidates}
use Rattle.choice_list.proofs.Listed.{at_place}

module _ (list : List ℕ) (speed longest interface : ℕ) where
  abbrev at : ℕ → Candidate
  at p = at_place list speed longest interface p

  -- One of the candidates among n places from one on.
  record Member (n place : ℕ) (c : Candidate) : Type 0 where
    low : place ≤ c.place
    high : c.place < place + n
    may : may_choose list speed longest interface c.place ≡ true
    is : c ≡ at c.place

  later : (n place : ℕ) (c : Candidate) → Member n (place + 1) c → Member (suc n) place c
  later n place c m = record { low = let l = m.low in omega arith; high = let h = m.high in omega arith; may = m.may; is = m.is }

  member : (n place : ℕ) (c : Candidate) → Among c (candidates_from list speed longest interface n place) → Member n place c
  unfolding candidates_from Among
  member zero place c a = absurd a
  member (suc n) place c a =
      go (may_choose list speed longest interface place) refl a (member n (place + 1) c)
    where
      go : (b : Bool) → may_choose list speed longest interface place ≡ b →
          Among c (cond b (at place ∷ candidates_from list speed longest interface n (place + 1)) (candidates_from list speed longest interface n (place + 1))) →
          (Among c (candidates_from list speed longest interface n (place + 1)) → Member n (place + 1) c) → Member (suc n) place c
      go true e (inl q) i = rw q (record { low = omega arith; high = omega arith; may = e; is = refl })
      go true e (inr q) i = later n place c (i q)
      go false e q i = later n place c (i q)

  its_member : (n place p : ℕ) → place ≤ p → p < place + n → may_choose list speed longest interface p ≡ true →
      Among (at p) (candidates_from list speed longest interface n place)
  unfolding candidates_from Among
  its_member zero place p l h e = absurd (omega arith)
  its_member (suc n) place p l h e = go (may_choose list speed longest interface place) refl (ℕ_discrete p place) (its_member n (place + 1) p)
    where
      go : (b : Bool) → may_choose list speed longest interface place ≡ b → Dec (p ≡ place) →
          (place + 1 ≤ p → p < place + 1 + n → may_choose list speed longest interface p ≡ true → Among (at p) (candidates_from list speed longest interface n (place + 1))) →
          Among (at p) (cond b (at place ∷ candidates_from list speed longest interface n (place + 1)) (candidates_from list speed longest interface n (place + 1)))
      go true q (yes d) i = inl (ap at d)
      go false q (yes d) i = not_both (may_choose list speed longest interface place) (rw d at e) q
      go true q (no d) i = inr (i (omega (arith, d)) (omega arith) e)
      go false q (no d) i = i (omega (arith, d)) (omega arith) e

  rises_from : (n place : ℕ) → Rises (candidates_from list speed longest interface n place)
  unfolding candidates_from Rises
  rises_from zero place = tt
  rises_from (suc n) place = go (may_choose list speed longest interface place) (rises_from n (place + 1))
    where
      go : (b : Bool) → Rises (candidates_from list speed longest interface n (place + 1)) →
          Rises (cond b (at place ∷ candidates_from list speed longest interface n (place + 1)) (candidates_from list speed longest interface n (place + 1)))
      go true r = ((λ x a. let l = (member n (place + 1) x a).low in omega arith), r)
      go false r = r

  pub record Chosen (c : Candidate) : Type 0 where
    pub candidate : is_candidate list speed longest interface c.place ≡ true
    pub addresses : c.addresses ≡ flags_of (words_at list interface c.place)

  pub candidate_is : (c : Candidate) → Among c (candidates list speed longest interface) → Chosen c
  unfolding candidates is_candidate may_choose
  candidate_is c a =
      let m = member (first_length list) 0 c a in
      let h = m.high in
      record { candidate = rw (lt-ltb c.place (first_length list) (omega arith)) m.may; addresses = ap (λ x. x.addresses) m.is }

  pub is_among : (p : ℕ) → is_candidate list speed longest interface p ≡ true → Among (at p) (candidates list speed longest interface)
  unfolding candidates is_candidate may_choose
  is_among p e =
      let l = ltb-true p (first_length list) (and_left (ltb p (first_length list)) _ e) in
      its_member (first_length list) 0 p (omega arith) (omega arith) (and_right (ltb p (first_length list)) _ e)

  candidates_rise : Rises (candidates list speed longest interface)
  unfolding candidates
  candidates_rise = rises_from (first_length list) 0

pub all_rise : (list : List ℕ) (speed longest : ℕ) (names : List ℕ) → AllRise (map (candidates list speed longest) names)
unfolding AllRise
all_rise list speed longest [] = tt
all_rise list speed longest (x ∷ names) = (candidates_rise list speed longest x, all_rise list speed longest names)
