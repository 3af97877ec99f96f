-- The search keeps its promises.
use Rattle.std.specs.Prelude.{ℕ, ◌≡◌, ◌⊎◌, cond, Option, Some, None, List, [], ◌∷◌, eqb}
use mathlib.Core.Path.{refl, sym}
use mathlib.Core.Logic.{inl, inr}
use native.Mathlib.Omega.{arith}
use borrow.Author.Tests.{eqb-true, eqb-false}
use Rattle.std.specs.Int.Bits.{bit_and, bit_or}
use Rattle.laws.proofs.Cases.{Decided, decided}
use Rattle.choice_search.specs.declared.by_name.Candidate.{Candidate}
use Rattle.choice_search.specs.Search.{with_place, or_else, pick_one, pick}
use Rattle.choice_search.specs.Order.{NotAfter, alike, lower, same}
use Rattle.choice_search.specs.Promises.{Among, IsPick, Rises, AllRise, Earliest, PicksEarliest, NonePicks}

-- What holds of a pick, or of its absence.
record Holds (names : List (List Candidate)) (taken : ℕ) (o : Option (List ℕ)) : Type 0 where
  some : (places : List ℕ) → o ≡ Some places → Earliest names taken places
  no : o ≡ None → (places : List ℕ) → IsPick names taken places → ⊥

differ : {P : Type 0} {places : List ℕ} → Some places ≡ None → P
differ e = let z : ◌≡◌ {A = ℕ} 0 1 = cc in absurd (omega arith)

same_places : (ps qs : List ℕ) → Some ps ≡ Some qs → ps ≡ qs
same_places ps qs e = cc

module _ (names : List (List Candidate)) (taken : ℕ) (rest : (t : ℕ) → Holds names t (pick names t)) where
  abbrev others : ℕ → Option (List ℕ)
  others t = pick names t

  -- A pick of the first name is of its first candidate or of another.
  Of : (c : Candidate) → List ℕ → Type 0
  Of c [] = ⊥
  Of c (p ∷ places) = (c.place ≡ p) × (bit_and c.addresses taken ≡ 0) × IsPick names (bit_or taken c.addresses) places

  split : (c : Candidate) (cs : List Candidate) (ps : List ℕ) → IsPick ((c ∷ cs) ∷ names) taken ps → Of c ps ⊎ IsPick (cs ∷ names) taken ps
  unfolding IsPick Among Of
  split c cs [] p = inr p
  split c cs (q ∷ ps) (x, (a, e, h, p)) = go a
    where
      go : (x ≡ c) ⊎ Among x cs → Of c (q ∷ ps) ⊎ IsPick (cs ∷ names) taken (q ∷ ps)
      go (inl i) = inl (rw (← i) (e, h, p))
      go (inr i) = inr (x, (i, e, h, p))

  more : (c : Candidate) (cs : List Candidate) (ps : List ℕ) → IsPick (cs ∷ names) taken ps → IsPick ((c ∷ cs) ∷ names) taken ps
  unfolding IsPick Among
  more c cs [] p = p
  more c cs (q ∷ ps) (x, (a, e, h, p)) = (x, (inr a, e, h, p))

  -- Its first candidate leads to nothing.
  passed : (c : Candidate) (cs : List Candidate) (o : Option (List ℕ)) → ((ps : List ℕ) → Of c ps → ⊥) → Holds (cs ∷ names) taken o →
      Holds ((c ∷ cs) ∷ names) taken o
  passed c cs o n h =
      record {
        some = λ places e.
            let s = h.some places e in
            record { picks = more c cs places s.picks; first = λ qs p. go places qs s (split c cs qs p) };
        no = λ e qs p. none qs e (split c cs qs p);
      }
    where
      go : (places qs : List ℕ) → Earliest (cs ∷ names) taken places → Of c qs ⊎ IsPick (cs ∷ names) taken qs → NotAfter places qs
      go places qs s (inl x) = absurd (n qs x)
      go places qs s (inr x) = s.first qs x

      none : (qs : List ℕ) → o ≡ None → Of c qs ⊎ IsPick (cs ∷ names) taken qs → ⊥
      none qs e (inl x) = n qs x
      none qs e (inr x) = h.no e qs x

  -- Its first candidate leads to a pick.
  found : (c : Candidate) (cs : List Candidate) (places : List ℕ) → Rises (c ∷ cs) → bit_and c.addresses taken ≡ 0 →
      others (bit_or taken c.addresses) ≡ Some places → Holds ((c ∷ cs) ∷ names) taken (Some (c.place ∷ places))
  unfolding IsPick Among Rises Of
  found c cs places r h e =
      record { some = λ ps i. rw (← same_places _ _ i) (record { picks = (c, (inl refl, refl, h, s.picks)); first = first }); no = λ i. differ i }
    where
      s : Earliest names (bit_or taken c.addresses) places
      s = (rest (bit_or taken c.addresses)).some places e

      first : (qs : List ℕ) → IsPick ((c ∷ cs) ∷ names) taken qs → NotAfter (c.place ∷ places) qs
      first [] p = absurd p
      first (q ∷ qs) (x, (a, i, g, p)) = go a
        where
          go : (x ≡ c) ⊎ Among x cs → NotAfter (c.place ∷ places) (q ∷ qs)
          go (inl j) = rw (← i, j) (same (s.first qs (rw j at p)))
          go (inr j) = let l = r.0 x j in lower (rw (← i) l)

  one : (cs : List Candidate) → Rises cs → Holds (cs ∷ names) taken (pick_one cs taken others)
  unfolding IsPick Among Rises pick_one or_else with_place Of
  one [] r = record { some = λ ps e. differ (sym e); no = λ e. none }
    where
      none : (ps : List ℕ) → IsPick ([] ∷ names) taken ps → ⊥
      none [] p = p
      none (q ∷ ps) (x, i) = i.0
  one (c ∷ cs) r = go (decided (eqb (bit_and c.addresses taken) 0)) (others (bit_or taken c.addresses)) refl (one cs r.1)
    where
      go : Decided (eqb (bit_and c.addresses taken) 0) → (o : Option (List ℕ)) → others (bit_or taken c.addresses) ≡ o →
          Holds (cs ∷ names) taken (pick_one cs taken others) →
          Holds ((c ∷ cs) ∷ names) taken
          (cond (eqb (bit_and c.addresses taken) 0)
          (or_else (with_place c.place (others (bit_or taken c.addresses))) (pick_one cs taken others)) (pick_one cs taken others))
      go (inl e) (Some places) n i = rw (e, n) (found c cs places r (eqb-true _ 0 e) n)
      go (inl e) None n i = rw (e, n) (passed c cs _ none i)
        where
          none : (ps : List ℕ) → Of c ps → ⊥
          none [] p = p
          none (q ∷ ps) p = (rest _).no n ps p.2
      go (inr e) o n i = rw e (passed c cs _ none i)
        where
          none : (ps : List ℕ) → Of c ps → ⊥
          none [] p = p
          none (q ∷ ps) p = eqb-false _ 0 e p.1

holds : (names : List (List Candidate)) (taken : ℕ) → AllRise names → Holds names taken (pick names taken)
unfolding pick IsPick AllRise
holds [] taken r = record { some = λ ps e. rw (← same_places [] ps e) (record { picks = tt; first = only }); no = λ e. differ e }
  where
    only : (qs : List ℕ) → IsPick [] taken qs → NotAfter [] qs
    only [] p = alike
    only (q ∷ qs) p = absurd p
holds (cs ∷ names) taken r = one names taken (λ t. holds names t r.1) cs r.0

pub picks_earliest : PicksEarliest
picks_earliest names taken places r e = (holds names taken r).some places e

pub none_picks : NonePicks
none_picks names taken r e = (holds names taken r).no e
