-- The calls of other slots leave a slot alone.
use Prim.Native.Nat.{ℕ}
use mathlib.Core.Path.{◌≡◌, refl, sym, ◌∙◌}
use mathlib.Core.Logic.{inl, inr}
use mathlib.Core.Bool.{cond}
use mathlib.Core.List.{List, [], ◌∷◌}
use lib.Dec.{eqb}
use borrow.Author.Tests.{eqb-true, eqb-false}
use Rattle.laws.proofs.Cases.{Decided, decided}
use Rattle.device.specs.Left.{Left}
use Rattle.theorem_slot.proofs.Outside.{others_between}
use Rattle.theorem_dispatch.specs.Isolation.{SameWords, SameLeft, Run, run_slot, ran, table_after, own_runs, own_lefts, SameLefts, Alone, Isolated}
use Rattle.theorem_dispatch.proofs.Local.{is_local}

words_same : (slot : ℕ) (t : List ℕ) → SameWords slot t t
words_same slot t = record { long = refl; own = λ d h. refl }

words_back : (slot : ℕ) (t u : List ℕ) → SameWords slot t u → SameWords slot u t
words_back slot t u s = record { long = sym (s.long); own = λ d h. sym (s.own d h) }

words_on : (slot : ℕ) (t u v : List ℕ) → SameWords slot t u → SameWords slot u v → SameWords slot t v
words_on slot t u v s r = record { long = r.long ∙ s.long; own = λ d h. r.own d h ∙ s.own d h }

left_back : (slot : ℕ) (l m : Left) → SameLeft slot l m → SameLeft slot m l
left_back slot l m s =
    record {
      device = sym s.device;
      answer = sym s.answer;
      count = sym s.count;
      ctx = sym s.ctx;
      log = sym s.log;
      routes = words_back slot l.routes m.routes s.routes;
    }

left_on : (slot : ℕ) (l m n : Left) → SameLeft slot l m → SameLeft slot m n → SameLeft slot l n
left_on slot l m n s r =
    record {
      device = r.device ∙ s.device;
      answer = r.answer ∙ s.answer;
      count = r.count ∙ s.count;
      ctx = r.ctx ∙ s.ctx;
      log = r.log ∙ s.log;
      routes = words_on slot l.routes m.routes n.routes s.routes r.routes;
    }

lefts_back : (slot : ℕ) (ls ms : List Left) → SameLefts slot ls ms → SameLefts slot ms ls
unfolding SameLefts
lefts_back slot [] [] s = tt
lefts_back slot [] (m ∷ ms) s = absurd s
lefts_back slot (l ∷ ls) [] s = absurd s
lefts_back slot (l ∷ ls) (m ∷ ms) s = (left_back slot l m s.0, lefts_back slot ls ms s.1)

lefts_on : (slot : ℕ) (ls ms ns : List Left) → SameLefts slot ls ms → SameLefts slot ms ns → SameLefts slot ls ns
unfolding SameLefts
lefts_on slot [] [] [] s r = tt
lefts_on slot [] [] (n ∷ ns) s r = absurd r
lefts_on slot [] (m ∷ ms) ns s r = absurd s
lefts_on slot (l ∷ ls) [] ns s r = absurd s
lefts_on slot (l ∷ ls) (m ∷ ms) [] s r = absurd r
lefts_on slot (l ∷ ls) (m ∷ ms) (n ∷ ns) s r = (left_on slot l m n s.0 r.0, lefts_on slot ls ms ns s.1 r.1)

-- A call of the slot, and one of another.
own_run : (slot : ℕ) (r : Run) (t u : List ℕ) → run_slot r ≡ slot → SameWords slot t u → SameLeft slot (ran r t) (ran r u)
unfolding run_slot ran
own_run slot r t u e s = rw e at (is_local (r.call) r.device t u (rw e s))

other_run : (slot : ℕ) (r : Run) (t : List ℕ) → (run_slot r ≡ slot → ⊥) → SameWords slot t ((ran r t).routes)
unfolding run_slot ran
other_run slot r t n = let b = others_between (r.call) r.device t slot n in record { long = b.long; own = b.own }

-- All the calls, and the slot's own.
alone : (slot : ℕ) (t u : List ℕ) (rs : List Run) → SameWords slot t u → Alone slot t u rs (own_runs slot rs)
unfolding table_after own_runs own_lefts SameLefts
alone slot t u [] s = record { words = s; lefts = tt }
alone slot t u (r ∷ rs) s = go (decided (eqb (run_slot r) slot)) (λ h. alone slot ((ran r t).routes) ((ran r u).routes) rs h) (λ h. alone slot ((ran r t).routes) u rs h)
  where
    go : Decided (eqb (run_slot r) slot) →
        (SameWords slot ((ran r t).routes) ((ran r u).routes) → Alone slot ((ran r t).routes) ((ran r u).routes) rs (own_runs slot rs)) →
        (SameWords slot ((ran r t).routes) u → Alone slot ((ran r t).routes) u rs (own_runs slot rs)) →
        Alone slot t u (r ∷ rs) (cond (eqb (run_slot r) slot) (r ∷ own_runs slot rs) (own_runs slot rs))
    go (inl e) own other =
        let h = own_run slot r t u (eqb-true (run_slot r) slot e) s in
        let a = own h.routes in
        rw e (record { words = a.words; lefts = rw e (h, a.lefts) })
    go (inr e) own other =
        let a = other (words_on slot _ t u (words_back slot t _ (other_run slot r t (eqb-false (run_slot r) slot e))) s) in
        rw e (record { words = a.words; lefts = rw e a.lefts })

pub is_isolated : Isolated
is_isolated slot t u rs qs s e =
    let a = alone slot t u rs s in
    let b : Alone slot u u qs (own_runs slot rs) = rw (← e) (alone slot u u qs (words_same slot u)) in
    record {
      words = words_on slot _ (table_after u (own_runs slot rs)) _ a.words (words_back slot _ _ b.words);
      lefts = lefts_on slot _ (own_lefts slot u (own_runs slot rs)) _ a.lefts (lefts_back slot _ _ b.lefts);
    }
