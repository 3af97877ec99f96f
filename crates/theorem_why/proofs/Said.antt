-- What a reason says beside its answer.
use Prim.Native.Nat.{ℕ, suc, ◌+◌, ◌-◌, ◌≤◌, ◌<◌}
use mathlib.Core.Path.{◌≡◌, refl, sym, ap, ◌∙◌}
use mathlib.Core.Logic.{◌⊎◌, inl, inr}
use mathlib.Core.Bool.{Bool, true, false, cond, ◌||◌}
use mathlib.Core.List.{List, [], ◌∷◌}
use native.Mathlib.Omega.{arith}
use borrow.Author.Tests.{eqb-true, eqb-false}
use lib.Dec.{eqb}
use lib.ListN.{length, get_or, take}
use lib.Seq.{get_or-take}
use Rattle.std.proofs.Common.{Ok, Err}
use Rattle.laws.proofs.Tests.{not_both}
use Rattle.laws.proofs.Cases.{Decided, decided}
use Rattle.answer.specs.declared.Answer.{Answer}
use Rattle.answer.specs.declared.Answer.TheVariants as answer
use Rattle.answer.specs.Answer.{number}
use Rattle.answer.specs.Check.{Check, Pass, Refuse}
use Rattle.command.specs.Course.{words}
use Rattle.record_endpoint.specs.declared.endpoint_map.EndpointMap.{EndpointMap}
use Rattle.record_settings.specs.Match.{address_free}
use Rattle.device.specs.declared.record.Device.{Device}
use Rattle.device.specs.Sound.{sound}
use Rattle.device.specs.Left.{Left, refused, ended}
use Rattle.theorem_slot.specs.Answers.{CodeOfOutcome}
use Rattle.theorem_slot.proofs.Words.{taken_words}
use Rattle.reason.specs.declared.Reason.{Reason}
use Rattle.reason.specs.declared.Reason.TheVariants as reason
use Rattle.reason.specs.Reason.{first_owned, owned_reason, first_failed, claim_reason}
use Rattle.theorem_why.specs.Why.{Condition}
use Rattle.theorem_why.specs.Promises.{told_of, has_reason, Failing, Said, SaidPromise}
use Rattle.theorem_why.proofs.Promises.{checked, course, Judged, refused_here, passed_here, counted, few_logged, claim_is, commit_is, reason_is}

-- The walk over some logged words, the n-th and on: it stops at the first whose outcome is not 0, or there is none.
record Stops (o : List ℕ) (n : ℕ) (ws : List ℕ) (x : Reason) : Type 0 where
  pub place : ℕ
  pub low : n ≤ place
  pub high : place < n + length ws
  pub is : x ≡ reason.Command place (get_or ws (place - n) 0)
  pub failure : get_or o place 0 ≡ 0 → ⊥
  pub before : (j : ℕ) → n ≤ j → j < place → get_or o j 0 ≡ 0

record Passes (o : List ℕ) (n : ℕ) (ws : List ℕ) (x : Reason) (k : ℕ) : Type 0 where
  pub is : x ≡ reason.Number k
  pub zeros : (j : ℕ) → n ≤ j → j < n + length ws → get_or o j 0 ≡ 0

abbrev Walks : List ℕ → ℕ → List ℕ → ℕ → Type 0
Walks o n ws k = Stops o n ws (first_failed o n ws k) ⊎ Passes o n ws (first_failed o n ws k) k

zero_at : (o : List ℕ) (n j : ℕ) → get_or o n 0 ≡ 0 → (n + 1 ≤ j → get_or o j 0 ≡ 0) → n ≤ j → get_or o j 0 ≡ 0
zero_at o n j z f h = go (decided (eqb j n))
  where
    go : Decided (eqb j n) → get_or o j 0 ≡ 0
    go (inl e) = rw (eqb-true j n e) z
    go (inr e) = let k = eqb-false j n e in f (omega arith)

stops_here : (o : List ℕ) (n w : ℕ) (ws : List ℕ) (k : ℕ) → eqb (get_or o n 0) 0 ≡ false → Stops o n (w ∷ ws) (first_failed o n (w ∷ ws) k)
unfolding first_failed
stops_here o n w ws k z =
    let e : n - n ≡ 0 = omega arith in
    record {
      place = n;
      low = omega arith;
      high = omega arith;
      is = rw (z, e);
      failure = eqb-false (get_or o n 0) 0 z;
      before = λ j l h. absurd (omega arith);
    }

stops_later : (o : List ℕ) (n w : ℕ) (ws : List ℕ) (k : ℕ) → eqb (get_or o n 0) 0 ≡ true →
    Stops o (n + 1) ws (first_failed o (n + 1) ws k) → Stops o n (w ∷ ws) (first_failed o n (w ∷ ws) k)
unfolding first_failed
stops_later o n w ws k z s =
    let a = s.low in
    let b = s.high in
    let e : s.place - n ≡ suc (s.place - (n + 1)) = omega arith in
    record {
      place = s.place;
      low = omega arith;
      high = omega arith;
      is = rw (z, e) s.is;
      failure = s.failure;
      before = λ j l h. zero_at o n j (eqb-true (get_or o n 0) 0 z) (λ g. s.before j g h) l;
    }

passes_on : (o : List ℕ) (n w : ℕ) (ws : List ℕ) (k : ℕ) → eqb (get_or o n 0) 0 ≡ true →
    Passes o (n + 1) ws (first_failed o (n + 1) ws k) k → Passes o n (w ∷ ws) (first_failed o n (w ∷ ws) k) k
unfolding first_failed
passes_on o n w ws k z p =
    record {
      is = rw z p.is;
      zeros = λ j l h. zero_at o n j (eqb-true (get_or o n 0) 0 z) (λ g. p.zeros j g (omega arith)) l;
    }

passes_none : (o : List ℕ) (n k : ℕ) → Passes o n [] (first_failed o n [] k) k
unfolding first_failed
passes_none o n k = record { is = refl; zeros = λ j l h. absurd (omega arith) }

walk : (o : List ℕ) (n : ℕ) (ws : List ℕ) (k : ℕ) → Walks o n ws k
walk o n [] k = inr (passes_none o n k)
walk o n (w ∷ ws) k = go (decided (eqb (get_or o n 0) 0)) (walk o (n + 1) ws k)
  where
    go : Decided (eqb (get_or o n 0) 0) → Walks o (n + 1) ws k → Walks o n (w ∷ ws) k
    go (inr z) t = inl (stops_here o n w ws k z)
    go (inl z) (inl s) = inl (stops_later o n w ws k z s)
    go (inl z) (inr p) = inr (passes_on o n w ws k z p)

-- Only the number 0 has no reason.
unfoldable is_nothing : Reason → Bool
is_nothing reason.Nothing = true
is_nothing (reason.Alternate i a) = false
is_nothing (reason.Endpoint w o) = false
is_nothing reason.Rings = false
is_nothing (reason.Command k w) = false
is_nothing (reason.Number n) = false

either : (b : Bool) (x y : Reason) → is_nothing x ≡ false → is_nothing y ≡ false → is_nothing (cond b x y) ≡ false
either true x y p q = p
either false x y p q = q

owned_some : (ws : List ℕ) (i : ℕ) (c : EndpointMap) → is_nothing (first_owned ws i c) ≡ false
unfolding first_owned is_nothing
owned_some [] i c = refl
owned_some (w ∷ ws) i c = either (address_free w i c) (first_owned ws i c) _ (owned_some ws i c) refl

failed_some : (o : List ℕ) (k : ℕ) (ws : List ℕ) (n : ℕ) → is_nothing (first_failed o k ws n) ≡ false
unfolding first_failed is_nothing
failed_some o k [] n = refl
failed_some o k (w ∷ ws) n = either (eqb (get_or o k 0) 0) (first_failed o (k + 1) ws n) _ (failed_some o (k + 1) ws n) refl

or_false : (a b : Bool) → (a || b) ≡ false → (a ≡ false) × (b ≡ false)
or_false true b e = not_both true refl e
or_false false b e = (refl, e)

module _ (d : Device) (i a n : ℕ) (ws o : List ℕ) where
  some_reason : eqb n 0 ≡ false → is_nothing (claim_reason d i a n ws o) ≡ false
  unfolding claim_reason owned_reason is_nothing
  some_reason z =
      rw z
      (either (eqb n 8) _ _ refl
      (either (eqb n 9) _ _ (either (sound d) _ _ (owned_some _ i _) refl)
      (either (eqb n 13 || eqb n 14) _ _ (failed_some o 0 ws n)
      (either (eqb n 21) _ _ refl refl))))

  nothing_zero : claim_reason d i a n ws o ≡ reason.Nothing → n ≡ 0
  unfolding is_nothing
  nothing_zero e = go (decided (eqb n 0))
    where
      go : Decided (eqb n 0) → n ≡ 0
      go (inl z) = eqb-true n 0 z
      go (inr z) = not_both (is_nothing (claim_reason d i a n ws o)) (ap is_nothing e) (some_reason z)

  zero_nothing : n ≡ 0 → claim_reason d i a n ws o ≡ reason.Nothing
  unfolding claim_reason
  zero_nothing e = rw e

  numbered : has_reason n ≡ false → claim_reason d i a n ws o ≡ reason.Number n
  unfolding claim_reason has_reason
  numbered e =
      let z = or_false (eqb n 0) _ e in
      let t = or_false (eqb n 8) _ z.1 in
      let u = or_false (eqb n 9) _ t.1 in
      let v = or_false (eqb n 13) _ u.1 in
      let w = or_false (eqb n 14) (eqb n 21) v.1 in
      rw (z.0, t.0, u.0, v.0, w.0, w.1)

-- The reasons of 8, 13, 14 and 21.
module _ (d : Device) (i a : ℕ) (ws o : List ℕ) (x : Answer) where
  thirteen : (code : ℕ) → x ≡ answer.Failed code → claim_reason d i a (number x) ws o ≡ first_failed o 0 ws 13
  unfolding claim_reason number
  thirteen code e = rw e refl

  fourteen : x ≡ answer.InterfaceBroken → claim_reason d i a (number x) ws o ≡ first_failed o 0 ws 14
  unfolding claim_reason number
  fourteen e = rw e refl

  eight : x ≡ answer.NotFound → claim_reason d i a (number x) ws o ≡ reason.Alternate i a
  unfolding claim_reason number
  eight e = rw e refl

  twenty_one : x ≡ answer.TooFewRings → claim_reason d i a (number x) ws o ≡ reason.Rings
  unfolding claim_reason number
  twenty_one e = rw e refl

module _ (d : Device) (ctx routes log o : List ℕ) (i a : ℕ) (next : List Condition) (l : Left) (j : Judged d ctx routes log o i a next l)
    (w : Reason) (q : told_of l o i a ≡ w) where
  abbrev logged : List ℕ
  logged = take l.count l.log

  -- All that was logged lies in the log.
  none_logged : (x : Answer) → checked d ctx routes log o i a next ≡ Refuse x → length logged ≡ l.count
  unfolding refused
  none_logged x e = rw (refused_here d ctx routes log o i a next l j x e) refl

  words_logged : checked d ctx routes log o i a next ≡ Pass → logged ≡ words o 0 (course d ctx routes log o i a next)
  unfolding ended
  words_logged e =
      rw (passed_here d ctx routes log o i a next l j e)
      (taken_words o (course d ctx routes log o i a next) log (few_logged d ctx routes log o i a next l j e))

  all_logged : length logged ≡ l.count
  all_logged = go (checked d ctx routes log o i a next) refl
    where
      go : (x : Check) → checked d ctx routes log o i a next ≡ x → length logged ≡ l.count
      go (Err x) e = none_logged x e
      go (Ok _) e = ap length (words_logged e) ∙ sym (counted d ctx routes log o i a next l j e)

  failing : (x : Reason) → Stops o 0 logged x → Failing o l x
  failing x s =
      let h : s.place < l.count = omega (arith, s.high, all_logged) in
      let z : s.place - 0 ≡ s.place = omega arith in
      let e : get_or logged (s.place - 0) 0 ≡ get_or l.log s.place 0 = rw z (get_or-take l.count l.log s.place 0 h) in
      record {
        place = s.place;
        named = s.is ∙ ap (λ (k : ℕ). reason.Command s.place k) e;
        logged = h;
        failure = s.failure;
        first = λ k g. s.before k (omega arith) g;
      }

  silent : (x : Reason) (n : ℕ) → Passes o 0 logged x n → (k : ℕ) → k < l.count → get_or o k 0 ≡ 0
  silent x n p k h = p.zeros k (omega arith) (omega (arith, all_logged))

  at_thirteen : (code : ℕ) → l.answer ≡ answer.Failed code → CodeOfOutcome o l.count code → Failing o l w
  at_thirteen code e t = go (walk o 0 logged 13)
    where
      r : first_failed o 0 logged 13 ≡ w
      r = sym (thirteen l.device i a logged o l.answer code e) ∙ q

      go : Walks o 0 logged 13 → Failing o l w
      go (inl s) = rw (← r) (failing _ s)
      go (inr p) = absurd (t.failure (sym t.same ∙ silent _ 13 p t.place t.logged))

  at_fourteen : l.answer ≡ answer.InterfaceBroken → Failing o l w ⊎ ((w ≡ reason.Number 14) × ((k : ℕ) → k < l.count → get_or o k 0 ≡ 0))
  at_fourteen e = go (walk o 0 logged 14)
    where
      r : first_failed o 0 logged 14 ≡ w
      r = sym (fourteen l.device i a logged o l.answer e) ∙ q

      go : Walks o 0 logged 14 → Failing o l w ⊎ ((w ≡ reason.Number 14) × ((k : ℕ) → k < l.count → get_or o k 0 ≡ 0))
      go (inl s) = inl (rw (← r) (failing _ s))
      go (inr p) = inr (sym r ∙ p.is, silent _ 14 p)

  said_of : Said i a o l w
  said_of =
      record {
        nothing = (λ e. nothing_zero l.device i a (number l.answer) logged o (q ∙ e), λ e. sym q ∙ zero_nothing l.device i a (number l.answer) logged o e);
        missing = λ e. sym q ∙ eight l.device i a logged o l.answer e;
        rings = λ e. sym q ∙ twenty_one l.device i a logged o l.answer e;
        failed = λ code e. at_thirteen code e (j.accounted.failed code e);
        broken = at_fourteen;
        others = λ e. sym q ∙ numbered l.device i a (number l.answer) logged o e;
      }

pub said : SaidPromise
said d ctx routes log o =
    let t = reason_is d ctx routes log o in
    record {
      claim = λ i a. said_of d ctx routes log o i a [] _ (claim_is d ctx routes log o i a) _ (t.claim i a);
      commit = λ p. said_of d ctx routes log o p.interface p.alternate _ _ (commit_is d ctx routes log o p) _ (t.commit p);
    }
