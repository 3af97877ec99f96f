-- Outcomes that are there and outcomes that are not, and what a course does where a command is cut.
use Prim.Native.Nat.{ℕ, zero, suc, ◌+◌, ◌-◌, ◌<◌, ◌≤◌}
use mathlib.Core.Path.{◌≡◌, refl, sym, ◌∙◌, ap, subst}
use mathlib.Core.Bool.{Bool, true, false, cond}
use mathlib.Core.List.{List, [], ◌∷◌}
use native.Mathlib.Omega.{arith}
use native.Mathlib.Decide.{dec_lt}
use borrow.Author.Tests.{le-ltb, lt-ltb}
use lib.Dec.{eqb, ltb}
use lib.ListN.{length, take, get_or, length-take}
use lib.Seq.{get_or-take, take-length}
use Rattle.command.specs.declared.Sent.{Sent}
use Rattle.command.specs.declared.Sent.TheVariants.{Done, Failed, Cut}
use Rattle.command.specs.Command.{command_word, outcome_at}
use Rattle.command.specs.Course.{Course, ends, sends, on_sent, then, words, result, context_at, EndsWith, CutsTo, CutEnds, Uncut}

-- done is not cut
pub done_cut : {P : Type 0} → Done ≡ Cut → P
done_cut e = absurd cc

-- failed is not cut
pub failed_cut : {P : Type 0} {code : ℕ} → Failed code ≡ Cut → P
failed_cut e = absurd cc

-- failed is not done
pub failed_done : {P : Type 0} {code : ℕ} → Failed code ≡ Done → P
failed_done e = absurd cc

module _ (o : List ℕ) (k : ℕ) where
  -- past the last outcome a command is cut
  pub outcome_none : length o ≤ k → outcome_at o k ≡ Cut
  unfolding outcome_at
  outcome_none h = rw (le-ltb k (length o) h)

  -- where there is an outcome it is not
  pub outcome_there : k < length o → outcome_at o k ≡ Cut → ⊥
  unfolding outcome_at
  outcome_there h e = given (eqb (get_or o k 0) 0) (rw (lt-ltb k (length o) h) at e)
    where
      given : (b : Bool) → cond b Done (Failed (get_or o k 0)) ≡ Cut → ⊥
      given true p = done_cut p
      given false p = failed_cut p

  -- so a cut is read only past the last outcome
  pub cut_past : outcome_at o k ≡ Cut → length o ≤ k
  cut_past e = go (dec_lt k (length o))
    where
      go : Dec (k < length o) → length o ≤ k
      go (yes h) = absurd (outcome_there h e)
      go (no h) = omega arith

  -- of the first i outcomes alone: the same below i
  pub outcome_take : (i : ℕ) → k < i → outcome_at (take i o) k ≡ outcome_at o k
  unfolding outcome_at
  outcome_take i h = rw (get_or-take i o k 0 h, same (dec_lt k (length o)))
    where
      same : Dec (k < length o) → ltb k (length (take i o)) ≡ ltb k (length o)
      same (yes l) = lt-ltb k (length (take i o)) (simp length-take (omega arith)) ∙ sym (lt-ltb k (length o) l)
      same (no l) = le-ltb k (length (take i o)) (simp length-take (omega arith)) ∙ sym (le-ltb k (length o) (omega arith))

  -- cut from there on
  pub outcome_take_past : (i : ℕ) → i ≤ k → outcome_at (take i o) k ≡ Cut
  unfolding outcome_at
  outcome_take_past i h =
      let e : ltb k (length (take i o)) ≡ false = le-ltb k (length (take i o)) (simp length-take (omega arith)) in
      rw e

-- where there is an outcome for each word, no outcome that was read is a cut
pub cut_none : {A : Type 0} (o : List ℕ) (n : ℕ) (c : Course A) → n + length (words o n c) ≤ length o →
    (k : ℕ) → k < n + length (words o n c) → outcome_at o k ≡ Cut → ⊥
cut_none o n c h k l e = outcome_there o k (omega arith) e

-- a rule that holds of each case of an outcome
pub on_sent_lem : {A : Type 0} (P : A → Type 0) (s : Sent) (done : A) (failed : ℕ → A) (cut : A) →
    (s ≡ Done → P done) → ((code : ℕ) → s ≡ Failed code → P (failed code)) → (s ≡ Cut → P cut) →
    P (on_sent s done failed cut)
unfolding on_sent
on_sent_lem P Done done failed cut d f c = d refl
on_sent_lem P (Failed code) done failed cut d f c = f code refl
on_sent_lem P Cut done failed cut d f c = c refl

-- whichever it is
pub each_outcome : {A : Type 0} (P : A → Type 0) (done : A) (failed : ℕ → A) (cut : A) → P done → ((code : ℕ) → P (failed code)) → P cut →
    (s : Sent) → P (on_sent s done failed cut)
each_outcome P done failed cut d f c s = on_sent_lem P s done failed cut (λ e. d) (λ code e. f code) (λ e. c)

-- a course that has ended and then another
pub ended_then : {A B : Type 0} (P : A → Type 0) (Q : B → Type 0) (c : Course A) (f : A → Course B) →
    EndsWith P c → ((a : A) → P a → EndsWith Q (f a)) → EndsWith Q (then c f)
unfolding EndsWith then
ended_then P Q (ends a) f h g = g a h
ended_then P Q (sends c ctx k) f h g = absurd h

-- cuts of one course after the other: those of the first are passed on
pub cuts_then : {A B : Type 0} (P : List ℕ → A → Type 0) (Q : List ℕ → B → Type 0) (c : Course A) (f : A → Course B) →
    CutsTo P c → ((ctx : List ℕ) (a : A) → P ctx a → EndsWith (Q ctx) (f a)) → ((a : A) → CutsTo Q (f a)) →
    CutsTo Q (then c f)
unfolding CutsTo then
cuts_then P Q (ends a) f h g r = r a
cuts_then P Q (sends c ctx k) f h g r =
    (ended_then (P ctx) (Q ctx) (k Cut) f h.0 (g ctx), λ s. cuts_then P Q (k s) f (h.1 s) g r)

-- one course after the other, where no command is cut
pub uncut_then : {A B : Type 0} (P : A → Type 0) (Q : B → Type 0) (c : Course A) (f : A → Course B) →
    Uncut P c → ((a : A) → P a → Uncut Q (f a)) → Uncut Q (then c f)
unfolding Uncut then
uncut_then P Q (ends a) f h g = g a h
uncut_then P Q (sends c ctx k) f h g = λ s u. uncut_then P Q (k s) f (h s u) g

-- a course that has an outcome for each of its commands is not cut
pub uncut_result : {A : Type 0} (P : A → Type 0) (o : List ℕ) (n : ℕ) (c : Course A) → Uncut P c →
    n + length (words o n c) ≤ length o → P (result o n c)
unfolding Uncut words result
uncut_result P o n (ends a) u h = u
uncut_result P o n (sends c ctx k) u h =
    uncut_result P o (n + 1) (k (outcome_at o n)) (u (outcome_at o n) (outcome_there o n (omega arith))) (omega arith)

-- given only the outcomes before one of its commands, a course logs its words up to there and ends by that command's context
pub cut_short : {A : Type 0} (P : List ℕ → A → Type 0) (o : List ℕ) (n i : ℕ) (c : Course A) → CutsTo P c →
    i < length (words o n c) →
    P (context_at o n i c) (result (take (n + i) o) n c) × (words (take (n + i) o) n c ≡ take (i + 1) (words o n c))
unfolding CutsTo EndsWith words result context_at
cut_short P o n i (ends a) t h = absurd (omega arith)
cut_short {A} P o n zero (sends c ctx k) t h =
    let e : outcome_at (take (n + zero) o) n ≡ Cut = outcome_take_past o n (n + zero) (omega arith) in
    rw e (cut (k Cut) t.0)
  where
    cut : (d : Course A) → EndsWith (P ctx) d →
        P ctx (result (take (n + zero) o) (n + 1) d) ×
        (command_word c ∷ words (take (n + zero) o) (n + 1) d ≡ command_word c ∷ [])
    cut (ends a) p = (p, refl)
    cut (sends _ _ _) p = absurd p
cut_short P o n (suc i) (sends c ctx k) t h =
    let e : outcome_at (take (n + suc i) o) n ≡ outcome_at o n = outcome_take o n (n + suc i) (omega arith) in
    let m : n + 1 + i ≡ n + suc i = omega arith in
    let d = k (outcome_at o n) in
    let s =
    subst (λ (x : ℕ). P (context_at o (n + 1) i d) (result (take x o) (n + 1) d) × (words (take x o) (n + 1) d ≡ take (i + 1) (words o (n + 1) d)))
    m (cut_short P o (n + 1) i d (t.1 (outcome_at o n)) (omega arith)) in
    let l : suc (i + 1) ≡ suc i + 1 = omega arith in
    rw e (s.0, ap (λ ws. command_word c ∷ ws) s.1 ∙ ap (λ (j : ℕ). take j (command_word c ∷ words o (n + 1) d)) l)

-- the context that a course is left with, given only the outcomes before one of its commands, is that command's
pub cut_context : {A : Type 0} (context_of : A → List ℕ) (o : List ℕ) (n i : ℕ) (c : Course A) → CutEnds context_of c →
    i < length (words o n c) → context_of (result (take (n + i) o) n c) ≡ context_at o n i c
cut_context context_of o n i c t h = (cut_short (λ ctx a. context_of a ≡ ctx) o n i c t h).0

-- a course that wants an outcome more than there are ends by the last command's context
pub cut_last : {A : Type 0} (P : List ℕ → A → Type 0) (o : List ℕ) (n : ℕ) (c : Course A) → CutsTo P c →
    n ≤ length o → length o < n + length (words o n c) → P (context_at o n (length o - n) c) (result o n c)
cut_last P o n c t h l =
    let e : n + (length o - n) ≡ length o = omega arith in
    rw (e, take-length) at (cut_short P o n (length o - n) c t (omega arith)).0
