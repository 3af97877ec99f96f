-- What the end of a course says of the outcomes that were read: how many, and which codes.
use Prim.Native.Nat.{ℕ, suc, ◌+◌, ◌≤◌, ◌<◌}
use mathlib.Core.Path.{◌≡◌, refl, ◌∙◌, ap}
use mathlib.Core.Bool.{true, false}
use mathlib.Core.List.{List, [], ◌∷◌, ◌++◌}
use native.Mathlib.Omega.{arith}
use native.Mathlib.Decide.{dec_lt}
use lib.ListN.{length, take}
use Rattle.command.specs.declared.Sent.{Sent}
use Rattle.command.specs.declared.Sent.TheVariants.{Done, Failed, Cut}
use Rattle.command.specs.Command.{command_word, outcome_at}
use Rattle.command.specs.Course.{Course, ends, sends, on_sent, then, words, result, played, EndsWith, CutsTo}
use Rattle.command.specs.Sweep.{Sweep, swept, resume_from, resume_stopped_endpoints, or_code, undo_stops, stop_from, stop_endpoints, stop_each}
use Rattle.command.proofs.Cuts.{outcome_none, outcome_there, outcome_take, ended_then}

-- An outcome that was read: done, or failed with one of these codes.
unfoldable pub Read : (ℕ → Type 0) → Sent → Type 0
Read K Done = Unit {0}
Read K (Failed code) = K code
Read K Cut = ⊥

-- Wherever a command is cut, the course ends with a value of which C holds; where none is, with one of which P holds, if each code
-- that was read is one of K.
unfoldable pub Told : {A : Type 0} → (A → Type 0) → (A → Type 0) → (ℕ → Type 0) → Course A → Type 0
Told P C K (ends a) = P a
Told P C K (sends c ctx k) = EndsWith C (k Cut) × ((s : Sent) → Read K s → Told P C K (k s))

pub on_read :
    {A : Type 0} (P : A → Type 0) (K : ℕ → Type 0) (s : Sent) (done : A) (failed : ℕ → A) (cut : A) → Read K s → P done →
    ((code : ℕ) → K code → P (failed code)) → P (on_sent s done failed cut)
unfolding Read on_sent
on_read P K Done done failed cut r d f = d
on_read P K (Failed code) done failed cut r d f = f code r
on_read P K Cut done failed cut r d f = absurd r

-- One course after the other: cuts of the first are passed on.
pub told_then :
    {A B : Type 0} (P C : A → Type 0) (Q D : B → Type 0) (K : ℕ → Type 0) (c : Course A) (f : A → Course B) → Told P C K c →
    ((a : A) → C a → EndsWith D (f a)) → ((a : A) → P a → Told Q D K (f a)) → Told Q D K (then c f)
unfolding Told then
told_then P C Q D K (ends a) f t g h = h a t
told_then P C Q D K (sends c ctx k) f t g h =
    (ended_then C D (k Cut) f t.0 g, λ s r. told_then P C Q D K (k s) f (t.1 s r) g h)

-- An outcome that is there.
read_of : (K : ℕ → Type 0) (s : Sent) → (s ≡ Cut → ⊥) → ((code : ℕ) → s ≡ Failed code → K code) → Read K s
unfolding Read
read_of K Done n f = tt
read_of K (Failed code) n f = f code refl
read_of K Cut n f = n refl

module _ {A : Type 0} (P C : A → Type 0) (K : ℕ → Type 0) (o : List ℕ) where
  -- With an outcome for each of its commands a course ends by P.
  pub told_whole :
      (n : ℕ) (c : Course A) → Told P C K c →
      ((k : ℕ) → k < n + length (words o n c) → (code : ℕ) → outcome_at o k ≡ Failed code → K code) →
      n + length (words o n c) ≤ length o → P (result o n c)
  unfolding Told words result
  told_whole n (ends a) t r h = t
  told_whole n (sends c ctx k) t r h =
      told_whole (n + 1) (k (outcome_at o n))
      (t.1 (outcome_at o n) (read_of K (outcome_at o n) (outcome_there o n (omega arith)) (r n (omega arith))))
      (λ j l. r j (omega arith)) (omega arith)

  -- With fewer it ends by C, one command past the last outcome.
  pub told_cut :
      (n : ℕ) (c : Course A) → Told P C K c →
      ((k : ℕ) → k < n + length (words o n c) → (code : ℕ) → outcome_at o k ≡ Failed code → K code) →
      n ≤ length o → length o < n + length (words o n c) →
      C (result o n c) × (n + length (words o n c) ≡ length o + 1)
  unfolding Told EndsWith words result
  told_cut n (ends a) t r l h = absurd (omega arith)
  told_cut n (sends c ctx k) t r l h =
      go (dec_lt n (length o))
      (λ there.
      told_cut (n + 1) (k (outcome_at o n))
      (t.1 (outcome_at o n) (read_of K (outcome_at o n) (outcome_there o n there) (r n (omega arith))))
      (λ j m. r j (omega arith)) (omega arith) (omega arith))
    where
      cut : (d : Course A) → EndsWith C d → C (result o (n + 1) d) × (n + suc (length (words o (n + 1) d)) ≡ n + 1)
      cut (ends a) p = (p, omega arith)
      cut (sends _ _ _) p = absurd p

      go :
          Dec (n < length o) →
          (n < length o →
          C (result o (n + 1) (k (outcome_at o n))) × (n + 1 + length (words o (n + 1) (k (outcome_at o n))) ≡ length o + 1)) →
          C (result o (n + 1) (k (outcome_at o n))) × (n + suc (length (words o (n + 1) (k (outcome_at o n)))) ≡ length o + 1)
      go (yes there) next = ((next there).0, omega (arith, (next there).1))
      go (no past) next =
          let z : n ≡ length o = omega arith in
          let s = cut (k Cut) t.0 in
          rw (outcome_none o n (omega arith)) (s.0, s.1 ∙ ap (λ m. m + 1) z)

-- Wherever a command is cut, the course ends by C.
sent_cases : (P : Sent → Type 0) → P Done → ((code : ℕ) → P (Failed code)) → P Cut → (s : Sent) → P s
sent_cases P d f c Done = d
sent_cases P d f c (Failed code) = f code
sent_cases P d f c Cut = c

ended_cuts : {A : Type 0} (C : A → Type 0) (c : Course A) → EndsWith C c → CutsTo (λ ctx. C) c
unfolding EndsWith CutsTo
ended_cuts C (ends a) e = tt
ended_cuts C (sends c ctx k) e = absurd e

pub told_cuts : {A : Type 0} (P C : A → Type 0) (c : Course A) → Told P C (λ code. Unit {0}) c → CutsTo (λ ctx. C) c
unfolding Told CutsTo Read
told_cuts P C (ends a) t = tt
told_cuts P C (sends c ctx k) t = (
  t.0,
  sent_cases (λ s. CutsTo (λ ctx. C) (k s)) (told_cuts P C (k Done) (t.1 Done tt))
      (λ code. told_cuts P C (k (Failed code)) (t.1 (Failed code) tt))
      (ended_cuts C (k Cut) t.0),
)

-- Outcomes past the last command are not read.
pub words_surplus :
    {A : Type 0} (o : List ℕ) (m n : ℕ) (c : Course A) → n + length (words o n c) ≤ m → words (take m o) n c ≡ words o n c
unfolding words
words_surplus o m n (ends a) h = refl
words_surplus o m n (sends c ctx k) h =
    rw (outcome_take o n m (omega arith)) (ap (λ ws. command_word c ∷ ws) (words_surplus o m (n + 1) (k (outcome_at o n)) (omega arith)))

pub result_surplus :
    {A : Type 0} (o : List ℕ) (m n : ℕ) (c : Course A) → n + length (words o n c) ≤ m → result (take m o) n c ≡ result o n c
unfolding words result
result_surplus o m n (ends a) h = refl
result_surplus o m n (sends c ctx k) h =
    rw (outcome_take o n m (omega arith)) (result_surplus o m (n + 1) (k (outcome_at o n)) (omega arith))

pub played_surplus :
    {A : Type 0} (o : List ℕ) (c : Course A) (log : List ℕ) →
    played (take (played o 0 c log).count o) 0 c log ≡ played o 0 c log
unfolding played
played_surplus o c log =
    let m : ℕ = 0 + length (words o 0 c) in
    rw (words_surplus o m 0 c (omega arith), result_surplus o m 0 c (omega arith)) refl

-- Sweeps.
abbrev pub ReadSweep : (ℕ → Type 0) → Sweep → Type 0
ReadSweep K r = Read K r.sent

abbrev pub CutSweep : Sweep → Type 0
CutSweep r = r.sent ≡ Cut

module _ (K : ℕ → Type 0) (ctx : List ℕ) where
  resume_told_from : (ds : List ℕ) (a : ℕ) → Told (ReadSweep K) CutSweep K (resume_from ctx a ds)
  unfolding Told EndsWith Read resume_from on_sent
  resume_told_from [] a = tt
  resume_told_from (d ∷ ds) a = (
    refl,
    λ s r. on_read (Told (ReadSweep K) CutSweep K) K s _ _ _ r (resume_told_from ds (a + 1)) (λ code k. k),
  )

  pub resume_told : (ds : List ℕ) → Told (ReadSweep K) CutSweep K (resume_stopped_endpoints ctx ds)
  unfolding resume_stopped_endpoints
  resume_told ds = resume_told_from ds 0

  read_code : (code : ℕ) → K code → (s : Sent) → Read K s → Read K (or_code code s)
  unfolding Read or_code
  read_code code k Done r = k
  read_code code k (Failed later) r = r
  read_code code k Cut r = r

  undo_told : (ds : List ℕ) (code : ℕ) → K code → Told (ReadSweep K) CutSweep K (undo_stops ctx ds code)
  unfolding Told EndsWith undo_stops or_code
  undo_told ds code k =
      told_then (ReadSweep K) CutSweep (ReadSweep K) CutSweep K (resume_stopped_endpoints ctx ds) _ (resume_told ds) (λ r p. rw p refl)
      (λ r p. read_code code k r.sent p)

  stop_told_from : (stopped ds : List ℕ) → Told (ReadSweep K) CutSweep K (stop_from ctx stopped ds)
  unfolding Told EndsWith Read stop_from on_sent
  stop_told_from stopped [] = tt
  stop_told_from stopped (d ∷ ds) = (
    refl,
    λ s r.
        on_read (Told (ReadSweep K) CutSweep K) K s _ _ _ r (stop_told_from (stopped ++ (d ∷ [])) ds) (λ code k. undo_told stopped code k),
  )

  pub stop_told : (ds : List ℕ) → Told (ReadSweep K) CutSweep K (stop_endpoints ctx ds)
  unfolding stop_endpoints
  stop_told ds = stop_told_from [] ds

  -- stopping past failures reports a cut, and no code
  pub stop_each_told : (ds : List ℕ) → Told (λ cut. cut ≡ false) (λ cut. cut ≡ true) K (stop_each ctx ds)
  unfolding Told EndsWith stop_each on_sent
  stop_each_told [] = refl
  stop_each_told (d ∷ ds) =
      let rest : Told (λ cut. cut ≡ false) (λ cut. cut ≡ true) K (stop_each ctx ds) = stop_each_told ds in
      (refl, λ s r. on_read (Told (λ cut. cut ≡ false) (λ cut. cut ≡ true) K) K s _ _ _ r rest (λ code k. rest))

-- Where a command comes after stopping, one is sent.
pub sends_after_stop :
    {A : Type 0} (o ctx ds : List ℕ) (f : Sweep → Course A) → 1 ≤ length (words o 0 (f (swept Done 0))) →
    1 ≤ length (words o 0 (then (stop_endpoints ctx ds) f))
unfolding words then stop_endpoints stop_from
sends_after_stop o ctx [] f h = h
sends_after_stop o ctx (d ∷ ds) f h = omega arith
