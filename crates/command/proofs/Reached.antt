-- The commands that a course comes to along outcomes that are known.
use Prim.Native.Nat.{ℕ, ◌+◌, ◌<◌, ◌≤◌}
use mathlib.Core.Path.{◌≡◌, refl, sym, ap, ◌∙◌}
use mathlib.Core.Bool.{Bool, true, false, cond}
use mathlib.Core.List.{List, [], ◌∷◌, ◌++◌, append_assoc}
use native.Mathlib.Nat.{add-zero}
use native.Mathlib.Omega.{arith}
use borrow.Author.Tests.{lt-ltb, ne_eqb}
use lib.ListN.{length, get_or, length-append, replicate, length-replicate, get_or-replicate, get_or-append}
use lib.Seq.{get_or-append_seam}
use Rattle.command.specs.declared.Command.{Command}
use Rattle.command.specs.declared.Sent.{Sent}
use Rattle.command.specs.declared.Sent.TheVariants as sent
use Rattle.command.specs.Command.{command_word, outcome_at}
use Rattle.command.specs.Course.{Course, ends, sends, on_sent, then, words, result}
use Rattle.command.specs.Sweep.{Sweep, stop_endpoints, stop_each}
use Rattle.command.proofs.Cuts.{outcome_none}
use Rattle.command.proofs.Done.{outcome_done, AllDone, stop_all_done}
use Rattle.command.proofs.Laws.{words_then, result_then}
use Rattle.command.proofs.Sweeps.{stop_done, stop_words_length, stop_each_words, stop_each_through}

-- A course goes on as another one that begins at command n, after words that it logged.
pub record Comes {A : Type 0} (o : List ℕ) (m : ℕ) (c : Course A) (n : ℕ) (d : Course A) : Type 0 where
  pub before : List ℕ
  pub same : result o m c ≡ result o n d
  pub logged : words o m c ≡ before ++ words o n d
  pub long : m + length before ≡ n

module _ {A : Type 0} (o : List ℕ) where
  pub comes_self : (m : ℕ) (c : Course A) → Comes o m c m c
  comes_self m c = record { before = []; same = refl; logged = refl; long = add-zero m }

  pub comes_then : {m n k : ℕ} {c d e : Course A} → Comes o m c n d → Comes o n d k e → Comes o m c k e
  comes_then {m} {n} {k} {c} {d} {e} x y =
      record {
        before = x.before ++ y.before;
        same = x.same ∙ y.same;
        logged = x.logged ∙ ap (λ z. x.before ++ z) y.logged ∙ sym (append_assoc x.before y.before (words o k e));
        long = let l = length-append x.before y.before in omega (arith, x.long, y.long);
      }

  -- by a command whose outcome is known
  pub comes_sends : (n : ℕ) (c : Command) (ctx : List ℕ) (k : Sent → Course A) (s : Sent) → outcome_at o n ≡ s →
      Comes o n (sends c ctx k) (n + 1) (k s)
  unfolding words result
  comes_sends n c ctx k s e =
      record { before = command_word c ∷ []; same = rw e; logged = rw e; long = refl }

  -- after a part
  pub comes_part : {B : Type 0} (m : ℕ) (c : Course B) (f : B → Course A) →
      Comes o m (then c f) (m + length (words o m c)) (f (result o m c))
  comes_part m c f = record { before = words o m c; same = result_then o m c f; logged = words_then o m c f; long = refl }

  -- in a part
  pub comes_in : {B : Type 0} {m n : ℕ} {c d : Course B} (f : B → Course A) → Comes o m c n d → Comes o m (then c f) n (then d f)
  comes_in {m = m} {n = n} {c = c} {d = d} f x =
      let w = words o n d in
      let l : m + length (words o m c) ≡ n + length w = rw x.logged (let y = length-append x.before w in omega (arith, x.long)) in
      record {
        before = x.before;
        same = result_then o m c f ∙ rw (l, x.same) (sym (result_then o n d f));
        logged =
            words_then o m c f
            ∙ rw (l, x.same, x.logged)
            (append_assoc x.before w (words o (n + length w) (f (result o n d)))
            ∙ ap (λ z. x.before ++ z) (sym (words_then o n d f)));
        long = x.long;
      }

  -- after endpoints that are stopped
  pub comes_stopped : (n : ℕ) (ctx ds : List ℕ) (next : Course A) (failed : Sweep → ℕ → Course A) (cut : Sweep → Course A) →
      AllDone o n (length ds) →
      Comes o n (then (stop_endpoints ctx ds) (λ r. on_sent r.sent next (failed r) (cut r))) (n + length ds) next
  unfolding on_sent
  comes_stopped n ctx ds next failed cut h =
      let e = stop_all_done o ctx ds n h in
      let l : length (words o n (stop_endpoints ctx ds)) ≡ length ds = stop_done o ctx ds n e in
      rw (l, e) at (comes_part n (stop_endpoints ctx ds) (λ r. on_sent r.sent next (failed r) (cut r)))

  -- after endpoints that are stopped past failures
  pub comes_each : (n : ℕ) (ctx ds : List ℕ) (f : Bool → Course A) → n + length ds ≤ length o →
      Comes o n (then (stop_each ctx ds) f) (n + length ds) (f false)
  comes_each n ctx ds f h =
      let e = stop_each_through o ctx ds n h in
      let l : length (words o n (stop_each ctx ds)) ≡ length ds = rw (stop_each_words o ctx ds n e) (stop_words_length ds) in
      rw (l, e) at (comes_part n (stop_each ctx ds) f)

  -- by a test
  pub comes_true : (n : ℕ) (b : Bool) (x y : Course A) → b ≡ true → Comes o n (cond b x y) n x
  comes_true n b x y e = rw e (comes_self n x)

  pub comes_false : (n : ℕ) (b : Bool) (x y : Course A) → b ≡ false → Comes o n (cond b x y) n y
  comes_false n b x y e = rw e (comes_self n y)

  pub comes_as : {m n : ℕ} {c d : Course A} (k : ℕ) → n ≡ k → Comes o m c n d → Comes o m c k d
  comes_as k e x = record { before = x.before; same = rw (← e) x.same; logged = rw (← e) x.logged; long = x.long ∙ e }

-- It is cut at the command that it has come to.
pub record CutHere {A : Type 0} (o : List ℕ) (course : Course A) (n : ℕ) (c : Command) (end : A) : Type 0 where
  pub result_is : result o 0 course ≡ end
  pub count : length (words o 0 course) ≡ n + 1
  pub word : get_or (words o 0 course) n 0 ≡ command_word c

pub cut_here : {A : Type 0} (o : List ℕ) (course : Course A) (n : ℕ) (c : Command) (ctx : List ℕ) (k : Sent → Course A) (end : A) →
    Comes o 0 course n (sends c ctx k) → outcome_at o n ≡ sent.Cut → k sent.Cut ≡ ends end → CutHere o course n c end
unfolding words result
cut_here o course n c ctx k end x e h =
    let one : words o n (sends c ctx k) ≡ command_word c ∷ [] = rw (e, h) in
    let all : words o 0 course ≡ x.before ++ (command_word c ∷ []) = x.logged ∙ rw one in
    let l : length x.before ≡ n = omega (arith, x.long) in
    record {
      result_is = x.same ∙ rw (e, h);
      count = rw all (let y = length-append x.before (command_word c ∷ []) in omega (arith, y));
      word = rw (all, ← l) (get_or-append_seam x.before (command_word c) [] 0);
    }

-- Outcomes that are done, and perhaps one that failed after them.
pub dones_before : (n k : ℕ) → k < n → outcome_at (replicate n 0) k ≡ sent.Done
dones_before n k h = outcome_done (replicate n 0) k (rw (length-replicate {A = ℕ} n 0) h) (get_or-replicate n k 0 0 h)

pub dones_past : (n : ℕ) → outcome_at (replicate n 0) n ≡ sent.Cut
dones_past n = outcome_none (replicate n 0) n (rw (length-replicate {A = ℕ} n 0) (omega arith))

module _ (n code : ℕ) where
  fails_length : length (replicate n 0 ++ (code ∷ [])) ≡ n + 1
  fails_length = length-append (replicate n 0) (code ∷ []) ∙ rw (length-replicate {A = ℕ} n 0)

  pub fails_before : (k : ℕ) → k < n → outcome_at (replicate n 0 ++ (code ∷ [])) k ≡ sent.Done
  fails_before k h =
      outcome_done (replicate n 0 ++ (code ∷ [])) k (rw fails_length (omega arith))
      (get_or-append (replicate n 0) (code ∷ []) 0 k (rw (length-replicate {A = ℕ} n 0) h) ∙ get_or-replicate n k 0 0 h)

  pub fails_there : (code ≡ 0 → ⊥) → outcome_at (replicate n 0 ++ (code ∷ [])) n ≡ sent.Failed code
  unfolding outcome_at
  fails_there z =
      let seam : get_or (replicate n 0 ++ (code ∷ [])) n 0 ≡ code =
      rw (length-replicate {A = ℕ} n 0) at (get_or-append_seam (replicate n 0) code [] 0) in
      rw (lt-ltb n (length (replicate n 0 ++ (code ∷ []))) (rw fails_length (omega arith)), seam, ne_eqb code 0 z)

  pub fails_past : outcome_at (replicate n 0 ++ (code ∷ [])) (n + 1) ≡ sent.Cut
  fails_past = outcome_none (replicate n 0 ++ (code ∷ [])) (n + 1) (rw fails_length (omega arith))
