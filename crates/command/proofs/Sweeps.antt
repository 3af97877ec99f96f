-- What a sweep over endpoints sends and how it ends.
use Prim.Native.Nat.{ℕ, zero, suc, ◌+◌, ◌*◌, ◌<◌, ◌≤◌}
use mathlib.Core.Path.{◌≡◌, refl, sym, ap, ◌∙◌}
use mathlib.Core.Bool.{Bool, true, false}
use mathlib.Core.List.{List, [], ◌∷◌, ◌++◌, append-nil}
use native.Mathlib.Omega.{arith}
use native.Mathlib.Decide.{dec_lt}
use lib.ListN.{length, get_or, length-append, get_or-eq_default}
use Rattle.command.specs.declared.Command.{Command}
use Rattle.command.specs.declared.Sent.{Sent}
use Rattle.command.specs.declared.Sent.TheVariants.{Done, Failed, Cut}
use Rattle.command.specs.declared.Swept.{Swept}
use Rattle.command.specs.Command.{command_word, outcome_at, stop_command, resume_command}
use Rattle.command.specs.Course.{Course, ends, on_sent, then, words, result, played, EndsWith, CutsTo, CutEnds, Uncut}
use Rattle.command.specs.Sweep.{Sweep, swept, resume_from, resume_stopped_endpoints, or_code, undo_stops, stop_from, stop_endpoints, stop_each, SweptAs}
use Rattle.laws.proofs.Tests.{not_both}
use Rattle.command.proofs.Laws.{words_then, result_then}
use Rattle.command.proofs.Cuts.{done_cut, failed_cut, failed_done, on_sent_lem, each_outcome, cuts_then, uncut_then, uncut_result, cut_last}
use Rattle.command.proofs.Operations.{EachCommand, each_then}

-- Resuming m endpoints where a are active already.
record Resumed (a m : ℕ) (ws : List ℕ) (r : Sweep) : Type 0 where
  pub short : length ws ≤ m
  pub some : r.active ≤ a + m
  pub all : r.sent ≡ Done → (length ws ≡ m) × (r.active ≡ a + m)

resumed_from : (o ctx ds : List ℕ) (n a : ℕ) →
    Resumed a (length ds) (words o n (resume_from ctx a ds)) (result o n (resume_from ctx a ds))
unfolding resume_from words result on_sent
resumed_from o ctx [] n a = record { short = omega arith; some = omega arith; all = λ e. (refl, omega arith) }
resumed_from o ctx (d ∷ ds) n a = go (outcome_at o n) (resumed_from o ctx ds (n + 1) (a + 1))
  where
    rest : Sent → Course Sweep
    rest s = on_sent s (resume_from ctx (a + 1) ds) (λ code. ends (swept (Failed code) a)) (ends (swept Cut a))

    go : (s : Sent) →
        Resumed (a + 1) (length ds) (words o (n + 1) (resume_from ctx (a + 1) ds)) (result o (n + 1) (resume_from ctx (a + 1) ds)) →
        Resumed a (suc (length ds)) (command_word (resume_command d) ∷ words o (n + 1) (rest s)) (result o (n + 1) (rest s))
    go Done f =
        record {
          short = omega (arith, f.short);
          some = omega (arith, f.some);
          all = λ e. (ap suc (f.all e).0, omega (arith, (f.all e).1));
        }
    go (Failed code) f =
        record { short = omega arith; some = omega arith; all = λ e. failed_done e }
    go Cut f =
        record { short = omega arith; some = omega arith; all = λ e. done_cut (sym e) }

module _ (o ctx ds : List ℕ) (n : ℕ) where
  -- resuming sends at most one word for each endpoint
  pub words_length_resume : length (words o n (resume_stopped_endpoints ctx ds)) ≤ length ds
  unfolding resume_stopped_endpoints
  words_length_resume = (resumed_from o ctx ds n 0).short

  -- and makes no more of them active than there are
  pub active_resume : (result o n (resume_stopped_endpoints ctx ds)).active ≤ length ds
  unfolding resume_stopped_endpoints
  active_resume = omega (arith, (resumed_from o ctx ds n 0).some)

  -- where it ends done, it has sent a word for each, and each is active
  pub resume_done : (result o n (resume_stopped_endpoints ctx ds)).sent ≡ Done →
      (length (words o n (resume_stopped_endpoints ctx ds)) ≡ length ds) × ((result o n (resume_stopped_endpoints ctx ds)).active ≡ length ds)
  unfolding resume_stopped_endpoints
  resume_done e = let f = (resumed_from o ctx ds n 0).all e in (f.0, omega (arith, f.1))

-- a failed stop never ends done
never_done : (code : ℕ) (s : Sent) → or_code code s ≡ Done → ⊥
unfolding or_code
never_done code Done e = failed_done e
never_done code (Failed later) e = failed_done e
never_done code Cut e = done_cut (sym e)

-- nor cut, unless the resuming was
code_cut : (code : ℕ) (s : Sent) → or_code code s ≡ Cut → s ≡ Cut
unfolding or_code
code_cut code Done e = failed_cut e
code_cut code (Failed later) e = failed_cut e
code_cut code Cut e = refl

-- undoing stops sends what resuming sends
pub undo_words : (o ctx ds : List ℕ) (n code : ℕ) → words o n (undo_stops ctx ds code) ≡ words o n (resume_stopped_endpoints ctx ds)
unfolding undo_stops words
undo_words o ctx ds n code = rw (words_then, append-nil)

-- and ends as that does, a code for done
pub undo_result : (o ctx ds : List ℕ) (n code : ℕ) →
    result o n (undo_stops ctx ds code) ≡
    swept (or_code code (result o n (resume_stopped_endpoints ctx ds)).sent) (result o n (resume_stopped_endpoints ctx ds)).active
unfolding undo_stops result
undo_result o ctx ds n code = rw result_then

-- Stopping m endpoints where k are stopped already.
record Stopped (k m : ℕ) (ws : List ℕ) (r : Sweep) : Type 0 where
  pub short : length ws ≤ k + 2 * m
  pub some : r.active ≤ k + m
  pub all : r.sent ≡ Done → length ws ≡ m

stopped_from : (o ctx stopped ds : List ℕ) (n : ℕ) →
    Stopped (length stopped) (length ds) (words o n (stop_from ctx stopped ds)) (result o n (stop_from ctx stopped ds))
unfolding stop_from words result on_sent
stopped_from o ctx stopped [] n = record { short = omega arith; some = omega arith; all = λ e. refl }
stopped_from o ctx stopped (d ∷ ds) n = go (outcome_at o n) (stopped_from o ctx next ds (n + 1))
  where
    next : List ℕ
    next = stopped ++ (d ∷ [])

    rest : Sent → Course Sweep
    rest s = on_sent s (stop_from ctx next ds) (undo_stops ctx stopped) (ends (swept Cut 0))

    go : (s : Sent) →
        Stopped (length next) (length ds) (words o (n + 1) (stop_from ctx next ds)) (result o (n + 1) (stop_from ctx next ds)) →
        Stopped (length stopped) (suc (length ds)) (command_word (stop_command d) ∷ words o (n + 1) (rest s)) (result o (n + 1) (rest s))
    go Done f =
        let l : length next ≡ length stopped + 1 = simp length-append in
        record {
          short = omega (arith, f.short);
          some = omega (arith, f.some);
          all = λ e. ap suc (f.all e);
        }
    go (Failed code) f =
        rw (undo_words, undo_result)
        (record {
          short = omega (arith, words_length_resume o ctx stopped (n + 1));
          some = omega (arith, active_resume o ctx stopped (n + 1));
          all = λ e. absurd (never_done code _ e);
        })
    go Cut f =
        record { short = omega arith; some = omega arith; all = λ e. done_cut (sym e) }

module _ (o ctx ds : List ℕ) (n : ℕ) where
  -- stopping sends at most two words for each endpoint
  pub words_length_stop : length (words o n (stop_endpoints ctx ds)) ≤ 2 * length ds
  unfolding stop_endpoints
  words_length_stop = omega (arith, (stopped_from o ctx [] ds n).short)

  -- and makes no more of them active than there are
  pub active_stop : (result o n (stop_endpoints ctx ds)).active ≤ length ds
  unfolding stop_endpoints
  active_stop = omega (arith, (stopped_from o ctx [] ds n).some)

  -- where it ends done, it has sent a word for each
  pub stop_done : (result o n (stop_endpoints ctx ds)).sent ≡ Done → length (words o n (stop_endpoints ctx ds)) ≡ length ds
  unfolding stop_endpoints
  stop_done e = (stopped_from o ctx [] ds n).all e

module _ (o ctx ds log left : List ℕ) (n : ℕ) (r : Swept) where
  -- the count that resuming leaves
  pub resume_count : SweptAs r left (played o n (resume_stopped_endpoints ctx ds) log) → r.count ≤ n + length ds
  unfolding played
  resume_count a = omega (arith, a.count, words_length_resume o ctx ds n)

  -- the count that stopping leaves
  pub stop_count : SweptAs r left (played o n (stop_endpoints ctx ds) log) → r.count ≤ n + 2 * length ds
  unfolding played
  stop_count a = omega (arith, a.count, words_length_stop o ctx ds n)

  -- and that it leaves where it ends done
  pub stop_done_count : SweptAs r left (played o n (stop_endpoints ctx ds) log) → r.sent ≡ Done → r.count ≡ n + length ds
  unfolding played
  stop_done_count a e = omega (arith, a.count, stop_done o ctx ds n (sym a.sent ∙ e))

-- A sweep over this context that was cut.
abbrev pub CutSweep : List ℕ → List ℕ → Sweep → Type 0
CutSweep ctx at r = (ctx ≡ at) × (r.sent ≡ Cut)

-- One that was not.
abbrev pub UncutSweep : Sweep → Type 0
UncutSweep r = r.sent ≡ Cut → ⊥

resume_cuts_from : (ctx ds : List ℕ) (a : ℕ) → CutsTo (CutSweep ctx) (resume_from ctx a ds)
unfolding CutsTo EndsWith resume_from on_sent
resume_cuts_from ctx [] a = tt
resume_cuts_from ctx (d ∷ ds) a = (
  (refl, refl),
  each_outcome (CutsTo (CutSweep ctx)) _ _ _ (resume_cuts_from ctx ds (a + 1)) (λ code. tt) tt,
)

resume_uncut_from : (ctx ds : List ℕ) (a : ℕ) → Uncut UncutSweep (resume_from ctx a ds)
unfolding Uncut resume_from
resume_uncut_from ctx [] a = done_cut
resume_uncut_from ctx (d ∷ ds) a = λ s u.
    on_sent_lem (Uncut UncutSweep) s _ _ _ (λ e. resume_uncut_from ctx ds (a + 1)) (λ code e. failed_cut) (λ e. absurd (u e))

-- resuming passes a cut on
pub resume_cuts : (ctx ds : List ℕ) → CutsTo (CutSweep ctx) (resume_stopped_endpoints ctx ds)
unfolding resume_stopped_endpoints
resume_cuts ctx ds = resume_cuts_from ctx ds 0

-- and reports no other
pub resume_uncut : (ctx ds : List ℕ) → Uncut UncutSweep (resume_stopped_endpoints ctx ds)
unfolding resume_stopped_endpoints
resume_uncut ctx ds = resume_uncut_from ctx ds 0

undo_cuts : (ctx ds : List ℕ) (code : ℕ) → CutsTo (CutSweep ctx) (undo_stops ctx ds code)
unfolding CutsTo EndsWith undo_stops or_code
undo_cuts ctx ds code =
    cuts_then (CutSweep ctx) (CutSweep ctx) (resume_stopped_endpoints ctx ds) _ (resume_cuts ctx ds) (λ at r p. (p.0, rw p.1)) (λ r. tt)

undo_uncut : (ctx ds : List ℕ) (code : ℕ) → Uncut UncutSweep (undo_stops ctx ds code)
unfolding Uncut undo_stops
undo_uncut ctx ds code =
    uncut_then UncutSweep UncutSweep (resume_stopped_endpoints ctx ds) _ (resume_uncut ctx ds) (λ r u e. u (code_cut code r.sent e))

stop_cuts_from : (ctx stopped ds : List ℕ) → CutsTo (CutSweep ctx) (stop_from ctx stopped ds)
unfolding CutsTo EndsWith stop_from on_sent
stop_cuts_from ctx stopped [] = tt
stop_cuts_from ctx stopped (d ∷ ds) = (
  (refl, refl),
  each_outcome (CutsTo (CutSweep ctx)) _ _ _ (stop_cuts_from ctx (stopped ++ (d ∷ [])) ds) (undo_cuts ctx stopped) tt,
)

stop_uncut_from : (ctx stopped ds : List ℕ) → Uncut UncutSweep (stop_from ctx stopped ds)
unfolding Uncut stop_from
stop_uncut_from ctx stopped [] = done_cut
stop_uncut_from ctx stopped (d ∷ ds) = λ s u.
    on_sent_lem (Uncut UncutSweep) s _ _ _ (λ e. stop_uncut_from ctx (stopped ++ (d ∷ [])) ds)
    (λ code e. undo_uncut ctx stopped code)
    (λ e. absurd (u e))

-- stopping passes a cut on
pub stop_cuts : (ctx ds : List ℕ) → CutsTo (CutSweep ctx) (stop_endpoints ctx ds)
unfolding stop_endpoints
stop_cuts ctx ds = stop_cuts_from ctx [] ds

-- and reports no other
pub stop_uncut : (ctx ds : List ℕ) → Uncut UncutSweep (stop_endpoints ctx ds)
unfolding stop_endpoints
stop_uncut ctx ds = stop_uncut_from ctx [] ds

-- a sweep that passes cuts on, and then a course that ends with the sweep's context if it was cut
pub sweep_cut_ends : {A : Type 0} (context_of : A → List ℕ) (ctx : List ℕ) (c : Course Sweep) (f : Sweep → Course A) →
    CutsTo (CutSweep ctx) c → ((r : Sweep) → r.sent ≡ Cut → EndsWith (λ a. context_of a ≡ ctx) (f r)) →
    ((r : Sweep) → CutEnds context_of (f r)) → CutEnds context_of (then c f)
sweep_cut_ends context_of ctx c f t h r =
    cuts_then (CutSweep ctx) (λ at a. context_of a ≡ at) c f t (λ at b p. rw p.0 at (h b p.1)) r

module _ (ctx o : List ℕ) (n : ℕ) (c : Course Sweep) where
  -- it ends by a cut if it wants an outcome more than there are
  pub sweep_cut : CutsTo (CutSweep ctx) c → n ≤ length o → length o < n + length (words o n c) → (result o n c).sent ≡ Cut
  sweep_cut t h l = (cut_last (CutSweep ctx) o n c t h l).1

  -- and only then
  pub sweep_uncut : Uncut UncutSweep c → (result o n c).sent ≡ Cut → length o < n + length (words o n c)
  sweep_uncut u e = go (dec_lt (length o) (n + length (words o n c)))
    where
      go : Dec (length o < n + length (words o n c)) → length o < n + length (words o n c)
      go (yes h) = h
      go (no h) = absurd (uncut_result UncutSweep o n c u (omega arith) e)

-- a rule that holds of each number of a list, and of one more
one_more : (Q : ℕ → Type 0) (l : List ℕ) (d : ℕ) → ((k : ℕ) → Q (get_or l k 0)) → Q d → (k : ℕ) → Q (get_or (l ++ (d ∷ [])) k 0)
one_more Q [] d h q zero = q
one_more Q [] d h q (suc k) = h zero
one_more Q (x ∷ l) d h q zero = h zero
one_more Q (x ∷ l) d h q (suc k) = one_more Q l d (λ j. h (suc j)) q k

module _ (P : Command → Type 0) (ctx : List ℕ) where
  resume_each_from : (ds : List ℕ) (a : ℕ) → ((k : ℕ) → P (resume_command (get_or ds k 0))) → EachCommand P (resume_from ctx a ds)
  unfolding EachCommand resume_from
  resume_each_from [] a h = tt
  resume_each_from (d ∷ ds) a h = (
    h zero,
    λ s. on_sent_lem (EachCommand P) s _ _ _ (λ e. resume_each_from ds (a + 1) (λ k. h (suc k))) (λ code e. tt) (λ e. tt),
  )

  -- resuming sends resumes
  pub resume_each : (ds : List ℕ) → ((k : ℕ) → P (resume_command (get_or ds k 0))) → EachCommand P (resume_stopped_endpoints ctx ds)
  unfolding resume_stopped_endpoints
  resume_each ds h = resume_each_from ds 0 h

  stop_each_from : (stopped ds : List ℕ) → ((k : ℕ) → P (resume_command (get_or stopped k 0))) →
      ((k : ℕ) → P (stop_command (get_or ds k 0)) × P (resume_command (get_or ds k 0))) → EachCommand P (stop_from ctx stopped ds)
  unfolding EachCommand stop_from undo_stops
  stop_each_from stopped [] b h = tt
  stop_each_from stopped (d ∷ ds) b h = (
    (h zero).0,
    λ s.
        on_sent_lem (EachCommand P) s _ _ _
        (λ e. stop_each_from (stopped ++ (d ∷ [])) ds (one_more (λ x. P (resume_command x)) stopped d b (h zero).1) (λ k. h (suc k)))
        (λ code e. each_then P (resume_stopped_endpoints ctx stopped) _ (resume_each stopped b) (λ r. tt))
        (λ e. tt),
  )

  -- stopping sends stops and resumes
  pub stop_each_lem : (ds : List ℕ) → ((k : ℕ) → P (stop_command (get_or ds k 0)) × P (resume_command (get_or ds k 0))) →
      EachCommand P (stop_endpoints ctx ds)
  unfolding stop_endpoints
  stop_each_lem ds h =
      let e : get_or ds (length ds) 0 ≡ 0 = get_or-eq_default ds 0 (omega arith) in
      stop_each_from [] ds (λ k. rw e at (h (length ds)).1) h

  -- stopping past failures sends stops
  pub stop_each_each : (ds : List ℕ) → ((k : ℕ) → k < length ds → P (stop_command (get_or ds k 0))) → EachCommand P (stop_each ctx ds)
  unfolding EachCommand stop_each
  stop_each_each [] h = tt
  stop_each_each (d ∷ ds) h =
      let rest : EachCommand P (stop_each ctx ds) = stop_each_each ds (λ k l. h (suc k) (omega arith)) in
      (h zero (omega arith), λ s. on_sent_lem (EachCommand P) s _ _ _ (λ e. rest) (λ code e. rest) (λ e. tt))

-- Stopping past failures that was cut, over this context, and one that was not.
abbrev pub CutStops : List ℕ → List ℕ → Bool → Type 0
CutStops ctx at cut = (ctx ≡ at) × (cut ≡ true)

abbrev pub UncutStops : Bool → Type 0
UncutStops cut = cut ≡ false

-- it passes a cut on
pub stop_each_cuts : (ctx ds : List ℕ) → CutsTo (CutStops ctx) (stop_each ctx ds)
unfolding CutsTo EndsWith stop_each on_sent
stop_each_cuts ctx [] = tt
stop_each_cuts ctx (d ∷ ds) =
    let rest : CutsTo (CutStops ctx) (stop_each ctx ds) = stop_each_cuts ctx ds in
    ((refl, refl), λ s. on_sent_lem (CutsTo (CutStops ctx)) s _ _ _ (λ e. rest) (λ code e. rest) (λ e. tt))

-- and reports no other
pub stop_each_uncut : (ctx ds : List ℕ) → Uncut UncutStops (stop_each ctx ds)
unfolding Uncut stop_each
stop_each_uncut ctx [] = refl
stop_each_uncut ctx (d ∷ ds) =
    let rest : Uncut UncutStops (stop_each ctx ds) = stop_each_uncut ctx ds in
    λ s u. on_sent_lem (Uncut UncutStops) s _ _ _ (λ e. rest) (λ code e. rest) (λ e. absurd (u e))

-- The words of a Stop for each.
unfoldable pub stop_words : List ℕ → List ℕ
stop_words [] = []
stop_words (d ∷ ds) = command_word (stop_command d) ∷ stop_words ds

pub stop_words_length : (ds : List ℕ) → length (stop_words ds) ≡ length ds
unfolding stop_words
stop_words_length [] = refl
stop_words_length (d ∷ ds) = ap suc (stop_words_length ds)

-- it sends at most a word for each endpoint
pub words_length_stop_each : (o ctx ds : List ℕ) (n : ℕ) → length (words o n (stop_each ctx ds)) ≤ length ds
unfolding stop_each words on_sent
words_length_stop_each o ctx [] n = omega arith
words_length_stop_each o ctx (d ∷ ds) n = go (outcome_at o n) (words_length_stop_each o ctx ds (n + 1))
  where
    rest : Sent → Course Bool
    rest s = on_sent s (stop_each ctx ds) (λ code. stop_each ctx ds) (ends true)

    go : (s : Sent) → length (words o (n + 1) (stop_each ctx ds)) ≤ length ds →
        length (command_word (stop_command d) ∷ words o (n + 1) (rest s)) ≤ suc (length ds)
    go Done h = omega arith
    go (Failed code) h = omega arith
    go Cut h = omega arith

-- where it is not cut, a Stop for each, in order
pub stop_each_words : (o ctx ds : List ℕ) (n : ℕ) → result o n (stop_each ctx ds) ≡ false →
    words o n (stop_each ctx ds) ≡ stop_words ds
unfolding stop_each words result on_sent stop_words
stop_each_words o ctx [] n e = refl
stop_each_words o ctx (d ∷ ds) n e = go (outcome_at o n) (stop_each_words o ctx ds (n + 1)) e
  where
    rest : Sent → Course Bool
    rest s = on_sent s (stop_each ctx ds) (λ code. stop_each ctx ds) (ends true)

    go : (s : Sent) → (result o (n + 1) (stop_each ctx ds) ≡ false → words o (n + 1) (stop_each ctx ds) ≡ stop_words ds) →
        result o (n + 1) (rest s) ≡ false →
        command_word (stop_command d) ∷ words o (n + 1) (rest s) ≡ command_word (stop_command d) ∷ stop_words ds
    go Done f p = ap (λ ws. command_word (stop_command d) ∷ ws) (f p)
    go (Failed code) f p = ap (λ ws. command_word (stop_command d) ∷ ws) (f p)
    go Cut f p = not_both true refl p

-- it is not cut where there is an outcome for each
pub stop_each_through : (o ctx ds : List ℕ) (n : ℕ) → n + length ds ≤ length o → result o n (stop_each ctx ds) ≡ false
stop_each_through o ctx ds n h =
    uncut_result UncutStops o n (stop_each ctx ds) (stop_each_uncut ctx ds) (omega (arith, words_length_stop_each o ctx ds n))
