-- What a user has seen of a dispatcher is what it holds.
use Prim.Native.Nat.{ℕ, ◌+◌, ◌<◌}
use mathlib.Core.Path.{◌≡◌, refl, sym, ◌∙◌, ap}
use mathlib.Core.Bool.{Bool, true, false, not, cond, ◌&&◌, ◌||◌}
use mathlib.Core.List.{List, [], ◌∷◌}
use native.Mathlib.Omega.{arith}
use native.Mathlib.Decide.{ℕ_discrete}
use lib.Dec.{eqb}
use lib.ListN.{length, get_or, set, length-set, get_or-replicate}
use borrow.Author.Tests.{eq-eqb, ne_eqb}
use Rattle.dispatcher.specs.declared.Dispatcher.{Dispatcher}
use Rattle.dispatcher.specs.declared.Submitted.{Submitted}
use Rattle.dispatcher.specs.declared.Turned.{Turned}
use Rattle.dispatcher.specs.Dispatcher.{ALREADY-WAITING, TOO-MANY-SLOTS, waiting, untaken, dispatches, new_dispatcher, answers, submitted, turned}
use Rattle.dispatcher.specs.Promises.{Event, submission, turn, happened, afterwards, Bytes, takes, starts, seen_waiting, seen_taken, above_after, seen_above, none, count_below}
use Rattle.dispatcher.proofs.Count.{count_same, count_more}
use Rattle.dispatcher.proofs.Found.{Submits, again, many, fresh, known, submits, Turns, serving, idling, turns}
use Rattle.dispatcher.proofs.Marks.{marked, waits_mark, marked_true, marked_false, waiting_else, marked_else, waiting_there, waiting_gone, marked_there}

-- The slots that wait, those that were taken, and where the next turn looks.
pub record Shows (d : Dispatcher) (w t : ℕ → Bool) (above : ℕ) : Type 0 where
  pub long : length d.marks ≡ 256
  pub waits : (s : ℕ) → s < 256 → waiting d.marks s ≡ w s
  pub marks : (s : ℕ) → s < 256 → marked d.marks s ≡ t s
  pub taken : d.taken ≡ count_below (marked d.marks) 256
  pub from : d.from ≡ above

-- Some tests.
kept_test : (w e : Bool) → w ≡ ((w || (e && false)) && true)
kept_test true true = refl
kept_test true false = refl
kept_test false true = refl
kept_test false false = refl

added_test : (w : Bool) → true ≡ ((w || (true && true)) && true)
added_test true = refl
added_test false = refl

or_test : (t e : Bool) → t ≡ (t || (e && false))
or_test true e = refl
or_test false true = refl
or_test false false = refl

or_added : (t : Bool) → true ≡ (t || (true && true))
or_added true = refl
or_added false = refl

turn_test : (w : Bool) → w ≡ ((w || false) && true)
turn_test true = refl
turn_test false = refl

gone_test : (w : Bool) → false ≡ ((w || false) && false)
gone_test true = refl
gone_test false = refl

or_false : (t : Bool) → t ≡ (t || false)
or_false true = refl
or_false false = refl

module _ (d : Dispatcher) (w t : ℕ → Bool) (above : ℕ) (x : Shows d w t above) (u : ℕ) (h : u < 256) where
  -- A mark set at a slot that was taken, and at one that was not.
  known_count : (m : ℕ) → (m ≡ 0 → ⊥) → (get_or d.marks u 0 ≡ 0 → ⊥) → d.taken ≡ count_below (marked (set d.marks u m)) 256
  known_count m some n = x.taken ∙ sym (count_same (marked d.marks) (marked (set d.marks u m)) 256 (λ s l. go s (ℕ_discrete s u)))
    where
      go : (s : ℕ) → Dec (s ≡ u) → marked (set d.marks u m) s ≡ marked d.marks s
      go s (yes q) = marked_there d.marks u s x.long h q m some ∙ sym (ap (marked d.marks) q ∙ marked_true d.marks u n)
      go s (no q) = marked_else d.marks u m s q

  fresh_count : get_or d.marks u 0 ≡ 0 → d.taken + 1 ≡ count_below (marked (set d.marks u 2)) 256
  fresh_count e =
      let c = count_more (marked d.marks) (marked (set d.marks u 2)) 256 u h (marked_false d.marks u e)
      (marked_there d.marks u u x.long h refl 2 (λ z. omega (arith, z))) (λ s l n. marked_else d.marks u 2 s n) in
      let k = x.taken in
      omega arith

  -- What is seen after a submission of this answer.
  abbrev After : Submitted → Type 0
  After r = Shows r.dispatcher (λ s. (w s || (eqb u s && eqb r.answer 0)) && not false) (λ s. t s || (eqb u s && eqb r.answer 0)) above

  refused : (r : Submitted) → r.dispatcher ≡ d → eqb r.answer 0 ≡ false → After r
  refused r k e =
      rw (k, e)
      (record {
        long = x.long;
        waits = λ s l. x.waits s l ∙ kept_test (w s) (eqb u s);
        marks = λ s l. x.marks s l ∙ or_test (t s) (eqb u s);
        taken = x.taken;
        from = x.from;
      })

  accepted : (n : ℕ) → n ≡ count_below (marked (set d.marks u 2)) 256 → After (record { dispatcher = dispatches (set d.marks u 2) n d.from; answer = 0 })
  accepted n e =
      record {
        long = length-set d.marks u 2 ∙ x.long;
        waits = λ s l. waits s l (ℕ_discrete s u);
        marks = λ s l. marks s l (ℕ_discrete s u);
        taken = e;
        from = x.from;
      }
    where
      waits : (s : ℕ) → s < 256 → Dec (s ≡ u) → waiting (set d.marks u 2) s ≡ ((w s || (eqb u s && true)) && true)
      waits s l (yes q) = waiting_there d.marks u s x.long h q ∙ rw (eq-eqb u s (sym q)) (added_test (w s))
      waits s l (no q) = waiting_else d.marks u 2 s q ∙ x.waits s l ∙ rw (ne_eqb u s (λ e. q (sym e))) (turn_test (w s))

      marks : (s : ℕ) → s < 256 → Dec (s ≡ u) → marked (set d.marks u 2) s ≡ (t s || (eqb u s && true))
      marks s l (yes q) = marked_there d.marks u s x.long h q 2 (λ z. omega (arith, z)) ∙ rw (eq-eqb u s (sym q)) (or_added (t s))
      marks s l (no q) = marked_else d.marks u 2 s q ∙ x.marks s l ∙ rw (ne_eqb u s (λ e. q (sym e))) (or_false (t s))

  shows_submitted : (r : Submitted) → Submits d u r → After r
  shows_submitted _ (again e) = refused (answers ALREADY-WAITING d) refl refl
  shows_submitted _ (many z l) = refused (answers TOO-MANY-SLOTS d) refl refl
  shows_submitted _ (fresh z l) = accepted (d.taken + 1) (fresh_count z)
  shows_submitted _ (known n z) = accepted d.taken (known_count 2 (λ z. omega (arith, z)) z)

-- A turn.
module _ (d : Dispatcher) (w t : ℕ → Bool) (above : ℕ) (x : Shows d w t above) where
  shows_turned : (r : Turned) → Turns d r →
      Shows r.dispatcher (λ s. (w s || false) && not (r.served && eqb r.slot s)) (λ s. t s || false) (cond r.served (r.slot + 1) above)
  shows_turned _ (idling n) =
      record {
        long = x.long;
        waits = λ s l. x.waits s l ∙ turn_test (w s);
        marks = λ s l. x.marks s l ∙ or_false (t s);
        taken = x.taken;
        from = x.from;
      }
  shows_turned _ (serving r h f) =
      record {
        long = length-set d.marks r 1 ∙ x.long;
        waits = λ s l. waits s l (ℕ_discrete s r);
        marks = λ s l. marks s l (ℕ_discrete s r);
        taken = known_count d w t above x r h 1 (λ z. omega (arith, z)) some;
        from = refl;
      }
    where
      some : get_or d.marks r 0 ≡ 0 → ⊥
      some e = let m = waits_mark d.marks r f.here in omega arith

      waits : (s : ℕ) → s < 256 → Dec (s ≡ r) → waiting (set d.marks r 1) s ≡ ((w s || false) && not (eqb r s))
      waits s l (yes q) = waiting_gone d.marks r s x.long h q ∙ rw (eq-eqb r s (sym q)) (gone_test (w s))
      waits s l (no q) = waiting_else d.marks r 1 s q ∙ x.waits s l ∙ rw (ne_eqb r s (λ e. q (sym e))) (turn_test (w s))

      marks : (s : ℕ) → s < 256 → Dec (s ≡ r) → marked (set d.marks r 1) s ≡ (t s || false)
      marks s l (yes q) =
          marked_there d.marks r s x.long h q 1 (λ z. omega (arith, z))
          ∙ sym (ap (marked d.marks) q ∙ marked_true d.marks r some)
          ∙ x.marks s l
          ∙ or_false (t s)
      marks s l (no q) = marked_else d.marks r 1 s q ∙ x.marks s l ∙ or_false (t s)

-- Over events.
shows_after : (d : Dispatcher) (w t : ℕ → Bool) (above : ℕ) (es : List Event) → Bytes es → Shows d w t above →
    Shows (afterwards d es) (seen_waiting w d es) (seen_taken t d es) (seen_above above d es)
unfolding afterwards seen_waiting seen_taken seen_above above_after Bytes happened takes starts
shows_after d w t above [] b x = x
shows_after d w t above (submission u ∷ es) b x =
    shows_after (submitted d u).dispatcher (λ s. (w s || takes s d (submission u)) && not (starts s d (submission u)))
    (λ s. t s || takes s d (submission u)) above es b.1 (shows_submitted d w t above x u b.0 (submitted d u) (submits d u))
shows_after d w t above (turn ∷ es) b x =
    shows_after (turned d).dispatcher (λ s. (w s || takes s d turn) && not (starts s d turn)) (λ s. t s || takes s d turn) (above_after above d turn) es b
    (shows_turned d w t above x (turned d) (turns d))

shows_new : Shows new_dispatcher none none 0
unfolding new_dispatcher waiting untaken marked count_below none
shows_new =
    record {
      long = refl;
      waits = λ s h. rw (get_or-replicate {A = ℕ} 256 s 0 0 h) refl;
      marks = λ s h. rw (get_or-replicate {A = ℕ} 256 s 0 0 h) refl;
      taken = refl;
      from = refl;
    }

pub shows : (es : List Event) → Bytes es →
    Shows (afterwards new_dispatcher es) (seen_waiting none new_dispatcher es) (seen_taken none new_dispatcher es) (seen_above 0 new_dispatcher es)
shows es b = shows_after new_dispatcher none none 0 es b shows_new
