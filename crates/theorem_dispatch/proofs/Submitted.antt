-- Where a slot waits, the call that stands there is one of the slot, and the one that was submitted.
use Rattle.std.proofs.Common.{ℕ, ◌≡◌, ◌<◌, true, false, cond, ◌+◌, List, [], ◌∷◌, length, set}
use mathlib.Core.Path.{refl, sym, ◌∙◌, ap}
use native.Mathlib.Decide.{ℕ_discrete}
use lib.Dec.{eqb}
use lib.ListN.{length-set}
use borrow.Author.Tests.{eq-eqb, ne_eqb}
use Rattle.laws.proofs.Tests.{not_both}
use Rattle.dispatcher.specs.declared.Dispatcher.{Dispatcher}
use Rattle.dispatcher.specs.declared.Submitted.{Submitted}
use Rattle.dispatcher.specs.declared.Turned.{Turned}
use Rattle.dispatcher.specs.Dispatcher.{WAITS, waiting, new_dispatcher, submitted, turned}
use Rattle.dispatcher.specs.Promises.{afterwards, seen_waiting, none, Bytes}
use Rattle.dispatcher.proofs.Found.{Submits, again, many, fresh, known, submits, Turns, serving, idling, turns}
use Rattle.dispatcher.proofs.Marks.{waiting_else, waiting_gone}
use Rattle.dispatcher.proofs.Seen.{shows}
use Rattle.theorem_dispatch.specs.Isolation.{Run, run_slot}
use Rattle.theorem_dispatch.specs.Desk as desk
use Rattle.theorem_dispatch.specs.Desk.{Desk, Event, kept_calls, started, desk_after, desk_in, started_in, new_desk, OnlySubmitted, StartsOwn}

-- Two such places agree wherever a slot waits.
record Agree (d : Dispatcher) (c k : ℕ → Run) : Type 0 where
  long : length d.marks ≡ 256
  same : (s : ℕ) → s < 256 → waiting d.marks s ≡ true → k s ≡ c s
  own : (s : ℕ) → s < 256 → waiting d.marks s ≡ true → run_slot (c s) ≡ s

kept_there : (r : Run) (c : ℕ → Run) (s : ℕ) → s ≡ run_slot r → kept_calls true r c s ≡ r
unfolding kept_calls
kept_there r c s e = rw (eq-eqb s (run_slot r) e) refl

kept_else : (r : Run) (c : ℕ → Run) (s : ℕ) → (s ≡ run_slot r → ⊥) → kept_calls true r c s ≡ c s
unfolding kept_calls
kept_else r c s n = rw (ne_eqb s (run_slot r) n) refl

kept_not : (r : Run) (c : ℕ → Run) (s : ℕ) → kept_calls false r c s ≡ c s
unfolding kept_calls
kept_not r c s = refl

module _ (d : Dispatcher) (c k : ℕ → Run) (a : Agree d c k) (r : Run) where
  agree_refused : Agree d (kept_calls false r c) (kept_calls false r k)
  agree_refused =
      record {
        long = a.long;
        same = λ s l w. kept_not r k s ∙ a.same s l w ∙ sym (kept_not r c s);
        own = λ s l w. ap run_slot (kept_not r c s) ∙ a.own s l w;
      }

  agree_taken : (n : ℕ) → Agree (record { marks = set d.marks (run_slot r) 2; taken = n; from = d.from }) (kept_calls true r c) (kept_calls true r k)
  agree_taken n =
      record {
        long = length-set d.marks (run_slot r) 2 ∙ a.long;
        same = λ s l w. same s l w (ℕ_discrete s (run_slot r));
        own = λ s l w. own s l w (ℕ_discrete s (run_slot r));
      }
    where
      same : (s : ℕ) → s < 256 → waiting (set d.marks (run_slot r) 2) s ≡ true → Dec (s ≡ run_slot r) → kept_calls true r k s ≡ kept_calls true r c s
      same s l w (yes e) = kept_there r k s e ∙ sym (kept_there r c s e)
      same s l w (no n) = kept_else r k s n ∙ a.same s l (sym (waiting_else d.marks (run_slot r) 2 s n) ∙ w) ∙ sym (kept_else r c s n)

      own : (s : ℕ) → s < 256 → waiting (set d.marks (run_slot r) 2) s ≡ true → Dec (s ≡ run_slot r) → run_slot (kept_calls true r c s) ≡ s
      own s l w (yes e) = ap run_slot (kept_there r c s e) ∙ sym e
      own s l w (no n) = ap run_slot (kept_else r c s n) ∙ a.own s l (sym (waiting_else d.marks (run_slot r) 2 s n) ∙ w)

  agree_submitted : (x : Submitted) → Submits d (run_slot r) x →
      Agree x.dispatcher (kept_calls (eqb x.answer WAITS) r c) (kept_calls (eqb x.answer WAITS) r k)
  agree_submitted _ (again e) = agree_refused
  agree_submitted _ (many z l) = agree_refused
  agree_submitted _ (fresh z l) = agree_taken (d.taken + 1)
  agree_submitted _ (known n z) = agree_taken d.taken

module _ (d : Dispatcher) (c k : ℕ → Run) (a : Agree d c k) where
  agree_turned : (x : Turned) → Turns d x → Agree x.dispatcher c k
  agree_turned _ (idling n) = a
  agree_turned _ (serving r h f) =
      record {
        long = length-set d.marks r 1 ∙ a.long;
        same = λ s l w. a.same s l (was s w (ℕ_discrete s r));
        own = λ s l w. a.own s l (was s w (ℕ_discrete s r));
      }
    where
      was : (s : ℕ) → waiting (set d.marks r 1) s ≡ true → Dec (s ≡ r) → waiting d.marks s ≡ true
      was s w (yes e) = not_both (waiting (set d.marks r 1) s) w (waiting_gone d.marks r s a.long h e)
      was s w (no n) = sym (waiting_else d.marks r 1 s n) ∙ w

  -- What a turn starts.
  starts_same : (x : Turned) → Turns d x → cond x.served (k x.slot ∷ []) [] ≡ cond x.served (c x.slot ∷ []) []
  starts_same _ (idling n) = refl
  starts_same _ (serving r h f) = ap (λ (x : Run). x ∷ []) (a.same r h f.here)

  starts_own : (x : Turned) → Turns d x → x.served ≡ true → run_slot (c x.slot) ≡ x.slot
  starts_own _ (idling n) e = not_both false e refl
  starts_own _ (serving r h f) e = a.own r h f.here

-- Over events.
record Twins (d e : Desk) : Type 0 where
  dispatcher : e.dispatcher ≡ d.dispatcher
  agree : Agree d.dispatcher d.calls e.calls

twins_after : (d e : Desk) (v : Event) → Twins d e → Twins (desk_after d v) (desk_after e v)
unfolding desk_after
twins_after d e (desk.submits r) w =
    record {
      dispatcher = rw w.dispatcher refl;
      agree = rw w.dispatcher (agree_submitted d.dispatcher d.calls e.calls w.agree r (submitted d.dispatcher (run_slot r)) (submits d.dispatcher (run_slot r)));
    }
twins_after d e desk.turns w =
    record {
      dispatcher = rw w.dispatcher refl;
      agree = agree_turned d.dispatcher d.calls e.calls w.agree (turned d.dispatcher) (turns d.dispatcher);
    }

twins_start : (d e : Desk) (v : Event) → Twins d e → started e v ≡ started d v
unfolding started
twins_start d e (desk.submits r) w = refl
twins_start d e desk.turns w = rw w.dispatcher (starts_same d.dispatcher d.calls e.calls w.agree (turned d.dispatcher) (turns d.dispatcher))

twins_in : (d e : Desk) (es : List Event) → Twins d e → Twins (desk_in d es) (desk_in e es)
unfolding desk_in
twins_in d e [] w = w
twins_in d e (v ∷ es) w = twins_in (desk_after d v) (desk_after e v) es (twins_after d e v w)

twins_started : (d e : Desk) (es : List Event) → Twins d e → started_in e es ≡ started_in d es
unfolding started_in
twins_started d e [] w = refl
twins_started d e (v ∷ es) w = rw (twins_start d e v w, twins_started (desk_after d v) (desk_after e v) es (twins_after d e v w)) refl

none_waits : (s : ℕ) → s < 256 → waiting new_dispatcher.marks s ≡ false
unfolding afterwards seen_waiting none Bytes
none_waits s h = (shows [] tt).waits s h

twins_new : (t u : List ℕ) (c k : ℕ → Run) → Twins (new_desk c t) (new_desk k u)
unfolding new_desk afterwards Bytes
twins_new t u c k =
    record {
      dispatcher = refl;
      agree = record {
        long = (shows [] tt).long;
        same = λ s h w. not_both (waiting new_dispatcher.marks s) w (none_waits s h);
        own = λ s h w. not_both (waiting new_dispatcher.marks s) w (none_waits s h);
      };
    }

pub only_submitted : OnlySubmitted
only_submitted t u c k es = twins_started (new_desk c t) (new_desk k u) es (twins_new t u c k)

pub each_own : StartsOwn
each_own t c es e =
    let d = desk_in (new_desk c t) es in
    let w = twins_in (new_desk c t) (new_desk c t) es (twins_new t t c c) in
    starts_own d.dispatcher d.calls d.calls w.agree (turned d.dispatcher) (turns d.dispatcher) e
