-- The dispatcher keeps its promises.
use Prim.Native.Nat.{ℕ, zero, suc, ◌+◌, ◌-◌, ◌%◌, ◌<◌, ◌≤◌}
use mathlib.Core.Path.{◌≡◌, refl, sym, ◌∙◌}
use mathlib.Core.Logic.{◌⊎◌, inl, inr}
use mathlib.Core.Bool.{Bool, true, false}
use mathlib.Core.List.{List, [], ◌∷◌}
use native.Mathlib.Omega.{arith}
use native.Mathlib.Decide.{dec_lt}
use lib.ListN.{replicate}
use borrow.Author.Tests.{le-leb, lt-leb}
use Rattle.laws.proofs.Tests.{not_both}
use Rattle.dispatcher.specs.declared.Dispatcher.{Dispatcher}
use Rattle.dispatcher.specs.declared.Submitted.{Submitted}
use Rattle.dispatcher.specs.declared.Turned.{Turned}
use Rattle.dispatcher.specs.Dispatcher.{waiting, untaken, new_dispatcher, submitted, first_waiting, next_slot, turned}
use Rattle.dispatcher.specs.Promises.{Event, submission, turn, happened, afterwards, starts, seen_waiting, seen_taken, seen_above, none, Served, InOrder, NobodyWaits, count_below, answer_for, Answers, started_in, starts_in, Reached}
use Rattle.dispatcher.proofs.Count.{count_same}
use Rattle.dispatcher.proofs.First.{FirstAt, distance, far_from, distance_there}
use Rattle.dispatcher.proofs.Found.{Submits, again, many, fresh, known, submits, Turns, serving, idling, turns}
use Rattle.dispatcher.proofs.Marks.{marked, mark_waits, not_waits, marked_true, marked_false}
use Rattle.dispatcher.proofs.Seen.{Shows, shows}
use Rattle.dispatcher.proofs.Fair.{Sound, sound_after}

-- What is found lies no farther than any that waits.
no_farther : (p : ℕ → Bool) (at r t : ℕ) → at ≤ 256 → t < 256 → p t ≡ true → (f : FirstAt p 256 at r) → f.far ≤ distance at t
no_farther p at r t h l e f = go (dec_lt (distance at t) f.far)
  where
    there : ((at + distance at t) % 256 ≡ t) × (distance at t < 256)
    there = distance_there at t h l

    go : Dec (distance at t < f.far) → f.far ≤ distance at t
    go (yes k) = not_both (p ((at + distance at t) % 256)) (rw there.0 e) (f.none (distance at t) k)
    go (no k) = omega (arith, k)

-- So it is the lowest from there on; where that is none, the lowest.
module _ (p : ℕ → Bool) (at r : ℕ) (low : at ≤ 256) (f : FirstAt p 256 at r) where
  abbrev Far : ℕ → Type 0
  Far t = ((at ≤ t) × (distance at t ≡ t - at)) ⊎ ((t < at) × (distance at t ≡ 256 + t - at))

  found_first : (t : ℕ) → t < 256 → p t ≡ true → at ≤ t → (at ≤ r) × (r ≤ t)
  found_first t h w g = go (far_from at t low h) (no_farther p at r t low h w f) f.place
    where
      go : Far t → f.far ≤ distance at t → r ≡ (at + f.far) % 256 → (at ≤ r) × (r ≤ t)
      go (inl s) n q = (omega (arith, s.0, s.1), omega (arith, s.0, s.1))
      go (inr s) n q = absurd (omega (arith, s.0))

  found_lowest : r < at → (t : ℕ) → t < 256 → p t ≡ true → r ≤ t
  found_lowest g t h w = go (far_from at t low h) (no_farther p at r t low h w f) f.place f.near
    where
      go : Far t → f.far ≤ distance at t → r ≡ (at + f.far) % 256 → f.far < 256 → r ≤ t
      go (inl s) n q k = omega (arith, s.0, s.1)
      go (inr s) n q k = omega (arith, s.0, s.1)

served : (d : Dispatcher) (w t : ℕ → Bool) (above : ℕ) (r : Turned) → Shows d w t above → Sound d → Turns d r → r.served ≡ true → Served w above r.slot
served d w t above _ x s (idling n) e = not_both false e refl
served d w t above _ x s (serving r h f) e =
    rw (← x.from)
    (record {
      is_slot = h;
      waited = sym (x.waits r h) ∙ f.here;
      first = λ u l k. found_first (waiting d.marks) d.from r s.from f u l (x.waits u l ∙ k);
      lowest = λ g u l k. found_lowest (waiting d.marks) d.from r s.from f g u l (x.waits u l ∙ k);
    })

pub in_order : InOrder
in_order es b e =
    let d = afterwards new_dispatcher es in
    served d (seen_waiting none new_dispatcher es) (seen_taken none new_dispatcher es) (seen_above 0 new_dispatcher es) (turned d)
    (shows es b) (sound_after es) (turns d) e

idle : (d : Dispatcher) (w t : ℕ → Bool) (above : ℕ) (r : Turned) → Shows d w t above → Sound d → Turns d r → r.served ≡ false →
    ((u : ℕ) → u < 256 → w u ≡ false) × (r.dispatcher ≡ d)
idle d w t above _ x s (serving r h f) e = not_both true refl e
idle d w t above _ x s (idling n) e = (λ u l. sym (x.waits u l) ∙ nobody u l, refl)
  where
    nobody : (u : ℕ) → u < 256 → waiting d.marks u ≡ false
    nobody u l = let k = distance_there d.from u s.from l in rw k.0 at (n (distance d.from u) k.1)

pub nobody_waits : NobodyWaits
nobody_waits es b e =
    let d = afterwards new_dispatcher es in
    let i = idle d (seen_waiting none new_dispatcher es) (seen_taken none new_dispatcher es) (seen_above 0 new_dispatcher es) (turned d)
    (shows es b) (sound_after es) (turns d) e in
    record { nobody = i.0; same = i.1 }

-- What a submission is answered.
answered : (d : Dispatcher) (u : ℕ) (r : Submitted) → Submits d u r → r.answer ≡ answer_for (waiting d.marks u) (marked d.marks u) d.taken
unfolding answer_for
answered d u _ (again e) = rw (mark_waits d.marks u e) refl
answered d u _ (many z l) = rw (not_waits d.marks u (λ e. omega (arith, e, z)), marked_false d.marks u z, le-leb 32 d.taken l) refl
answered d u _ (fresh z l) = rw (not_waits d.marks u (λ e. omega (arith, e, z)), marked_false d.marks u z, lt-leb 32 d.taken l) refl
answered d u _ (known n z) = rw (not_waits d.marks u n, marked_true d.marks u z) refl

pub is_answered : Answers
is_answered es slot b h =
    let d = afterwards new_dispatcher es in
    let x = shows es b in
    let n : d.taken ≡ count_below (seen_taken none new_dispatcher es) 256 =
    x.taken ∙ sym (count_same (marked d.marks) (seen_taken none new_dispatcher es) 256 (λ s l. sym (x.marks s l))) in
    rw (← x.waits slot h, ← x.marks slot h, ← n) (answered d slot (submitted d slot) (submits d slot))

-- Slots from one on are submitted.
unfoldable submissions : ℕ → ℕ → List Event
submissions zero at = []
submissions (suc k) at = submission at ∷ submissions k (at + 1)

-- 31 are reached: slot 0 was served and is submitted again after slots 1 to 31.
pub is_reached : Reached
unfolding submissions afterwards happened new_dispatcher submitted turned next_slot first_waiting waiting untaken started_in starts_in starts
is_reached =
    record {
      before = submission 0 ∷ (turn ∷ submissions 31 1);
      after = replicate 31 turn;
      slot = 0;
      is_slot = omega arith;
      taken = refl;
      passed = refl;
      others = refl;
    }
