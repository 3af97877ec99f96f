-- While a call waits, the taken slots that lie between the place where the next turn looks and its own slot become fewer with each turn, and
-- more only by a slot that is newly taken; so with the turns that there were, and its own, they are never more than the slots taken.
use Prim.Native.Nat.{ℕ, suc, ◌+◌, ◌-◌, ◌*◌, ◌%◌, ◌<◌, ◌≤◌}
use mathlib.Core.Path.{◌≡◌, refl, sym, ◌∙◌}
use mathlib.Core.Logic.{◌⊎◌, inl, inr}
use mathlib.Core.Bool.{Bool, true, false, ◌&&◌}
use mathlib.Core.List.{List, [], ◌∷◌}
use native.Mathlib.Omega.{arith}
use native.Mathlib.Decide.{dec_lt, ℕ_discrete}
use lib.Dec.{eqb, ltb}
use lib.ListN.{length, get_or, set, length-set}
use lib.Seq.{get_or-set_same, get_or-set_other}
use borrow.Author.Tests.{eq-eqb, lt-ltb, ltb-true}
use Rattle.laws.proofs.Cases.{false_if, or_none}
use Rattle.laws.proofs.Tests.{and_left, and_right, and-true, not_both}
use Rattle.dispatcher.specs.declared.Dispatcher.{Dispatcher}
use Rattle.dispatcher.specs.declared.Submitted.{Submitted}
use Rattle.dispatcher.specs.declared.Turned.{Turned}
use Rattle.dispatcher.specs.Dispatcher.{WAITS, waiting, untaken, new_dispatcher, waits_now, submitted, serves, turned}
use Rattle.dispatcher.specs.Promises.{Event, submission, turn, happened, afterwards, starts, started_in, turns_in, count_below, Fair}
use Rattle.dispatcher.proofs.Count.{count_le, count_lt, count_one}
use Rattle.dispatcher.proofs.First.{FirstAt, distance, far_from, distance_there}
use Rattle.dispatcher.proofs.Found.{Submits, again, many, fresh, known, submits, Turns, serving, idling, turns}
use Rattle.dispatcher.proofs.Marks.{marked, waits_mark, mark_waits, marked_true, marked_else, marked_known}

-- One slot lies ahead of another.
unfoldable ahead : ℕ → ℕ → ℕ → Bool
ahead at slot t = ltb (distance at t) (distance at slot)

unfoldable is_between : List ℕ → ℕ → ℕ → ℕ → Bool
is_between marks at slot t = marked marks t && ahead at slot t

-- What holds from a new dispatcher on.
pub record Sound (d : Dispatcher) : Type 0 where
  pub long : length d.marks ≡ 256
  pub from : d.from ≤ 256
  pub counted : count_below (marked d.marks) 256 ≤ d.taken
  pub few : d.taken ≤ 32

-- What holds while a slot's call waits, after n turns.
record Pending (slot n : ℕ) (d : Dispatcher) : Type 0 where
  sound : Sound d
  is_slot : slot < 256
  waits : get_or d.marks slot 0 ≡ 2
  fits : n + count_below (is_between d.marks d.from slot) 256 + 1 ≤ d.taken

-- Between, where one more mark is set.
module _ (marks : List ℕ) (at slot u m t : ℕ) where
  between_set : (t ≡ u → ⊥) → is_between (set marks u m) at slot t ≡ true → is_between marks at slot t ≡ true
  unfolding is_between
  between_set g e =
      and-true (marked marks t) (ahead at slot t) (sym (marked_else marks u m t g) ∙ and_left (marked (set marks u m) t) (ahead at slot t) e)
      (and_right (marked (set marks u m) t) (ahead at slot t) e)

  between_known : marked marks u ≡ true → is_between (set marks u m) at slot t ≡ true → is_between marks at slot t ≡ true
  unfolding is_between
  between_known k e =
      and-true (marked marks t) (ahead at slot t) (marked_known marks u m t k (and_left (marked (set marks u m) t) (ahead at slot t) e))
      (and_right (marked (set marks u m) t) (ahead at slot t) e)

-- How many are taken, and how many lie between, where a mark is set.
module _ (marks : List ℕ) (u m : ℕ) where
  marks_more : count_below (marked (set marks u m)) 256 ≤ suc (count_below (marked marks) 256)
  marks_more = count_one _ _ 256 u (λ t h g q. sym (marked_else marks u m t g) ∙ q)

  marks_same : marked marks u ≡ true → count_below (marked (set marks u m)) 256 ≤ count_below (marked marks) 256
  marks_same k = count_le _ _ 256 (λ t h q. marked_known marks u m t k q)

  between_more : (at slot : ℕ) → count_below (is_between (set marks u m) at slot) 256 ≤ suc (count_below (is_between marks at slot) 256)
  between_more at slot = count_one _ _ 256 u (λ t h g q. between_set marks at slot u m t g q)

  between_same : (at slot : ℕ) → marked marks u ≡ true →
      count_below (is_between (set marks u m) at slot) 256 ≤ count_below (is_between marks at slot) 256
  between_same at slot k = count_le _ _ 256 (λ t h q. between_known marks at slot u m t k q)

-- A submission.
sound_submitted : (d : Dispatcher) (u : ℕ) (r : Submitted) → Sound d → Submits d u r → Sound r.dispatcher
sound_submitted d u _ s (again e) = s
sound_submitted d u _ s (many z l) = s
sound_submitted d u _ s (fresh z l) =
    record {
      long = length-set d.marks u 2 ∙ s.long;
      from = s.from;
      counted = let m = marks_more d.marks u 2 in let k = s.counted in omega arith;
      few = omega arith;
    }
sound_submitted d u _ s (known n z) =
    record {
      long = length-set d.marks u 2 ∙ s.long;
      from = s.from;
      counted = let m = marks_same d.marks u 2 (marked_true d.marks u z) in let k = s.counted in omega arith;
      few = s.few;
    }

-- A slot that waits still does.
waits_set : (marks : List ℕ) (u slot : ℕ) → length marks ≡ 256 → slot < 256 → get_or marks slot 0 ≡ 2 → get_or (set marks u 2) slot 0 ≡ 2
waits_set marks u slot l h e = go (ℕ_discrete slot u)
  where
    go : Dec (slot ≡ u) → get_or (set marks u 2) slot 0 ≡ 2
    go (yes s) = rw (← s) (get_or-set_same marks slot 2 0 (omega arith))
    go (no s) = get_or-set_other marks u slot 2 0 s ∙ e

pending_submitted : (slot n : ℕ) (d : Dispatcher) (u : ℕ) (r : Submitted) → Pending slot n d → Submits d u r → Pending slot n r.dispatcher
pending_submitted slot n d u _ p (again e) = p
pending_submitted slot n d u _ p (many z l) = p
pending_submitted slot n d u _ p (fresh z l) =
    record {
      sound = sound_submitted d u _ p.sound (fresh z l);
      is_slot = p.is_slot;
      waits = waits_set d.marks u slot p.sound.long p.is_slot p.waits;
      fits = let m = between_more d.marks u 2 d.from slot in let k = p.fits in omega arith;
    }
pending_submitted slot n d u _ p (known w z) =
    record {
      sound = sound_submitted d u _ p.sound (known w z);
      is_slot = p.is_slot;
      waits = waits_set d.marks u slot p.sound.long p.is_slot p.waits;
      fits = let m = between_same d.marks u 2 d.from slot (marked_true d.marks u z) in let k = p.fits in omega arith;
    }

-- How far a slot lies, as an equation.
record Rotated (at slot : ℕ) : Type 0 where
  round : ℕ
  once : round ≤ 1
  there : at + distance at slot ≡ slot + 256 * round
  near : distance at slot < 256

rotated : (at slot : ℕ) → at ≤ 256 → slot < 256 → Rotated at slot
rotated at slot h g = go (far_from at slot h g)
  where
    go : ((at ≤ slot) × (distance at slot ≡ slot - at)) ⊎ ((slot < at) × (distance at slot ≡ 256 + slot - at)) → Rotated at slot
    go (inl e) = record { round = 0; once = omega arith; there = omega (arith, e.0, e.1); near = omega (arith, e.0, e.1) }
    go (inr e) = record { round = 1; once = omega arith; there = omega (arith, e.0, e.1); near = omega (arith, e.0, e.1) }

-- Past a slot that lies ahead of another, what lies ahead of that one did so before.
beyond : (at r x : ℕ) → at ≤ 256 → r < 256 → x < 256 → distance at r < distance at x → distance (r + 1) x + distance at r + 1 ≡ distance at x
beyond at r x h hr hx e =
    let a = rotated at r h hr in
    let b = rotated at x h hx in
    let k = rotated (r + 1) x (omega arith) hx in
    omega arith

arc : (at r slot t : ℕ) → at ≤ 256 → r < 256 → slot < 256 → t < 256 → distance at r < distance at slot →
    distance (r + 1) t < distance (r + 1) slot → distance at t < distance at slot
arc at r slot t h hr hs ht e g = go (dec_lt (distance at r) (distance at t))
  where
    go : Dec (distance at r < distance at t) → distance at t < distance at slot
    go (yes l) = omega (arith, beyond at r slot h hr hs e, beyond at r t h hr ht l)
    go (no l) = omega (arith, l)

itself : (r slot : ℕ) → r < 256 → slot < 256 → (distance (r + 1) r < distance (r + 1) slot → ⊥)
itself r slot hr hs g =
    let k = rotated (r + 1) slot (omega arith) hs in
    let l = rotated (r + 1) r (omega arith) hr in
    omega arith

-- What a turn finds, where a slot waits and is not the one, lies ahead of it.
nearer : (d : Dispatcher) (slot r : ℕ) → d.from ≤ 256 → slot < 256 → get_or d.marks slot 0 ≡ 2 → r < 256 →
    FirstAt (waiting d.marks) 256 d.from r → (r ≡ slot → ⊥) → distance d.from r < distance d.from slot
nearer d slot r h s e low f other =
    go (dec_lt (distance d.from r) (distance d.from slot)) (ℕ_discrete (distance d.from r) (distance d.from slot))
  where
    a : Rotated d.from r
    a = rotated d.from r h low

    b : Rotated d.from slot
    b = rotated d.from slot h s

    there : ((d.from + distance d.from slot) % 256 ≡ slot) × (distance d.from slot < 256)
    there = distance_there d.from slot h s

    far : f.far ≡ distance d.from r
    far = omega (arith, f.place, f.near, a.once, a.there, a.near)

    go : Dec (distance d.from r < distance d.from slot) → Dec (distance d.from r ≡ distance d.from slot) → distance d.from r < distance d.from slot
    go (yes l) q = l
    go (no l) (yes q) = absurd (other (omega (arith, q, a.once, a.there, a.near, b.once, b.there, b.near)))
    go (no l) (no q) =
        not_both (waiting d.marks ((d.from + distance d.from slot) % 256)) (rw there.0 (mark_waits d.marks slot e))
        (f.none (distance d.from slot) (omega (arith, far, q, l)))

between_true : (marks : List ℕ) (at slot t : ℕ) → marked marks t ≡ true → distance at t < distance at slot → is_between marks at slot t ≡ true
unfolding is_between ahead
between_true marks at slot t e h = and-true (marked marks t) (ltb (distance at t) (distance at slot)) e (lt-ltb (distance at t) (distance at slot) h)

ahead_less : (marks : List ℕ) (at slot t : ℕ) → is_between marks at slot t ≡ true → distance at t < distance at slot
unfolding is_between ahead
ahead_less marks at slot t e = ltb-true _ _ (and_right (marked marks t) (ltb (distance at t) (distance at slot)) e)

is_marked : (marks : List ℕ) (at slot t : ℕ) → is_between marks at slot t ≡ true → marked marks t ≡ true
unfolding is_between
is_marked marks at slot t e = and_left (marked marks t) (ahead at slot t) e

not_between : (marks : List ℕ) (r slot : ℕ) → r < 256 → slot < 256 → is_between marks (r + 1) slot r ≡ false
not_between marks r slot h g = false_if _ (λ e. itself r slot h g (ahead_less marks (r + 1) slot r e))

between_turned : (marks : List ℕ) (at slot r t : ℕ) → at ≤ 256 → r < 256 → slot < 256 → t < 256 → marked marks r ≡ true →
    distance at r < distance at slot → is_between (set marks r 1) (r + 1) slot t ≡ true → is_between marks at slot t ≡ true
between_turned marks at slot r t h hr hs ht m e q =
    between_true marks at slot t (marked_known marks r 1 t m (is_marked (set marks r 1) (r + 1) slot t q))
    (arc at r slot t h hr hs ht e (ahead_less (set marks r 1) (r + 1) slot t q))

-- A turn.
found_marked : (d : Dispatcher) (r : ℕ) → FirstAt (waiting d.marks) 256 d.from r → marked d.marks r ≡ true
found_marked d r f = marked_true d.marks r (λ z. omega (arith, waits_mark d.marks r f.here))

sound_turned : (d : Dispatcher) (r : Turned) → Sound d → Turns d r → Sound r.dispatcher
sound_turned d _ s (idling n) = s
sound_turned d _ s (serving r h f) =
    record {
      long = length-set d.marks r 1 ∙ s.long;
      from = omega arith;
      counted = let m = marks_same d.marks r 1 (found_marked d r f) in let k = s.counted in omega arith;
      few = s.few;
    }

pending_served : (slot n : ℕ) (d : Dispatcher) (r : ℕ) → Pending slot n d → r < 256 → FirstAt (waiting d.marks) 256 d.from r →
    (r ≡ slot → ⊥) → Pending slot (suc n) (serves d r).dispatcher
pending_served slot n d r p h f other =
    record {
      sound = sound_turned d _ p.sound (serving r h f);
      is_slot = p.is_slot;
      waits = get_or-set_other d.marks r slot 1 0 (λ e. other (sym e)) ∙ p.waits;
      fits =
          let l = nearer d slot r p.sound.from p.is_slot p.waits h f other in
          let w = found_marked d r f in
          let m : suc (count_below (is_between (set d.marks r 1) (r + 1) slot) 256) ≤ count_below (is_between d.marks d.from slot) 256 =
          count_lt _ _ 256 r h (not_between (set d.marks r 1) r slot h p.is_slot) (between_true d.marks d.from slot r w l)
          (λ t k q. between_turned d.marks d.from slot r t p.sound.from h p.is_slot k w l q) in
          let k = p.fits in
          omega arith;
    }

-- A slot that waits is served or passed over.
pending_turned : (slot n : ℕ) (d : Dispatcher) (r : Turned) → Pending slot n d → Turns d r → (r.served && eqb r.slot slot) ≡ false →
    Pending slot (suc n) r.dispatcher
pending_turned slot n d _ p (idling none) e =
    let t = distance_there d.from slot p.sound.from p.is_slot in
    not_both (waiting d.marks ((d.from + distance d.from slot) % 256)) (rw t.0 (mark_waits d.marks slot p.waits)) (none (distance d.from slot) t.1)
pending_turned slot n d _ p (serving r h f) e = pending_served slot n d r p h f (λ q. not_both (eqb r slot) (eq-eqb r slot q) e)

-- Over events.
pending_happened : (slot n : ℕ) (d : Dispatcher) (u : ℕ) → Pending slot n d → Pending slot n (happened d (submission u))
unfolding happened
pending_happened slot n d u p = pending_submitted slot n d u (submitted d u) p (submits d u)

turned_happened : (slot n : ℕ) (d : Dispatcher) → Pending slot n d → starts slot d turn ≡ false → Pending slot (suc n) (happened d turn)
unfolding happened starts
turned_happened slot n d p e = pending_turned slot n d (turned d) p (turns d) e

pending_after : (slot n : ℕ) (d : Dispatcher) (es : List Event) → Pending slot n d → started_in slot d es ≡ false → turns_in es + n ≤ 31
unfolding started_in turns_in
pending_after slot n d [] p e = let a = p.fits in let b = p.sound.few in omega arith
pending_after slot n d (submission u ∷ es) p e =
    pending_after slot n (happened d (submission u)) es (pending_happened slot n d u p)
    (or_none (starts slot d (submission u)) (started_in slot (happened d (submission u)) es) e).1
pending_after slot n d (turn ∷ es) p e =
    let o = or_none (starts slot d turn) (started_in slot (happened d turn) es) e in
    omega (arith, pending_after slot (suc n) (happened d turn) es (turned_happened slot n d p o.0) o.1)

-- From a new dispatcher.
sound_happened : (d : Dispatcher) (e : Event) → Sound d → Sound (happened d e)
unfolding happened
sound_happened d (submission u) s = sound_submitted d u (submitted d u) s (submits d u)
sound_happened d turn s = sound_turned d (turned d) s (turns d)

sound_on : (d : Dispatcher) (es : List Event) → Sound d → Sound (afterwards d es)
unfolding afterwards
sound_on d [] s = s
sound_on d (e ∷ es) s = sound_on (happened d e) es (sound_happened d e s)

sound_new : Sound new_dispatcher
unfolding new_dispatcher count_below marked untaken
sound_new = record { long = refl; from = omega arith; counted = omega arith; few = omega arith }

pub sound_after : (es : List Event) → Sound (afterwards new_dispatcher es)
sound_after es = sound_on new_dispatcher es sound_new

-- A submission that is taken waits.
pending_marked : (d : Dispatcher) (slot : ℕ) → Sound d → slot < 256 → get_or d.marks slot 0 ≡ 2 → Pending slot 0 d
pending_marked d slot s h w =
    let l : suc (count_below (is_between d.marks d.from slot) 256) ≤ count_below (marked d.marks) 256 =
    count_lt _ _ 256 slot h (false_if _ (λ q. let k = ahead_less d.marks d.from slot slot q in omega arith))
    (marked_true d.marks slot (λ z. omega arith)) (λ t g q. is_marked d.marks d.from slot t q) in
    let k = s.counted in
    record { sound = s; is_slot = h; waits = w; fits = omega arith }

pending_new : (d : Dispatcher) (slot : ℕ) (r : Submitted) → Sound d → slot < 256 → Submits d slot r → r.answer ≡ WAITS → Pending slot 0 r.dispatcher
pending_new d slot _ s h (again e) w = absurd (omega (arith, w))
pending_new d slot _ s h (many z l) w = absurd (omega (arith, w))
pending_new d slot _ s h (fresh z l) w =
    let n = s.long in
    pending_marked (waits_now d slot (d.taken + 1)) slot (sound_submitted d slot _ s (fresh z l)) h (get_or-set_same d.marks slot 2 0 (omega arith))
pending_new d slot _ s h (known m z) w =
    let n = s.long in
    pending_marked (waits_now d slot d.taken) slot (sound_submitted d slot _ s (known m z)) h (get_or-set_same d.marks slot 2 0 (omega arith))

pub is_fair : Fair
is_fair before after slot h w e =
    let d = afterwards new_dispatcher before in
    let p = pending_new d slot (submitted d slot) (sound_after before) h (submits d slot) w in
    omega (arith, pending_after slot 0 (submitted d slot).dispatcher after p e)
