-- What a submission makes, and what a turn finds, by cases.
use Prim.Native.Nat.{ℕ, ◌+◌, ◌<◌, ◌≤◌}
use mathlib.Core.Path.{◌≡◌, refl}
use mathlib.Core.Logic.{inl, inr}
use native.Mathlib.Omega.{arith}
use native.Mathlib.Decide.{ℕ_discrete, dec_lt}
use lib.ListN.{get_or}
use Rattle.dispatcher.specs.declared.Dispatcher.{Dispatcher}
use Rattle.dispatcher.specs.declared.Submitted.{Submitted}
use Rattle.dispatcher.specs.declared.Turned.{Turned}
use Rattle.dispatcher.specs.Dispatcher.{WAITS, ALREADY-WAITING, TOO-MANY-SLOTS, waiting, answers, waits_now, submitted, next_slot, serves, serves_none, turned}
use Rattle.dispatcher.proofs.First.{NoneOf, FirstAt, Sought, next_found}
use Rattle.dispatcher.proofs.Laws.{submit_again, submit_many, submit_new, submit_known, turn_slot, turn_nobody}

pub data Submits (d : Dispatcher) (slot : ℕ) : Submitted → Type 0 where
  again : get_or d.marks slot 0 ≡ 2 → Submits d slot (answers ALREADY-WAITING d)
  many : get_or d.marks slot 0 ≡ 0 → 32 ≤ d.taken → Submits d slot (answers TOO-MANY-SLOTS d)
  fresh : get_or d.marks slot 0 ≡ 0 → d.taken < 32 → Submits d slot (answers WAITS (waits_now d slot (d.taken + 1)))
  known : (get_or d.marks slot 0 ≡ 2 → ⊥) → (get_or d.marks slot 0 ≡ 0 → ⊥) → Submits d slot (answers WAITS (waits_now d slot d.taken))

pub submits : (d : Dispatcher) (slot : ℕ) → Submits d slot (submitted d slot)
submits d slot = go (ℕ_discrete (get_or d.marks slot 0) 2) (ℕ_discrete (get_or d.marks slot 0) 0) (dec_lt d.taken 32)
  where
    go : Dec (get_or d.marks slot 0 ≡ 2) → Dec (get_or d.marks slot 0 ≡ 0) → Dec (d.taken < 32) → Submits d slot (submitted d slot)
    go (yes e) z t = rw (submit_again d slot e) (again e)
    go (no n) (yes z) (yes t) = rw (submit_new d slot z t) (fresh z t)
    go (no n) (yes z) (no t) = let h : 32 ≤ d.taken = omega (arith, t) in rw (submit_many d slot z h) (many z h)
    go (no n) (no z) t = rw (submit_known d slot n z) (known n z)

pub data Turns (d : Dispatcher) : Turned → Type 0 where
  serving : (r : ℕ) → r < 256 → FirstAt (waiting d.marks) 256 d.from r → Turns d (serves d r)
  idling : NoneOf (waiting d.marks) 256 d.from → Turns d (serves_none d)

pub turns : (d : Dispatcher) → Turns d (turned d)
turns d = go (next_found d)
  where
    go : Sought (waiting d.marks) 256 d.from (next_slot d) → Turns d (turned d)
    go (inl n) = rw (← turn_nobody d (next_slot d) refl (omega (arith, n.0))) (idling n.1)
    go (inr f) =
        let h : next_slot d < 256 = let p = f.place in omega arith in
        rw (← turn_slot d (next_slot d) refl h) (serving (next_slot d) h f)
