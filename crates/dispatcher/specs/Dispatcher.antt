-- The dispatcher: each slot has at most one call waiting, and turns go by rising slot after the last one served.
use Rattle.std.specs.Prelude.{ℕ, zero, suc, ◌+◌, ◌%◌, Bool, true, false, cond, List, eqb, leb, ltb, get_or, set, replicate}
use Rattle.dispatcher.specs.declared.Dispatcher.{Dispatcher}
use Rattle.dispatcher.specs.declared.Submitted.{Submitted}
use Rattle.dispatcher.specs.declared.Turned.{Turned}

-- Every byte is a slot; 32 may be taken.
abbrev pub SLOTS : ℕ
SLOTS = 256

abbrev pub TAKEN-ROOM : ℕ
TAKEN-ROOM = 32

-- What a submission is answered: its call waits; its slot has one waiting; it would be the thirty-third slot.
abbrev pub WAITS : ℕ
WAITS = 0

abbrev pub ALREADY-WAITING : ℕ
ALREADY-WAITING = 27

abbrev pub TOO-MANY-SLOTS : ℕ
TOO-MANY-SLOTS = 28

-- The mark of a slot: never taken, taken, taken with a call waiting.
abbrev pub NEVER : ℕ
NEVER = 0

abbrev pub IDLE : ℕ
IDLE = 1

abbrev pub WAITING : ℕ
WAITING = 2

unfoldable pub waiting : List ℕ → ℕ → Bool
waiting marks slot = eqb (get_or marks slot 0) WAITING

unfoldable pub untaken : List ℕ → ℕ → Bool
untaken marks slot = eqb (get_or marks slot 0) NEVER

abbrev pub dispatches : List ℕ → ℕ → ℕ → Dispatcher
dispatches marks taken from = record { marks = marks; taken = taken; from = from }

unfoldable pub new_dispatcher : Dispatcher
new_dispatcher = dispatches (replicate SLOTS NEVER) 0 0

abbrev pub answers : ℕ → Dispatcher → Submitted
answers answer d = record { dispatcher = d; answer = answer }

-- A slot with its call waiting, where so many slots are taken.
abbrev pub waits_now : Dispatcher → ℕ → ℕ → Dispatcher
waits_now d slot taken = dispatches (set d.marks slot WAITING) taken d.from

unfoldable pub submitted : Dispatcher → ℕ → Submitted
submitted d slot =
    cond (waiting d.marks slot) (answers ALREADY-WAITING d)
    (cond (untaken d.marks slot)
    (cond (leb TAKEN-ROOM d.taken) (answers TOO-MANY-SLOTS d) (answers WAITS (waits_now d slot (d.taken + 1))))
    (answers WAITS (waits_now d slot d.taken)))

-- Of the k slots at, at + 1, .., with 0 after 255, the first that waits; SLOTS if none does.
unfoldable pub first_waiting : (ℕ → Bool) → ℕ → ℕ → ℕ
first_waiting waits zero at = SLOTS
first_waiting waits (suc k) at = cond (waits (at % SLOTS)) (at % SLOTS) (first_waiting waits k (at + 1))

unfoldable pub next_slot : Dispatcher → ℕ
next_slot d = first_waiting (waiting d.marks) SLOTS d.from

-- A turn that serves a slot: its call waits no longer, and the next turn looks after it.
abbrev pub serves : Dispatcher → ℕ → Turned
serves d slot = record { dispatcher = dispatches (set d.marks slot IDLE) d.taken (slot + 1); served = true; slot = slot }

-- One that serves nobody changes nothing.
abbrev pub serves_none : Dispatcher → Turned
serves_none d = record { dispatcher = d; served = false; slot = 0 }

unfoldable pub turned : Dispatcher → Turned
turned d = cond (ltb (next_slot d) SLOTS) (serves d (next_slot d)) (serves_none d)
