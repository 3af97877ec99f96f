-- What the dispatcher promises, of what its user has seen of it: the order of its turns, when it refuses, and that no waiting call is passed
-- over more than 31 times.
use Rattle.std.specs.Prelude.{ℕ, zero, suc, ◌+◌, ◌<◌, ◌≤◌, ◌≡◌, Bool, true, false, not, cond, ◌&&◌, ◌||◌, List, [], ◌∷◌, eqb, leb}
use Rattle.dispatcher.specs.declared.Dispatcher.{Dispatcher}
use Rattle.dispatcher.specs.Dispatcher.{SLOTS, TAKEN-ROOM, WAITS, ALREADY-WAITING, TOO-MANY-SLOTS, new_dispatcher, submitted, turned}

-- Submissions, of any slots, and turns.
pub data Event : Type 0 where
  submission : ℕ → Event
  turn : Event

unfoldable pub happened : Dispatcher → Event → Dispatcher
happened d (submission slot) = (submitted d slot).dispatcher
happened d turn = (turned d).dispatcher

unfoldable pub afterwards : Dispatcher → List Event → Dispatcher
afterwards d [] = d
afterwards d (e ∷ es) = afterwards (happened d e) es

unfoldable pub Bytes : List Event → Type 0
Bytes [] = Unit {0}
Bytes (submission s ∷ es) = (s < SLOTS) × Bytes es
Bytes (turn ∷ es) = Bytes es

-- A submission that is not refused takes its slot, and a turn that serves starts one's call.
unfoldable pub takes : ℕ → Dispatcher → Event → Bool
takes slot d (submission s) = eqb s slot && eqb (submitted d s).answer WAITS
takes slot d turn = false

unfoldable pub starts : ℕ → Dispatcher → Event → Bool
starts slot d (submission s) = false
starts slot d turn = (turned d).served && eqb (turned d).slot slot

-- Whether a slot has a call waiting: from the submission that takes it to its start.
unfoldable pub seen_waiting : (ℕ → Bool) → Dispatcher → List Event → ℕ → Bool
seen_waiting was d [] slot = was slot
seen_waiting was d (e ∷ es) slot = seen_waiting (λ s. (was s || takes s d e) && not (starts s d e)) (happened d e) es slot

-- Whether it was ever taken.
unfoldable pub seen_taken : (ℕ → Bool) → Dispatcher → List Event → ℕ → Bool
seen_taken was d [] slot = was slot
seen_taken was d (e ∷ es) slot = seen_taken (λ s. was s || takes s d e) (happened d e) es slot

-- The slot above the one served last; 0 if none was.
unfoldable pub above_after : ℕ → Dispatcher → Event → ℕ
above_after was d (submission s) = was
above_after was d turn = cond (turned d).served ((turned d).slot + 1) was

unfoldable pub seen_above : ℕ → Dispatcher → List Event → ℕ
seen_above was d [] = was
seen_above was d (e ∷ es) = seen_above (above_after was d e) (happened d e) es

unfoldable pub none : ℕ → Bool
none slot = false

-- The slot that a turn serves waits. Waiting slots above the one served last come first, the lowest of them before all others; where there
-- is none of these, the lowest that waits.
pub record Served (waits : ℕ → Bool) (above slot : ℕ) : Type 0 where
  pub is_slot : slot < SLOTS
  pub waited : waits slot ≡ true
  pub first : (t : ℕ) → t < SLOTS → waits t ≡ true → above ≤ t → (above ≤ slot) × (slot ≤ t)
  pub lowest : slot < above → (t : ℕ) → t < SLOTS → waits t ≡ true → slot ≤ t

abbrev pub InOrder : Type 0
InOrder =
    (es : List Event) → Bytes es →
    let d = afterwards new_dispatcher es in
    (turned d).served ≡ true →
    Served (seen_waiting none new_dispatcher es) (seen_above 0 new_dispatcher es) (turned d).slot

-- A turn serves nobody only where none waits, and then nothing changes.
pub record Idle (waits : ℕ → Bool) (d : Dispatcher) : Type 0 where
  pub nobody : (t : ℕ) → t < SLOTS → waits t ≡ false
  pub same : (turned d).dispatcher ≡ d

abbrev pub NobodyWaits : Type 0
NobodyWaits =
    (es : List Event) → Bytes es →
    let d = afterwards new_dispatcher es in
    (turned d).served ≡ false → Idle (seen_waiting none new_dispatcher es) d

unfoldable pub count_below : (ℕ → Bool) → ℕ → ℕ
count_below p zero = 0
count_below p (suc n) = cond (p n) (suc (count_below p n)) (count_below p n)

-- 27: it waits. 28: it was never taken, and 32 others were. Else its call is taken.
unfoldable pub answer_for : Bool → Bool → ℕ → ℕ
answer_for waits taken others = cond waits ALREADY-WAITING (cond taken WAITS (cond (leb TAKEN-ROOM others) TOO-MANY-SLOTS WAITS))

abbrev pub Answers : Type 0
Answers =
    (es : List Event) (slot : ℕ) → Bytes es → slot < SLOTS →
    (submitted (afterwards new_dispatcher es) slot).answer
    ≡ answer_for (seen_waiting none new_dispatcher es slot) (seen_taken none new_dispatcher es slot)
    (count_below (seen_taken none new_dispatcher es) SLOTS)

unfoldable pub started_in : ℕ → Dispatcher → List Event → Bool
started_in slot d [] = false
started_in slot d (e ∷ es) = starts slot d e || started_in slot (happened d e) es

unfoldable pub turns_in : List Event → ℕ
turns_in [] = 0
turns_in (submission s ∷ es) = turns_in es
turns_in (turn ∷ es) = suc (turns_in es)

-- From a new dispatcher, whatever came before: after a submission that is taken, and whatever comes, as long as its call is not
-- started there were at most 31 turns. So it is started at the thirty-second at the latest, after at most 31 others.
abbrev pub Fair : Type 0
Fair =
    (before after : List Event) (slot : ℕ) → slot < SLOTS →
    let d = afterwards new_dispatcher before in
    (submitted d slot).answer ≡ WAITS →
    started_in slot (submitted d slot).dispatcher after ≡ false → turns_in after ≤ 31

-- How many calls are started.
unfoldable pub starts_in : Dispatcher → List Event → ℕ
starts_in d [] = 0
starts_in d (submission s ∷ es) = starts_in (submitted d s).dispatcher es
starts_in d (turn ∷ es) = cond (turned d).served (suc (starts_in (turned d).dispatcher es)) (starts_in (turned d).dispatcher es)

-- 31 others are reached.
pub record Reached : Type 0 where
  pub before : List Event
  pub after : List Event
  pub slot : ℕ
  pub is_slot : slot < SLOTS
  pub taken : (submitted (afterwards new_dispatcher before) slot).answer ≡ WAITS
  pub passed : started_in slot (submitted (afterwards new_dispatcher before) slot).dispatcher after ≡ false
  pub others : starts_in (submitted (afterwards new_dispatcher before) slot).dispatcher after ≡ 31
