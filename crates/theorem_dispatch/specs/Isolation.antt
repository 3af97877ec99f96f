-- Many slots, one table: what a call reads and writes of it, and what the calls of other slots leave of a slot.
use Rattle.std.specs.Prelude.{ℕ, ◌<◌, ◌≡◌, cond, List, [], ◌∷◌, eqb, length}
use Rattle.transfer.specs.Routes.{route_of}
use Rattle.device.specs.declared.record.Device.{Device}
use Rattle.device.specs.Left.{Left}
use Rattle.theorem_slot.specs.Call.{Call, left}
use Rattle.theorem_slot.specs.Theorem.{slot_of}

-- Two tables that a slot cannot tell apart: as long, and with the same 32 words of it.
pub record SameWords (slot : ℕ) (t u : List ℕ) : Type 0 where
  pub long : length u ≡ length t
  pub own : (d : ℕ) → d < 32 → route_of u slot d ≡ route_of t slot d

-- All that a call returns and leaves, but the words of other slots.
pub record SameLeft (slot : ℕ) (l m : Left) : Type 0 where
  pub device : m.device ≡ l.device
  pub answer : m.answer ≡ l.answer
  pub count : m.count ≡ l.count
  pub ctx : m.ctx ≡ l.ctx
  pub log : m.log ≡ l.log
  pub routes : SameWords slot l.routes m.routes

-- Of the table a call reads its length and its slot's words only.
abbrev pub Local : Type 0
Local =
    (c : Call) (d : Device) (t u : List ℕ) →
    let slot = slot_of c.asked d in
    SameWords slot t u → SameLeft slot (left c.asked c.buffers d t) (left c.asked c.buffers d u)

-- A call that is run, with all that it gets but the table.
pub record Run : Type 0 where
  pub call : Call
  pub device : Device

unfoldable pub run_slot : Run → ℕ
run_slot r = slot_of r.call.asked r.device

unfoldable pub ran : Run → List ℕ → Left
ran r table = left r.call.asked r.call.buffers r.device table

-- The table after some calls, each run whole with the table that the one before left.
unfoldable pub table_after : List ℕ → List Run → List ℕ
table_after table [] = table
table_after table (r ∷ rs) = table_after (ran r table).routes rs

-- The calls of a slot among them, and what these return and leave.
unfoldable pub own_runs : ℕ → List Run → List Run
own_runs slot [] = []
own_runs slot (r ∷ rs) = cond (eqb (run_slot r) slot) (r ∷ own_runs slot rs) (own_runs slot rs)

unfoldable pub own_lefts : ℕ → List ℕ → List Run → List Left
own_lefts slot table [] = []
own_lefts slot table (r ∷ rs) =
    let l = ran r table in
    cond (eqb (run_slot r) slot) (l ∷ own_lefts slot l.routes rs) (own_lefts slot l.routes rs)

unfoldable pub SameLefts : ℕ → List Left → List Left → Type 0
SameLefts slot [] [] = Unit {0}
SameLefts slot [] (m ∷ ms) = ⊥
SameLefts slot (l ∷ ls) [] = ⊥
SameLefts slot (l ∷ ls) (m ∷ ms) = SameLeft slot l m × SameLefts slot ls ms

-- Two runs of calls of whatever slots, over tables that a slot cannot tell apart, among which its own calls are the same, in their order, with
-- all they got: its words are the same afterwards, and its calls have returned and left the same.
pub record Alone (slot : ℕ) (t u : List ℕ) (rs qs : List Run) : Type 0 where
  pub words : SameWords slot (table_after t rs) (table_after u qs)
  pub lefts : SameLefts slot (own_lefts slot t rs) (own_lefts slot u qs)

abbrev pub Isolated : Type 0
Isolated =
    (slot : ℕ) (t u : List ℕ) (rs qs : List Run) →
    SameWords slot t u → own_runs slot qs ≡ own_runs slot rs → Alone slot t u rs qs
