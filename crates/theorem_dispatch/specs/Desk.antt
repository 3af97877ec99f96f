-- The dispatcher with the calls that wait and the table that its turns write.
use Rattle.std.specs.Prelude.{ℕ, ◌≡◌, Bool, true, cond, ◌&&◌, List, [], ◌∷◌, ◌++◌, eqb}
use Rattle.dispatcher.specs.declared.Dispatcher.{Dispatcher}
use Rattle.dispatcher.specs.Dispatcher.{WAITS, new_dispatcher, submitted, turned}
use Rattle.theorem_dispatch.specs.Isolation.{SameWords, Run, run_slot, table_after, own_runs, Alone}

pub record Desk : Type 0 where
  pub dispatcher : Dispatcher
  -- the call that waits, by slot
  pub calls : ℕ → Run
  pub table : List ℕ

pub data Event : Type 0 where
  submits : Run → Event
  turns : Event

-- A call that is taken is kept for its turn; one that is refused is not.
unfoldable pub kept_calls : Bool → Run → (ℕ → Run) → ℕ → Run
kept_calls taken r calls slot = cond (taken && eqb slot (run_slot r)) r (calls slot)

-- The call whose turn it is runs whole, with the table as it is then.
unfoldable pub started : Desk → Event → List Run
started d (submits r) = []
started d turns = let t = turned d.dispatcher in cond t.served (d.calls t.slot ∷ []) []

unfoldable pub desk_after : Desk → Event → Desk
desk_after d (submits r) =
    let s = submitted d.dispatcher (run_slot r) in
    record { dispatcher = s.dispatcher; calls = kept_calls (eqb s.answer WAITS) r d.calls; table = d.table }
desk_after d turns =
    record { dispatcher = (turned d.dispatcher).dispatcher; calls = d.calls; table = table_after d.table (started d turns) }

unfoldable pub desk_in : Desk → List Event → Desk
desk_in d [] = d
desk_in d (e ∷ es) = desk_in (desk_after d e) es

-- The calls that a list of events starts, in their order.
unfoldable pub started_in : Desk → List Event → List Run
started_in d [] = []
started_in d (e ∷ es) = started d e ++ started_in (desk_after d e) es

-- Whatever stands where no call waits.
unfoldable pub new_desk : (ℕ → Run) → List ℕ → Desk
new_desk calls table = record { dispatcher = new_dispatcher; calls = calls; table = table }

-- After any submissions and turns, the words of a slot depend only on the table's length, those that it began with and its own calls that were
-- run, in their order, with all each got but the table; and so does what these calls returned and left.
abbrev pub DependsOnOwn : Type 0
DependsOnOwn =
    (slot : ℕ) (t u : List ℕ) (c k : ℕ → Run) (es fs : List Event) →
    SameWords slot t u →
    own_runs slot (started_in (new_desk k u) fs) ≡ own_runs slot (started_in (new_desk c t) es) →
    SameWords slot (desk_in (new_desk c t) es).table (desk_in (new_desk k u) fs).table
    × Alone slot t u (started_in (new_desk c t) es) (started_in (new_desk k u) fs)

-- What is started was submitted: it hangs neither on what stood where no call waits nor on the table,
abbrev pub OnlySubmitted : Type 0
OnlySubmitted = (t u : List ℕ) (c k : ℕ → Run) (es : List Event) → started_in (new_desk k u) es ≡ started_in (new_desk c t) es

-- and the call that a turn starts is one of the slot that it serves.
abbrev pub StartsOwn : Type 0
StartsOwn =
    (t : List ℕ) (c : ℕ → Run) (es : List Event) →
    let d = desk_in (new_desk c t) es in
    (turned d.dispatcher).served ≡ true → run_slot (d.calls (turned d.dispatcher).slot) ≡ (turned d.dispatcher).slot
