-- A slot's own calls in a run of many, as turns on it.
use Rattle.std.proofs.Common.{ℕ, ◌≡◌, Bool, true, false, List, [], ◌∷◌}
use mathlib.Core.Path.{refl, sym, ◌∙◌, ap}
use Rattle.course_init.specs.Reading.{BringUp}
use Rattle.device_bring_up.specs.BringUp.{bring_up}
use Rattle.device.specs.declared.record.Device.{Device}
use Rattle.theorem_slot.specs.Call.{Buffers, Asked, brings_up, claims, commits, releases, configures, updates_hub, disconnects, left}
use Rattle.theorem_slot.specs.Answers.{is_bring_up}
use Rattle.theorem_slot.specs.Theorem.{State, Turn, called, after, Between, Turns, start, Kept, is_outside, AfterBringUp}
use Rattle.theorem_slot.proofs.Outside.{others_between}
use Rattle.theorem_slot.proofs.Demand3.{demand_three}
use Rattle.theorem_device_state.proofs.Told.{device_told_lem}
use Rattle.theorem_dispatch.specs.Isolation.{Run, run_slot, ran, table_after}
use Rattle.theorem_dispatch.specs.Desk.{Desk, Event, desk_in}
use Rattle.theorem_dispatch.specs.Turns.{turn_of, no_more, another, own, Carried, CarriedOver, brings, brought_on, BroughtUp, InDesk, Demand3InDesk, DeviceToldInDesk}
use Rattle.theorem_dispatch.proofs.Desk.{table_in, table_both}

pub between_same : (slot : ℕ) (still : ℕ → Bool) (t : List ℕ) → Between slot still t t
between_same slot still t = record { long = refl; own = λ d h. refl; others = λ k e. refl }

between_on : (slot : ℕ) (still : ℕ → Bool) (t u v : List ℕ) → Between slot still t u → Between slot still u v → Between slot still t v
between_on slot still t u v a b =
    record { long = b.long ∙ a.long; own = λ d h. b.own d h ∙ a.own d h; others = λ k e. b.others k e ∙ a.others k e }

-- A call of another slot.
another_between : (slot : ℕ) (still : ℕ → Bool) (r : Run) (t : List ℕ) → (run_slot r ≡ slot → ⊥) →
    ((k : ℕ) → still k ≡ true → is_outside (run_slot r) k ≡ true) → Between slot still t (ran r t).routes
unfolding run_slot ran
another_between slot still r t n o =
    let b = others_between r.call r.device t slot n in
    record { long = b.long; own = b.own; others = λ k e. b.others k (o k e) }

-- A call of the slot, on the record that was handed on.
same_left : (asked : Asked) (b : Buffers) (d e : Device) (t : List ℕ) → (is_bring_up asked ≡ false → d ≡ e) → left asked b d t ≡ left asked b e t
unfolding left is_bring_up
same_left (brings_up a) b d e t h = refl
same_left (claims i a) b d e t h = rw (h refl) refl
same_left (commits p) b d e t h = rw (h refl) refl
same_left (releases i) b d e t h = rw (h refl) refl
same_left (configures value) b d e t h = rw (h refl) refl
same_left (updates_hub ports multi ns) b d e t h = rw (h refl) refl
same_left disconnects b d e t h = rw (h refl) refl

own_between : (slot : ℕ) (still : ℕ → Bool) (s : State) (r : Run) (t : List ℕ) (keeps : Bool) →
    (is_bring_up r.call.asked ≡ false → r.device ≡ s.device) → Between slot still (called s (turn_of r t keeps)).routes (ran r t).routes
unfolding called ran
own_between slot still s r t keeps h =
    let e = same_left r.call.asked r.call.buffers r.device s.device t h in
    rw e (between_same slot still (left r.call.asked r.call.buffers s.device t).routes)

pub carried_over : CarriedOver
unfolding Turns after table_after
carried_over slot still s table [] [] b no_more = record { turns = tt; words = b }
carried_over slot still s table [] (_ ∷ ts) b h = elim h [ ]
carried_over slot still s table (r ∷ rs) ts b (another n o h) =
    let c =
    carried_over slot still s (ran r table).routes rs ts
    (between_on slot still s.routes table (ran r table).routes b (another_between slot still r table n o)) h in
    record { turns = c.turns; words = c.words }
carried_over slot still s table (r ∷ rs) (_ ∷ ts) b (own keeps e o d h) =
    let c = carried_over slot still (called s (turn_of r table keeps)) (ran r table).routes rs ts (own_between slot still s r table keeps d) h in
    record { turns = (o, (b, c.turns)); words = c.words }

-- The dispatcher's table is the one that the calls after the bring-up leave.
brought_table : (d : Desk) (es : List Event) (b : BringUp) (l : Buffers) (still : ℕ → Bool) (ts : List Turn) (u : BroughtUp d es b l still ts) →
    (desk_in d es).table ≡ table_after (brought_on b l u.table).routes u.rest
unfolding table_after ran left start bring_up
brought_table d es b l still ts u =
    table_in d es
    ∙ ap (table_after d.table) u.started
    ∙ table_both d.table u.before (brings b l u.given ∷ u.rest)
    ∙ ap (λ t. table_after t (brings b l u.given ∷ u.rest)) (sym u.table_is)

carried_in : (d : Desk) (es : List Event) (b : BringUp) (l : Buffers) (still : ℕ → Bool) (ts : List Turn) (u : BroughtUp d es b l still ts) →
    Carried b.slot still (brought_on b l u.table) (brought_on b l u.table).routes u.rest ts
carried_in d es b l still ts u =
    carried_over b.slot still (brought_on b l u.table) (brought_on b l u.table).routes u.rest ts
    (between_same b.slot still (brought_on b l u.table).routes) u.handed_on

pub each_in_desk : (P : ℕ → (ℕ → Bool) → List ℕ → State → Type 0) → AfterBringUp P → InDesk P
each_in_desk P p d es b l still ts u =
    let c = carried_in d es b l still ts u in
    (p b l u.table still ts u.empty u.accepted c.turns, rw (brought_table d es b l still ts u) c.words)

pub demand3_in_desk : Demand3InDesk
demand3_in_desk = each_in_desk Kept demand_three

pub told_in_desk : DeviceToldInDesk
told_in_desk d es b l still ts u =
    let c = carried_in d es b l still ts u in
    device_told_lem b l u.table still ts u.empty u.accepted c.turns
