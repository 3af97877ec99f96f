-- The given rings over lists of calls: in three groups that the plain slot works out from the calls alone.
use Rattle.std.specs.Prelude.{ℕ, ◌≤◌, ◌≡◌, Bool, true, false, not, ◌&&◌, ◌||◌, List, length}
use Rattle.laws.specs.Distinct.{elem}
use Rattle.answer.specs.declared.Answer.TheVariants as answer
use Rattle.answer.specs.Check.{Pass}
use Rattle.course_init.specs.Reading.{BringUp, control_ring}
use Rattle.device_bring_up.specs.BringUp.{bring_up}
use Rattle.device.specs.declared.record.Device.{Device}
use Rattle.device.specs.Device.{given_of, quarantined_of, free_of}
use Rattle.device.specs.Sound.{live_rings}
use Rattle.device.specs.Check.{record_check}
use Rattle.device.specs.Claim.{claim_check, drawn}
use Rattle.theorem_slot.specs.Call.{Buffers, Asked, brings_up, disconnects, left}
use Rattle.theorem_slot.specs.Answers.{is_bring_up}
use Rattle.theorem_slot.specs.Groups.{Groups, Parted}
use Rattle.theorem_slot.specs.Theorem.{State, Turn, called, after, Between, Turns, NoOtherBringUp}

-- A bring-up whose record its caller takes.
abbrev pub first : BringUp → Buffers → List ℕ → Turn
first b l routes = record { call = record { asked = brings_up b; buffers = l }; table = routes; keeps = false }

-- For every bring-up that passes its checks, so that it logs its Address, whatever it answers, whatever was before it and whatever
-- its table held, and every list of calls after it: P of the slot and the state after the calls.
abbrev pub AfterAddress : (ℕ → State → Type 0) → Type 0
AfterAddress P =
    (s : State) (b : BringUp) (l : Buffers) (routes : List ℕ) (still : ℕ → Bool) (turns : List Turn) →
    1 ≤ (bring_up b l.ctx routes l.log l.outcomes).count →
    Turns b.slot still (called s (first b l routes)) turns →
    P b.slot (after (called s (first b l routes)) turns)

-- Each given ring is in exactly one group, no other is in any, and the counts add up.
abbrev pub GivenParted : Type 0
GivenParted = AfterAddress (λ slot s. Parted s.plain.groups)

-- While the record is up, its own groups are these: live are control's ring and the endpoints' that are not in quarantine.
pub record OfRecord (d : Device) (g : Groups) : Type 0 where
  pub given : g.given ≡ given_of d
  pub free : (x : ℕ) → g.free x ≡ elem x (free_of d)
  pub live : (x : ℕ) → g.live x ≡ (elem x (live_rings d) && not (elem x (quarantined_of d)))
  pub quarantined : (x : ℕ) → g.quarantined x ≡ elem x (quarantined_of d)

abbrev pub RecordsGroups : Type 0
RecordsGroups = AfterAddress (λ slot s. s.device.up ≡ true → OfRecord s.device s.plain.groups)

-- No claim draws a ring that is live or quarantined when it begins, whatever calls of other slots have made of the table.
abbrev pub FreeDrawn : Type 0
FreeDrawn =
    AfterAddress
    (λ slot s.
    (i a : ℕ) (l : Buffers) (x : ℕ) (still : ℕ → Bool) (table : List ℕ) →
    Between slot still s.routes table →
    record_check s.device (length l.ctx) (length table) (length l.log) (claim_check s.device i a Pass) ≡ Pass →
    elem x (drawn s.device i a) ≡ true → (s.plain.groups.live x || s.plain.groups.quarantined x) ≡ false)

-- Until the next accepted unplugging no other bring-up passes its checks, so that no other is given rings.
abbrev pub NoOtherGiven : Type 0
NoOtherGiven = AfterAddress NoOtherBringUp

-- The routes are the record's, so that no call on it is answered with 18, whatever calls of other slots have made of the table.
abbrev pub NoneMismatched : Type 0
NoneMismatched =
    AfterAddress
    (λ slot s.
    (asked : Asked) (l : Buffers) (still : ℕ → Bool) (table : List ℕ) → is_bring_up asked ≡ false →
    Between slot still s.routes table →
    (left asked l s.device table).answer ≡ answer.InvalidEndpoint → ⊥)

-- A bring-up that passes its checks, whatever it answers and whatever was before, begins the groups anew: the lowest given ring is live
-- and none is quarantined. They are the groups of the record that it returns, though it may not be up.
pub record BegunBy (b : BringUp) (d : Device) (g : Groups) : Type 0 where
  pub given : g.given ≡ b.rings
  pub live : (x : ℕ) → g.live x ≡ true → elem x b.rings ≡ true
  pub lowest : (x y : ℕ) → g.live x ≡ true → elem y b.rings ≡ true → x ≤ y
  pub control : g.live (control_ring b) ≡ true
  pub agrees : OfRecord d g
  pub quarantined : (x : ℕ) → g.quarantined x ≡ false

abbrev pub BegunGroups : Type 0
BegunGroups =
    (s : State) (b : BringUp) (l : Buffers) (routes : List ℕ) →
    1 ≤ (bring_up b l.ctx routes l.log l.outcomes).count →
    let next = called s (first b l routes) in
    BegunBy b next.device next.plain.groups

-- An accepted unplugging leaves no ring live, and those in quarantine there; what was live is free.
pub record FreedFrom (was g : Groups) : Type 0 where
  pub given : g.given ≡ was.given
  pub live : (x : ℕ) → g.live x ≡ false
  pub free : (x : ℕ) → was.live x ≡ true → g.free x ≡ true
  pub quarantined : (x : ℕ) → g.quarantined x ≡ was.quarantined x

abbrev pub FreedByUnplugging : Type 0
FreedByUnplugging =
    (s : State) (t : Turn) →
    t.call.asked ≡ disconnects →
    (left disconnects t.call.buffers s.device t.table).answer ≡ answer.Accepted →
    FreedFrom s.plain.groups (called s t).plain.groups
