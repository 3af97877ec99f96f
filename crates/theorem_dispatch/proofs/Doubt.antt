-- What holds of a slot over any calls from its first bring-up on holds of each slot in a run of many.
use Rattle.std.proofs.Common.{ℕ, ◌≡◌, true, false}
use Rattle.laws.specs.Distinct.{elem}
use Rattle.device.specs.Device.{free_of}
use Rattle.theorem_doubt.specs.Doubt.{Watched, unborn, AfterAny}
use Rattle.theorem_doubt.proofs.Never.{never_free, never_drawn}
use Rattle.theorem_dispatch.specs.Desk.{started_in}
use Rattle.theorem_dispatch.specs.Doubt.{AnyInDesk, NeverFreeInDesk, NeverDrawnInDesk}
use Rattle.theorem_dispatch.proofs.Desk.{table_in}
use Rattle.theorem_dispatch.proofs.Turns.{between_same, carried_over}

pub any_in_desk : (P : ℕ → Watched → Type 0) → AfterAny P → AnyInDesk P
unfolding unborn
any_in_desk P p d es slot still took turns g h =
    let c = carried_over slot still (unborn d.table).state d.table (started_in d es) turns (between_same slot still d.table) h in
    (p slot d.table still took turns g c.turns, rw (table_in d es) c.words)

pub never_free_in_desk : NeverFreeInDesk
never_free_in_desk = any_in_desk (λ slot w. (d : ℕ) → (w.rings d ≡ 0 → ⊥) → w.state.plain.groups.free (w.rings d) ≡ false) never_free

pub never_drawn_in_desk : NeverDrawnInDesk
never_drawn_in_desk =
    any_in_desk
    (λ slot w. w.state.device.up ≡ true → (d : ℕ) → (w.rings d ≡ 0 → ⊥) → elem (w.rings d) (free_of w.state.device) ≡ false)
    never_drawn
