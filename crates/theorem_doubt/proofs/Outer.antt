-- What the controller holds at a Dci that is no endpoint's of a record, and which rings are not free.
use Prim.Native.Nat.{ℕ, ◌+◌, ◌<◌}
use mathlib.Core.Path.{◌≡◌, refl, sym, ◌∙◌}
use mathlib.Core.Logic.{inl, inr, ⊎_elim}
use mathlib.Core.Bool.{Bool, true, false, not, cond, ◌&&◌, ◌||◌}
use mathlib.Core.List.{List}
use borrow.Author.Tests.{leb-true, ltb-true}
use lib.Dec.{eqb, leb, ltb}
use Rattle.laws.specs.Distinct.{elem}
use Rattle.laws.proofs.Tests.{and_left, and_right}
use Rattle.laws.proofs.Cases.{Decided, decided, or_left, or_right, or_cases, or_none}
use Rattle.command.specs.declared.Command.{Command}
use Rattle.command.specs.declared.Sent.{Sent}
use Rattle.command.specs.Command.{outcome_at}
use Rattle.command.specs.Course.{Course, ends, sends}
use Rattle.command.proofs.Operations.{operation, EachCommand}
use Rattle.theorem_routing.proofs.Laws.{each_dci}
use Rattle.record_endpoint.specs.Order.{dci_at}
use Rattle.theorem_controller.specs.Controller.{CONFIGURE, DISABLE}
use Rattle.theorem_controller.proofs.Followed.{followed}
use Rattle.device.specs.declared.record.Device.{Device}
use Rattle.device.specs.Device.{endpoint_map_in, quarantined_of, given_of}
use Rattle.theorem_slot.specs.Groups.{Groups}
use Rattle.theorem_slot.proofs.Kept.{has}
use Rattle.theorem_slot.proofs.Record.{used_by, in_doubt, AgreeWith}
use Rattle.theorem_device_state.specs.DeviceState.{ADDRESS}
use Rattle.theorem_doubt.specs.Doubt.{acts, configured_rings, rings_after}
use Rattle.theorem_doubt.proofs.Held.{Outer, KeptBy}

-- Neither Address nor Disable,
abbrev pub Leaving : Command → Type 0
Leaving c = (eqb (operation c) ADDRESS || eqb (operation c) DISABLE) ≡ false

-- so that the ring there stays.
module _ (took : Bool) where
  outer_step :
      (c : Command) (s : Sent) (ctx : List ℕ) (rings : ℕ → ℕ) (x : ℕ) → Outer x → Leaving c →
      rings_after took (operation c) s ctx rings x ≡ rings x
  unfolding rings_after configured_rings
  outer_step c s ctx rings x h e =
      let n = or_none (eqb (operation c) ADDRESS) (eqb (operation c) DISABLE) e in rw (n.0, n.1) (go (acts took s) (eqb (operation c) CONFIGURE))
    where
      same : configured_rings ctx rings x ≡ rings x
      same = rw h

      go : (a b : Bool) → cond a (cond b (configured_rings ctx rings) rings) rings x ≡ rings x
      go true true = same
      go true false = refl
      go false b = refl

  pub outer_followed :
      {A : Type 0} (o : List ℕ) (n : ℕ) (c : Course A) (rings : ℕ → ℕ) (x : ℕ) → Outer x → EachCommand Leaving c →
      followed (rings_after took) o n c rings x ≡ rings x
  unfolding followed EachCommand
  outer_followed o n (ends a) rings x h e = refl
  outer_followed o n (sends c ctx k) rings x h e =
      outer_followed o (n + 1) (k (outcome_at o n)) (rings_after took (operation c) (outcome_at o n) ctx rings) x h (e.1 (outcome_at o n))
      ∙ outer_step c (outcome_at o n) ctx rings x h e.0

-- What a record keeps, and control's ring, is in none of the free groups that agree with it.
module _ (d : Device) (g : Groups) (a : AgreeWith d g) (x : ℕ) where
  none_free : (m u q : Bool) → (u || q) ≡ true → (m && (not u && not q)) ≡ false
  none_free true true q e = refl
  none_free false true q e = refl
  none_free true false true e = refl
  none_free false false true e = refl
  none_free true false false e = sym e
  none_free false false false e = refl

  not_free : (used_by d x || in_doubt d x) ≡ true → g.free x ≡ false
  not_free e = a.free x ∙ none_free (elem x (given_of d)) (used_by d x) (in_doubt d x) e

  pub kept_not_free : KeptBy d x → g.free x ≡ false
  unfolding used_by in_doubt
  kept_not_free e =
      not_free
      (⊎_elim (λ h. or_left (has (endpoint_map_in d).rings x || eqb x d.control) _ (or_left (has (endpoint_map_in d).rings x) _ h))
      (λ h. or_right (has (endpoint_map_in d).rings x || eqb x d.control) (elem x (quarantined_of d)) h)
      (or_cases (has (endpoint_map_in d).rings x) (elem x (quarantined_of d)) e))

  pub control_not_free : eqb x d.control ≡ true → g.free x ≡ false
  unfolding used_by in_doubt
  control_not_free e =
      not_free (or_left (has (endpoint_map_in d).rings x || eqb x d.control) _ (or_right (has (endpoint_map_in d).rings x) (eqb x d.control) e))

-- At each Dci: an endpoint's place, or an outer one.
pub at_each : (P : ℕ → Type 0) → ((q : ℕ) → q < 30 → P (dci_at q)) → ((x : ℕ) → Outer x → P x) → (x : ℕ) → P x
at_each P place outer x = go (decided (leb 2 x && ltb x 32))
  where
    go : Decided (leb 2 x && ltb x 32) → P x
    go (inl t) = each_dci P place x (leb-true 2 x (and_left (leb 2 x) (ltb x 32) t)) (ltb-true x 32 (and_right (leb 2 x) (ltb x 32) t))
    go (inr t) = outer x t
