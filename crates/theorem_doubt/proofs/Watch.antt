-- The controller's rings along a course.
use Prim.Native.Nat.{ℕ}
use mathlib.Core.Path.{◌≡◌, refl}
use mathlib.Core.Bool.{Bool, true, false, cond, ◌||◌}
use mathlib.Core.List.{List}
use lib.Dec.{eqb}
use Rattle.laws.proofs.Cases.{or_none}
use Rattle.command.specs.declared.Command.{Command}
use Rattle.command.specs.declared.Command.TheVariants as command
use Rattle.command.specs.Course.{Course, sends, on_sent, then}
use Rattle.command.specs.Sweep.{Sweep, stop_endpoints, resume_stopped_endpoints}
use Rattle.command.proofs.Operations.{operation}
use Rattle.theorem_controller.specs.Controller.{CONFIGURE, DISABLE}
use Rattle.theorem_controller.proofs.Followed.{Follows, Idle, follows_sends, follows_idle, stop_then, resume_then}
use Rattle.theorem_device_state.specs.DeviceState.{ADDRESS}
use Rattle.theorem_doubt.specs.Doubt.{acts, configured_rings, rings_after}

same_cond : {A : Type 0} (b : Bool) (x : A) → cond b x x ≡ x
same_cond true x = refl
same_cond false x = refl

-- Neither Address, Configure nor Disable.
abbrev pub Other : ℕ → Type 0
Other op = (eqb op ADDRESS || (eqb op CONFIGURE || eqb op DISABLE)) ≡ false

pub idle_other : (took : Bool) (op : ℕ) → Other op → Idle (rings_after took) op
unfolding rings_after
idle_other took op e s ctx rings =
    let n = or_none (eqb op ADDRESS) (eqb op CONFIGURE || eqb op DISABLE) e in
    let m = or_none (eqb op CONFIGURE) (eqb op DISABLE) n.1 in
    rw (n.0, m.0, m.1) (same_cond (acts took s) rings)

module _ {A : Type 0} (took : Bool) (Q : A → (ℕ → ℕ) → Type 0) (rings : ℕ → ℕ) where
  -- what comes after a sweep decides
  pub sees_stop : (ctx ds : List ℕ) (f : Sweep → Course A) → ((r : Sweep) → Follows (rings_after took) Q rings (f r)) →
      Follows (rings_after took) Q rings (then (stop_endpoints ctx ds) f)
  sees_stop ctx ds f next = stop_then (rings_after took) Q rings (idle_other took 5 refl) ctx ds f next (idle_other took 4 refl)

  pub sees_resume : (ctx ds : List ℕ) (f : Sweep → Course A) → ((r : Sweep) → Follows (rings_after took) Q rings (f r)) →
      Follows (rings_after took) Q rings (then (resume_stopped_endpoints ctx ds) f)
  sees_resume = resume_then (rings_after took) Q rings (idle_other took 5 refl)

  -- a command that is none of the three
  pub sees_other : (c : Command) → Other (operation c) → (ctx : List ℕ) (done : Course A) (failed : ℕ → Course A) (cut : Course A) →
      Follows (rings_after took) Q rings done → ((code : ℕ) → Follows (rings_after took) Q rings (failed code)) →
      Follows (rings_after took) Q rings cut →
      Follows (rings_after took) Q rings (sends c ctx (λ s. on_sent s done failed cut))
  sees_other c e = follows_idle (rings_after took) Q rings c (idle_other took (operation c) e)

  -- a Configure: where it is not answered, it acted or not
  pub sees_configure : (ctx : List ℕ) (done : Course A) (failed : ℕ → Course A) (cut : Course A) →
      Follows (rings_after took) Q (configured_rings ctx rings) done →
      ((code : ℕ) → Follows (rings_after took) Q rings (failed code)) →
      ((x : Bool) → Follows (rings_after took) Q (cond x (configured_rings ctx rings) rings) cut) →
      Follows (rings_after took) Q rings (sends command.Configure ctx (λ s. on_sent s done failed cut))
  unfolding rings_after acts operation
  sees_configure ctx done failed cut d f u = follows_sends (rings_after took) Q rings command.Configure ctx done failed cut d f (u took)
