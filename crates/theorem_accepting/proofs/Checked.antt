-- What holds where all that a call's checks ask holds: they pass.
use Prim.Native.Nat.{ℕ}
use mathlib.Core.Path.{◌≡◌}
use mathlib.Core.List.{List, []}
use lib.ListN.{length}
use Rattle.answer.specs.Check.{Check, Pass}
use Rattle.device.specs.declared.record.Device.{Device}
use Rattle.device.specs.Check.{record_check, hub_check}
use Rattle.device.specs.Claim.{claim_check}
use Rattle.device.specs.Release.{release_check}
use Rattle.theorem_checks.specs.Checks.{AllHold, fit_conditions, claim_conditions, release_conditions, hub_conditions}
use Rattle.theorem_checks.proofs.Checks.{claim_judged, release_judged, set_judged, hub_judged}
use Rattle.theorem_accepting.specs.Accepting.{Routed, AllDone, Ready}
use Rattle.command.specs.Command.{LOG-ROOM}

pub record Checked (d : Device) (ctx routes log outcomes : List ℕ) (check : Check) : Type 0 where
  pub passes : record_check d (length ctx) (length routes) (length log) check ≡ Pass
  pub routed : Routed d routes
  pub done : AllDone outcomes LOG-ROOM

module _ (d : Device) (ctx routes log o : List ℕ) where
  pub claim_checked : (i a : ℕ) → Ready d ctx routes log o (claim_conditions d i a []) → Checked d ctx routes log o (claim_check d i a Pass)
  claim_checked i a r =
      record { passes = (claim_judged d (length ctx) (length routes) (length log) i a).passed r.holds; routed = r.routed; done = r.done }

  pub release_checked : (i : ℕ) → Ready d ctx routes log o (release_conditions d i) → Checked d ctx routes log o (release_check d i)
  release_checked i r =
      record { passes = (release_judged d (length ctx) (length routes) (length log) i).passed r.holds; routed = r.routed; done = r.done }

  pub set_checked : Ready d ctx routes log o [] → Checked d ctx routes log o Pass
  set_checked r = record { passes = (set_judged d (length ctx) (length routes) (length log)).passed r.holds; routed = r.routed; done = r.done }

pub hub_passes : (d : Device) (ctx routes log ns : ℕ) → AllHold (fit_conditions d.usable d ctx routes log (hub_conditions d ns)) →
    record_check d ctx routes log (hub_check d ns) ≡ Pass
hub_passes d ctx routes log ns h = (hub_judged d ctx routes log ns).passed h
