use mathlib.Core.Path.{refl, ◌∙◌}
use native.Mathlib.Omega.{arith}
use native.Mathlib.Nat.{zero-add}
use Rattle.descriptor_raw.specs.Claims.{interfaces_after}
use Rattle.descriptor_raw.specs.Read.{descriptors}
use Rattle.descriptor_raw.proofs.Made.{numbers_after}
use Rattle.descriptor_raw.proofs.Unmarked.{unmarked_all, none_left, met_other, met}
use Rattle.descriptor_reader.proofs.Step.{not_configuration, not_interface}
use Rattle.descriptor_reader.proofs.Rest.{numbers_end, numbers_stop, numbers_interface, numbers_other}
use Rattle.descriptor_reader.proofs.claims.count_interfaces.Goals as goal

pub loop-d-init : goal.loop-d-init
unfolding interfaces_after
loop-d-init c =
    let n = numbers_after (descriptors c.args.after.bytes.now) in
    rw c.into_iter-d-iterator.ensures.into_iter_gives (zero-add _ ∙ unmarked_all _ refl n)

pub returns-in-Configuration : goal.returns-in-Configuration
returns-in-Configuration c = omega (arith, none_left c.loop-d.marks _ (numbers_stop _ _ _ c.in-Some.ensures.steps.cut_off _ c.kind.ensures (rw c.in-Configuration.is)))

pub loop-d-preserved-in-Interface : goal.loop-d-preserved-in-Interface
loop-d-preserved-in-Interface c =
    met _ _ _ _ c.loop-d.invariant _ _ (numbers_interface _ _ _ c.in-Some.ensures.steps.cut_off _ c.kind.ensures (rw c.in-Interface.is) (rw c.in-Interface.is)) refl
    c.mark.ensures

pub loop-d-preserved : goal.loop-d-preserved
loop-d-preserved c =
    met_other _ _ _ _ c.loop-d.invariant
    (numbers_other _ _ _ c.in-Some.ensures.steps.cut_off _ c.kind.ensures (not_configuration _ c.in_default.not-Configuration) (not_interface _ c.in_default.not-Interface))

pub returns : goal.returns
returns c = omega (arith, none_left c.loop-d.marks _ (numbers_end _ c.in-None.ensures.steps))
