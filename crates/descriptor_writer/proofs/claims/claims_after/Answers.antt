use mathlib.Core.Path.{refl}
use native.Mathlib.Omega.{arith}
use Rattle.descriptor.specs.declared.WordKind.TheVariants.{Configuration, Alternate, Endpoint}
use Rattle.descriptor.proofs.Kind.{kind_in, kind_none}
use Rattle.descriptor_writer.proofs.Claiming.{claiming_start, claimed_end, claimed_configuration, claiming_interface, claiming_endpoint, claiming_companion, companion_left}
use Rattle.descriptor_writer.proofs.claims.claims_after.Goals as goal
use Rattle.descriptor_writer.proofs.claims.claims_after.Goals.{in-Some-Alternate, in-Some-Endpoint, in-None}

pub loop-w-init : goal.loop-w-init
loop-w-init c = claiming_start c.args.after.now _ refl refl

pub returns-in-Some-Configuration : goal.returns-in-Some-Configuration
returns-in-Some-Configuration c =
    claimed_configuration _ _ _ _ c.loop-w.invariant c.loop-w-test.true
    (kind_in _ _ c.word_kind.ensures c.in-Some-Configuration.is c.in-Some-Configuration.field-0-is)

pub loop-w-preserved : goal.loop-w-preserved
loop-w-preserved c =
    elim c.match-word_kind.branch [
      | in-Some-Alternate w ↦
          rw (w.marks-is, w.bytes-is)
          (claiming_interface _ _ _ _ c.loop-w.invariant c.loop-w-test.true
          (kind_in _ _ c.word_kind.ensures w.in-Some-Alternate.is w.in-Some-Alternate.field-0-is)
          _ w.interface_number.ensures _ w.mark.ensures)
      | in-Some-Endpoint w ↦
          rw (w.marks-is, w.bytes-is)
          (claiming_endpoint _ _ _ _ c.loop-w.invariant c.loop-w-test.true
          (kind_in _ _ c.word_kind.ensures w.in-Some-Endpoint.is w.in-Some-Endpoint.field-0-is))
      | in-None w ↦
          rw (w.marks-is, w.bytes-is)
          (claiming_companion _ _ _ _ c.loop-w.invariant c.loop-w-test.true
          (companion_left _
          (kind_none _ _ c.word_kind.ensures w.in-None.is Configuration)
          (kind_none _ _ c.word_kind.ensures w.in-None.is Alternate)
          (kind_none _ _ c.word_kind.ensures w.in-None.is Endpoint)))
    ]

pub returns : goal.returns
returns c = claimed_end _ _ _ _ c.loop-w.invariant (omega arith)
