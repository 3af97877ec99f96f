use Rattle.std.proofs.Common.{◌≡◌, sym, ◌∙◌, arith, rules, get_or, max}
use Rattle.context.specs.Steps.{staying}
use Rattle.context.proofs.Entries.{staying_next, dropped_next, staying_done}
use Rattle.context.proofs.Steps.{highest_least}
use Rattle.context_writer.proofs.configure.highest_staying.Goals.{then-flag-eq0, else-flag-eq0}
use Rattle.context_writer.proofs.configure.highest_staying.Goals as goal

pub loop-dci-init : goal.loop-dci-init
loop-dci-init c = (search rules, λ dropped f. omega (arith, highest_least (staying dropped c.args.dcis.now)))

pub loop-dci-preserved : goal.loop-dci-preserved
loop-dci-preserved c = elim c.if-flag-eq0.branch [
  | then-flag-eq0 w ↦
      let m : w.max-highest.result ≡ max c.loop-dci.highest (get_or c.args.dcis.now c.loop-dci.dci-index 0) = search rules in rw (w.highest-is, m) (
        omega (arith, c.loop-dci.invariant.0),
        λ dropped f. c.loop-dci.invariant.1 dropped f ∙ staying_next dropped _ _ _ _ _ f c.requires.1 c.loop-dci-test.true (c.read_field-flag.ensures ∙ rw c.drop_flag.ensures) w.if-flag-eq0.true,
      )
  | else-flag-eq0 w ↦ rw w.highest-is (
    c.loop-dci.invariant.0,
    λ dropped f. c.loop-dci.invariant.1 dropped f ∙ dropped_next dropped _ _ _ _ _ f c.requires.1 c.loop-dci-test.true (c.read_field-flag.ensures ∙ rw c.drop_flag.ensures) w.if-flag-eq0.false,
  )
]

pub returns : goal.returns
returns c = (
  c.loop-dci.invariant.0,
  λ dropped f. sym (c.loop-dci.invariant.1 dropped f ∙ staying_done dropped c.args.dcis.now c.loop-dci.dci-index c.loop-dci.highest c.loop-dci-test.false c.loop-dci.invariant.0),
)
