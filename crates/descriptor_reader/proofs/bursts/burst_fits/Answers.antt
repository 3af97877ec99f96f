use mathlib.Core.Path.{sym}
use Rattle.descriptor_reader.proofs.Judged.{no_burst, other_burst, companion_burst}
use Rattle.descriptor_reader.proofs.bursts.burst_fits.Goals as goal

pub returns-then-not-d : goal.returns-then-not-d
returns-then-not-d c = sym (no_burst _ _ c.if-not-d.true)

pub returns-in-Companion : goal.returns-in-Companion
returns-in-Companion c = sym (companion_burst c.args.d.companions _ _ c.kind.ensures c.in-Companion.is c.if-not-d.false)

pub returns-in_default : goal.returns-in_default
returns-in_default c = sym (other_burst c.args.d.companions _ _ c.kind.ensures c.in_default.not-Companion)
