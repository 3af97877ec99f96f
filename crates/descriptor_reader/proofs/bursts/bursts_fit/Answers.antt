use mathlib.Core.Path.{sym, ◌∙◌}
use Rattle.descriptor_reader.proofs.Judged.{bursts_on, bursts_end}
use Rattle.descriptor_reader.proofs.bursts.bursts_fit.Goals as goal

pub loop-d-init : goal.loop-d-init
loop-d-init c = rw c.into_iter-d-iterator.ensures.into_iter_gives

pub returns-then-not-burst_fits : goal.returns-then-not-burst_fits
returns-then-not-burst_fits c =
    sym (bursts_on _ _ _ c.in-Some.ensures.steps ∙ rw (← c.burst_fits.ensures, c.if-not-burst_fits.true)) ∙ c.loop-d.invariant

pub loop-d-preserved : goal.loop-d-preserved
loop-d-preserved c =
    sym (bursts_on _ _ _ c.in-Some.ensures.steps ∙ rw (← c.burst_fits.ensures, c.if-not-burst_fits.false)) ∙ c.loop-d.invariant

pub returns : goal.returns
returns c = sym (bursts_end _ _ c.in-None.ensures.steps) ∙ c.loop-d.invariant
