use mathlib.Core.Path.{refl}
use borrow.Author.Rules.{rules}
use Rattle.record_endpoint.specs.Endpoint.{rings_of}
use Rattle.record_checks.proofs.Steps.{gather_next}
use Rattle.record_checks.proofs.rings.live_rings.Goals as goal

pub loop-i-init : goal.loop-i-init
unfolding rings_of
loop-i-init c = record { room = search rules; written = refl }

pub loop-i-preserved : goal.loop-i-preserved
loop-i-preserved c = gather_next c.loop-i.invariant c.requires c.loop-i-test.true
