use mathlib.Core.Path.{refl}
use native.Mathlib.Omega.{arith}
use Rattle.record_settings.specs.Held.{held_in, interfaces_of, alternates_of, without_setting}
use Rattle.record_endpoint.specs.Endpoint.{padded}
use Rattle.record_settings.proofs.Laws.{held_length, without_length}
use Rattle.record_settings.proofs.Steps.{without_in, without_out}
use Rattle.record_settings.proofs.held.Settings.without_setting.Goals as goal
use Rattle.record_settings.proofs.held.Settings.without_setting.Goals.{then-self-i, else-self-i}

pub loop-i-init : goal.loop-i-init
unfolding held_in without_setting interfaces_of alternates_of padded
loop-i-init c = record { interfaces = refl; alternates = refl; count = refl }

pub push-requires : goal.push-requires
push-requires c = let s = c.args.self.now in
    let hs = held_in c.loop-i.i s.interfaces s.alternates in
    omega (arith, c.loop-i.invariant.count, without_length c.args.interface hs, held_length c.loop-i.i s.interfaces s.alternates)

pub loop-i-preserved : goal.loop-i-preserved
loop-i-preserved c = elim c.if-self-i.branch [
  | then-self-i w ↦ rw (w.others-is, without_in _ _ _ c.loop-i.i w.if-self-i.true) (w.push.ensures _ c.loop-i.invariant)
  | else-self-i w ↦ rw (w.others-is, without_out _ _ _ c.loop-i.i w.if-self-i.false) c.loop-i.invariant
]
