use native.Mathlib.Omega.{arith}
use Rattle.record_settings.specs.Held.{held_by, with_setting}
use Rattle.record_settings.proofs.Laws.{with_length}
use Rattle.record_settings.proofs.held.Settings.with_setting.Goals as goal

pub push-requires : goal.push-requires
push-requires c = omega (arith, with_length c.args.interface c.args.alternate (held_by c.args.self.now), c.without_setting-settings.ensures.count, c.requires)

pub returns : goal.returns
unfolding with_setting
returns c = c.push.ensures _ c.without_setting-settings.ensures
