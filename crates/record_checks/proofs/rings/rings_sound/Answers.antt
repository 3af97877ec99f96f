use mathlib.Core.Path.{◌∙◌}
use Rattle.record_checks.proofs.Turned.{all_unsound, all_sound}
use Rattle.record_checks.proofs.rings.rings_sound.Goals as goal

pub returns-then-together : goal.returns-then-together
returns-then-together c = all_sound c.args.usable _ _ _ _ c.args.given.now c.live_rings-rings.ensures.1 _ c.together.ensures _ c.if-together.true c.store_sound.ensures

pub returns-else-together : goal.returns-else-together
returns-else-together c = c.if-together.false ∙ all_unsound c.args.usable _ _ _ _ c.args.given.now c.live_rings-rings.ensures.1 _ c.together.ensures c.if-together.false
