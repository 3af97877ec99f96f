use mathlib.Core.Path.{◌∙◌}
use native.Mathlib.Omega.{arith}
use Rattle.record_settings.proofs.Steps.{held_any}
use Rattle.record_settings.proofs.held.Settings.is_held.Goals as goal

pub returns : goal.returns
returns c = let s = c.args.self.now in
    c.contains.ensures.value ∙ held_any s.count s.interfaces s.alternates c.args.interface (omega arith)
