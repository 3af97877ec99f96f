use mathlib.Core.Path.{sym, ◌∙◌}
use native.Mathlib.Omega.{arith}
use Rattle.record_settings.proofs.Steps.{held_position}
use Rattle.record_settings.proofs.held.Settings.alternate_of.Goals as goal

pub returns-in_err-place : goal.returns-in_err-place
returns-in_err-place c = let s = c.args.self.now in
    c.from_residual.ensures ∙ rw (sym c.place_of.ensures ∙ c.in_err-place.was) at (held_position s.count s.interfaces s.alternates c.args.interface (omega arith))

pub returns : goal.returns
returns c = let s = c.args.self.now in
    rw (sym c.place_of.ensures ∙ c.in_ok-place.was) at (held_position s.count s.interfaces s.alternates c.args.interface (omega arith))
