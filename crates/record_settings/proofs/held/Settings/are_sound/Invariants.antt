use mathlib.Core.Path.{◌≡◌}
use mathlib.Core.Bool.{true}
use Rattle.record_settings.specs.Held.{held_in, settings_sound}
use Rattle.record_settings.proofs.held.Settings.are_sound.Given as goal

abbrev pub invariant-loop-i : goal.invariant-loop-i
invariant-loop-i l = settings_sound l.list (held_in l.i l.self.interfaces l.self.alternates) ≡ true
