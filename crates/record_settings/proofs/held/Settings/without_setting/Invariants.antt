use Rattle.record_settings.specs.Held.{held_in, without_setting, SettingsAs}
use Rattle.record_settings.proofs.held.Settings.without_setting.Given as goal

abbrev pub invariant-loop-i : goal.invariant-loop-i
invariant-loop-i l = SettingsAs l.others (without_setting l.interface (held_in l.i l.self.interfaces l.self.alternates))
