-- The counts of a sound record fit.
use mathlib.Core.Path.{◌≡◌}
use mathlib.Core.Bool.{true}
use Rattle.laws.proofs.Tests.{and_left, and_right}
use Rattle.device.specs.declared.record.Device.{Device}
use Rattle.device.specs.Sound.{slot_sound, counts_fit, sound}

pub sound_counts_lem : (d : Device) → sound d ≡ true → counts_fit d ≡ true
unfolding sound
sound_counts_lem d e = and_left (counts_fit d) _ (and_right (slot_sound d) _ e)
