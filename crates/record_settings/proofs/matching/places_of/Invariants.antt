use mathlib.Core.Path.{◌≡◌}
use lib.ListN.{length, drop}
use Rattle.record_settings.proofs.Steps.{Marked}
use Rattle.record_settings.proofs.matching.places_of.Given as goal

abbrev pub invariant-loop-w : goal.invariant-loop-w
invariant-loop-w l = (length l.places ≡ 30) × Marked l.places (drop l.w-index l.words) l.words
