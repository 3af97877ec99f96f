use mathlib.Core.Path.{◌≡◌}
use lib.ListN.{drop}
use Rattle.reason.specs.Reason.{first_failed}
use Rattle.reason.proofs.first_failed.Given as goal

abbrev pub invariant-loop-place : goal.invariant-loop-place
invariant-loop-place l = first_failed l.outcomes 0 l.log l.number ≡ first_failed l.outcomes l.place (drop l.place l.log) l.number
