use mathlib.Core.Path.{◌≡◌}
use lib.ListN.{drop}
use Rattle.reason.specs.Reason.{first_owned}
use Rattle.reason.proofs.first_owned.Given as goal

abbrev pub invariant-loop-word : goal.invariant-loop-word
invariant-loop-word l = first_owned l.words l.interface l.c ≡ first_owned (drop l.word-index l.words) l.interface l.c
