use Rattle.std.proofs.Common.{◌≡◌, ◌≤◌, drop, max}
use Rattle.context.specs.Steps.{highest_dci, word_dcis}
use Rattle.context_writer.proofs.configure.highest_added.Given as goal

abbrev pub invariant-loop-w : goal.invariant-loop-w
invariant-loop-w l =
    (1 ≤ l.highest) × (max l.least (highest_dci (word_dcis l.words)) ≡ max l.highest (highest_dci (drop l.w-index (word_dcis l.words))))
