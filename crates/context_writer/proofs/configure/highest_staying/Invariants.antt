use Rattle.std.proofs.Common.{◌≡◌, ◌≤◌, ℕ, List, drop, max}
use Rattle.context.specs.Steps.{highest_dci, staying}
use Rattle.context.specs.Promises.{Flagged}
use Rattle.context_writer.proofs.configure.highest_staying.Given as goal

abbrev pub invariant-loop-dci : goal.invariant-loop-dci
invariant-loop-dci l =
    (1 ≤ l.highest) × ((dropped : List ℕ) → Flagged dropped l.ctx → highest_dci (staying dropped l.dcis) ≡ max l.highest (highest_dci (staying dropped (drop l.dci-index l.dcis))))
