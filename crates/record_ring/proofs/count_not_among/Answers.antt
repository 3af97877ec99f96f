use mathlib.Core.Path.{◌≡◌, ◌∙◌}
use mathlib.Core.Bool.{not}
use Rattle.std.proofs.Common.{rules, count_by}
use Rattle.std.proofs.iter.runs.Made.{chains}
use lib.Dec.{eqb}
use Rattle.std.specs.List.{list_any}
use Rattle.record_ring.proofs.Steps.{not_among_counted}
use Rattle.record_ring.proofs.count_not_among.Goals as goal

pub returns : goal.returns
returns c =
    let k : c.count.result ≡ count_by (λ r. not (list_any (λ y. eqb y r) c.args.others.now)) c.args.rings.now = search (rules, chains) in
    k ∙ not_among_counted c.args.others.now c.args.rings.now
