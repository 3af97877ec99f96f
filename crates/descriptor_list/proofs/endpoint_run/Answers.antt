use Rattle.std.proofs.Common.{rules, tests, length, take, drop, ◌-◌, ◌∙◌}
use Rattle.std.proofs.lemmas.Iterator.{YieldsList-from_slice}
use Rattle.std.proofs.lemmas.Iterator.Consumers.{count_from_yields_List}
use Rattle.std.proofs.lemmas.Iterator.Search.{YieldsList-from_take_while}
use Rattle.descriptor.specs.declared.WordKind.TheVariants.{Endpoint}
use Rattle.descriptor.proofs.Kind.{is_kind}
use Rattle.descriptor_list.proofs.Chains.{run_taken, rest_from}
use Rattle.descriptor_list.proofs.endpoint_run.Goals as goal

pub returns : goal.returns
returns c =
    let list = c.args.list.now in
    let m = c.min.result in
    count_from_yields_List c.take_while.result _ c.count.ensures.ran
    (YieldsList-from_take_while _ (is_kind Endpoint) (YieldsList-from_slice (take (length list - m) (drop m list)) (cc)) c.take_while.ensures.closure c.take_while.ensures.done (λ x b q k. search (rules, tests)))
    ∙ rw (rest_from list c.args.from m c.min.ensures) (run_taken (drop c.args.from list))
