use Rattle.std.proofs.Common.{rules, tests, ◌∙◌}
use Rattle.std.proofs.lemmas.Iterator.Search.{YieldsList-from_take_while}
use Rattle.std.proofs.lemmas.Iterator.Consumers.{YieldsList-at, YieldsList-from_filter, count_from_yields_List}
use Rattle.descriptor_raw.specs.declared.DescriptorKind.TheVariants.{Endpoint}
use Rattle.descriptor_raw.specs.Read.{descriptors}
use Rattle.descriptor_reader.proofs.Chains.{walked, is_kind, stays, endpoints_taken}
use Rattle.descriptor_reader.proofs.claims.count_endpoints.Goals as goal

pub returns : goal.returns
returns c =
    count_from_yields_List c.filter.result _ c.count.ensures.ran
    (YieldsList-from_filter _ (is_kind Endpoint)
    (YieldsList-at c.filter.ensures.source
    (YieldsList-from_take_while _ stays (YieldsList-at c.take_while.ensures.source (walked c.args.after)) c.take_while.ensures.closure c.take_while.ensures.done (λ x b q k. search (rules, tests))))
    c.filter.ensures.closure (λ x b q k. search (rules, tests)))
    ∙ endpoints_taken (descriptors c.args.after.bytes.now)
