use mathlib.Core.Path.{◌≡◌}
use native.Mathlib.Omega.{arith}
use Rattle.std.proofs.Common.{rules, tests, ◌∙◌}
use Rattle.std.proofs.lemmas.Iterator.{YieldsList-from_slice}
use Rattle.std.proofs.lemmas.Iterator.Search.{YieldsList-from_take_while}
use Rattle.std.proofs.lemmas.Iterator.Consumers.{YieldsList-at, YieldsList-from_filter, count_from_yields_List}
use Rattle.descriptor.specs.declared.WordKind.TheVariants.{Endpoint}
use Rattle.descriptor.proofs.Kind.{is_kind}
use Rattle.descriptor_raw.specs.Claims.{endpoints_after}
use Rattle.descriptor_raw.specs.Write.{all_descriptors}
use Rattle.descriptor_writer.proofs.Counted.{stays, counted, counted_few}
use Rattle.descriptor_writer.proofs.claims.count_endpoints.Goals as goal

pub returns : goal.returns
returns c =
    let n : c.count.result ≡ endpoints_after (all_descriptors c.args.after.now) =
    count_from_yields_List c.filter.result _ c.count.ensures.ran
    (YieldsList-from_filter _ (is_kind Endpoint)
    (YieldsList-at c.filter.ensures.source
    (YieldsList-from_take_while _ stays (YieldsList-at c.take_while.ensures.source (YieldsList-from_slice _ c.iter.ensures.rest)) c.take_while.ensures.closure c.take_while.ensures.done (λ x b q k. search (rules, tests))))
    c.filter.ensures.closure (λ x b q k. search (rules, tests)))
    ∙ counted c.args.after.now in
    (n, omega (arith, counted_few c.args.after.now))
