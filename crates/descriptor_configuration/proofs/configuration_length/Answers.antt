use Rattle.std.proofs.Common.{rules, tests, ap, length, ◌∙◌}
use Rattle.std.proofs.lemmas.Iterator.{YieldsList-from_slice}
use Rattle.std.proofs.lemmas.Iterator.Consumers.{count_from_yields_List}
use Rattle.std.proofs.lemmas.Iterator.Search.{YieldsList-from_take_while}
use Rattle.descriptor_configuration.proofs.Taken.{stays, taken}
use Rattle.descriptor_configuration.proofs.configuration_length.Goals as goal

pub returns : goal.returns
returns c =
    let words = c.args.words.now in
    count_from_yields_List c.take_while.result _ c.count.ensures.ran
    (YieldsList-from_take_while _ stays (YieldsList-from_slice words (cc)) c.take_while.ensures.closure c.take_while.ensures.done (λ x b q k. search (rules, tests)))
    ∙ ap length (taken words)
