use Rattle.std.proofs.Common.{rules, tests, arith, ◌≡◌, ◌∙◌, length}
use Rattle.std.proofs.lemmas.Iterator.{YieldsList-from_map}
use Rattle.std.proofs.lemmas.Iterator.Search.{YieldsList-from_take_while}
use Rattle.std.proofs.lemmas.Iterator.Consumers.{YieldsList-at, sum_by_from_yields_List, fits_by_from_yields_list}
use Rattle.descriptor_raw.specs.Claims.{bytes_after}
use Rattle.descriptor_raw.specs.Read.{descriptors}
use Rattle.descriptor_reader.proofs.Chains.{walked, goes_on, bytes_taken, bytes_room}
use Rattle.descriptor_reader.proofs.claims.count_bytes.Goals as goal

pub sum-requires-clause-fits : goal.sum-requires-clause-fits
sum-requires-clause-fits c =
    fits_by_from_yields_list _ _ c.map.result _
    (YieldsList-from_map _ length
    (YieldsList-at c.map.ensures.source
    (YieldsList-from_take_while _ goes_on (YieldsList-at c.take_while.ensures.source (walked c.args.after)) c.take_while.ensures.closure c.take_while.ensures.done (λ x b q k. search (rules, tests))))
    c.map.ensures.closure (λ x r q k. search (rules, tests)))
    (omega (arith, bytes_taken (descriptors c.args.after.bytes.now), bytes_room c.args.after.bytes.now))

pub returns : goal.returns
returns c =
    let total = sum_by_from_yields_List _ _ c.map.result _ c.sum.ensures.ran
    (YieldsList-from_map _ length
    (YieldsList-at c.map.ensures.source
    (YieldsList-from_take_while _ goes_on (YieldsList-at c.take_while.ensures.source (walked c.args.after)) c.take_while.ensures.closure c.take_while.ensures.done (λ x b q k. search (rules, tests))))
    c.map.ensures.closure (λ x r q k. search (rules, tests))) in
    let s : c.sum.result ≡ bytes_after (descriptors c.args.after.bytes.now) = total ∙ bytes_taken (descriptors c.args.after.bytes.now) in
    (s, omega (arith, bytes_room c.args.after.bytes.now))
