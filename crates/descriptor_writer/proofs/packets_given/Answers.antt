use Rattle.std.proofs.Common.{rules, tests, ◌∙◌}
use Rattle.std.proofs.lemmas.Iterator.{YieldsList-from_slice}
use Rattle.std.proofs.lemmas.Iterator.Search.{all_from_yields_List}
use Rattle.descriptor_writer.specs.Written.{gives_packets}
use Rattle.descriptor_writer.proofs.Packets.{given_all}
use Rattle.descriptor_writer.proofs.packets_given.Goals as goal

pub returns : goal.returns
returns c =
    all_from_yields_List gives_packets _ _ _ c.all.ensures.ran (YieldsList-from_slice _ c.iter.ensures.rest) (λ x b q k. search (rules, tests))
    ∙ given_all c.args.list.now
