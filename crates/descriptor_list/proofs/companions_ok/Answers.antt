use Rattle.std.proofs.Common.{rules, tests, ◌∙◌}
use Rattle.std.proofs.lemmas.Iterator.{YieldsList-from_slice}
use Rattle.std.proofs.lemmas.Iterator.Search.{all_from_yields_List}
use Rattle.descriptor_list.proofs.Joins.{passes, passes_all}
use Rattle.descriptor_list.proofs.companions_ok.Goals as goal

pub returns : goal.returns
returns c =
    all_from_yields_List (passes c.args.allowed) _ _ _ c.all.ensures.ran (YieldsList-from_slice _ c.iter.ensures.rest) (λ x b q k. search (rules, tests))
    ∙ passes_all c.args.allowed c.args.list.now
