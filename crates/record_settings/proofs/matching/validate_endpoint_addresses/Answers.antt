use mathlib.Core.Path.{◌∙◌}
use borrow.Author.Rules.{rules}
use Rattle.std.proofs.lemmas.Iterator.{YieldsList-from_slice}
use Rattle.std.proofs.lemmas.Iterator.Search.{all_from_yields_List}
use Rattle.record_settings.specs.Match.{address_free}
use Rattle.record_settings.proofs.Steps.{free_list}
use Rattle.record_settings.proofs.matching.validate_endpoint_addresses.Goals as goal

pub returns : goal.returns
returns c = let words = c.args.words.now in
    all_from_yields_List (λ w. address_free w c.args.interface c.args.c) _ _ _ c.all.ensures.ran (YieldsList-from_slice words cc) (λ x b q k. search rules)
    ∙ free_list words c.args.interface c.args.c
