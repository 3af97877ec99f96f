use Rattle.std.proofs.Common.{rules, tests, ◌∙◌}
use Rattle.std.proofs.lemmas.Iterator.{YieldsList-from_slice}
use Rattle.std.proofs.lemmas.Iterator.Search.{any_from_yields_List}
use Rattle.settings_form.proofs.Words.{alternate_test, any_alternate}
use Rattle.settings_form.proofs.held.has_alternate.Goals as goal

pub returns : goal.returns
returns c =
    any_from_yields_List (alternate_test c.args.interface c.args.alternate) _ _ _ c.any.ensures.ran (YieldsList-from_slice _ c.iter.ensures.rest) (λ x b q k. search (rules, tests))
    ∙ any_alternate c.args.interface c.args.alternate c.args.words.now
