use mathlib.Core.Path.{◌∙◌}
use borrow.Author.Rules.{rules}
use Rattle.std.proofs.lemmas.Iterator.{YieldsList-from_slice}
use Rattle.std.proofs.lemmas.Iterator.Search.{all_from_yields_List}
use Rattle.choice_list.specs.Candidate.{is_short}
use Rattle.choice_list.proofs.Words.{short_all}
use Rattle.choice_list.proofs.candidate.all_short.Goals as goal

pub returns : goal.returns
returns c = let words = c.args.words.now in
    all_from_yields_List (is_short c.args.speed c.args.longest) _ _ _ c.all.ensures.ran (YieldsList-from_slice words cc) (λ x b q k. search rules)
    ∙ short_all c.args.speed c.args.longest words
