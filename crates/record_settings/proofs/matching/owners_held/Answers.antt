use mathlib.Core.Path.{refl, ◌∙◌}
use mathlib.Core.Bool.{◌||◌}
use borrow.Author.Rules.{rules}
use lib.Dec.{eqb}
use lib.ListN.{get_or}
use Rattle.std.proofs.lemmas.Iterator.{YieldsList-from_range}
use Rattle.std.proofs.lemmas.Iterator.Search.{all_from_yields_List}
use Rattle.record_settings.specs.Held.{held_by, is_held}
use Rattle.record_settings.specs.Match.{each_place, owners_held}
use Rattle.record_settings.proofs.Steps.{each_list}
use Rattle.record_settings.proofs.matching.owners_held.Goals as goal

pub returns : goal.returns
unfolding owners_held each_place
returns c = let m = c.args.c in
    all_from_yields_List (λ p. eqb (get_or m.rings p 0) 0 || is_held (get_or m.owners p 0) (held_by c.args.settings.now)) _ _ _ c.all.ensures.ran (YieldsList-from_range 0 30 30 refl refl) (λ x b q k. search rules)
    ∙ each_list _ 30 0
