use mathlib.Core.Path.{refl, sym, ◌∙◌}
use mathlib.Core.Bool.{◌&&◌, not, beq, false}
use borrow.Author.Rules.{rules}
use lib.Dec.{eqb}
use lib.ListN.{get_or}
use Rattle.std.proofs.lemmas.Iterator.{YieldsList-from_range}
use Rattle.std.proofs.lemmas.Iterator.Search.{all_from_yields_List}
use Rattle.record_endpoint.specs.EndpointMap.{is_owned, owns}
use Rattle.record_settings.specs.Match.{each_place}
use Rattle.record_settings.proofs.Laws.{each_same}
use Rattle.record_settings.proofs.Steps.{each_list, same_test, owns_same}
use Rattle.record_settings.proofs.matching.owns_places.Goals as goal

pub returns : goal.returns
unfolding is_owned owns each_place
returns c = let m = c.args.c in
    let places = c.places_of-places.result in
    all_from_yields_List (λ p. beq (get_or places p false) (not (eqb (get_or m.rings p 0) 0) && eqb (get_or m.owners p 0) c.args.interface)) _ _ _ c.all.ensures.ran (YieldsList-from_range 0 30 30 refl refl) (λ x b q k. search rules)
    ∙ each_list _ 30 0
    ∙ sym (owns_same _ _ _ _ (c.places_of-places.ensures ∙ rw c.setting_words.ensures) ∙ each_same _ _ (λ p h. same_test _ _))
