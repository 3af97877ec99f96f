use mathlib.Core.Path.{◌≡◌, refl, sym, ◌∙◌}
use mathlib.Core.List.{List}
use Prim.Native.Nat.{ℕ}
use native.Mathlib.Nat.{sub-zero}
use borrow.Author.Rules.{rules}
use lib.ListN.{get_or}
use Rattle.std.specs.List.{list_all, range_with_len}
use Rattle.std.proofs.lemmas.Iterator.{YieldsList-from_range}
use Rattle.std.proofs.lemmas.Iterator.Search.{all_from_yields_List}
use Rattle.record_endpoint.specs.declared.endpoint_map.EndpointMap.{EndpointMap}
use Rattle.record_settings.specs.declared.held.Settings.{Settings}
use Rattle.record_settings.specs.Held.{held_by, setting_words}
use Rattle.record_settings.specs.Match.{owns_places, all_own}
use Rattle.record_settings.proofs.Steps.{each_index, match_not, match_owners}
use Rattle.record_settings.proofs.matching.endpoints_match.Goals as goal

-- The settings by their indices are the held ones.
by_index : (list : List ℕ) (s : Settings) (c : EndpointMap) →
    list_all (λ i. owns_places (setting_words list (get_or s.interfaces i 0) (get_or s.alternates i 0)) (get_or s.interfaces i 0) c) (range_with_len 0 s.count)
    ≡ all_own list (held_by s) c
unfolding all_own
by_index list s c = each_index (λ i alternate. owns_places (setting_words list i alternate) i c) s.interfaces s.alternates s.count 0

pub returns-then-all : goal.returns-then-all
returns-then-all c =
    let all = all_from_yields_List _ _ _ _ c.all.ensures.ran (YieldsList-from_range 0 _ _ refl (sub-zero _)) (λ x b q k. search rules) in
    c.owners_held.ensures ∙ sym (match_owners _ _ _ (sym (all ∙ by_index _ c.args.settings.now _) ∙ c.if-all.true))

pub returns-else-all : goal.returns-else-all
returns-else-all c =
    let all = all_from_yields_List _ _ _ _ c.all.ensures.ran (YieldsList-from_range 0 _ _ refl (sub-zero _)) (λ x b q k. search rules) in
    c.if-all.false ∙ sym (match_not _ _ _ (sym (all ∙ by_index _ c.args.settings.now _) ∙ c.if-all.false))
