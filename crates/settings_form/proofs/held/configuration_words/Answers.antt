use Rattle.std.proofs.Common.{rules, tests, ◌≡◌, sym, ◌∙◌, ap, option_map}
use Rattle.std.specs.List.{position}
use Rattle.std.proofs.lemmas.Iterator.{YieldsList-from_slice}
use Rattle.std.proofs.lemmas.Iterator.Search.{position_from_yields_List}
use Rattle.settings_form.specs.Held.{is_configuration}
use Rattle.settings_form.proofs.Words.{words_position, rest_whole}
use Rattle.settings_form.proofs.held.configuration_words.Goals as goal

pub returns-in_err-at : goal.returns-in_err-at
returns-in_err-at c =
    let found : c.position.result ≡ position (is_configuration c.args.value) c.args.list.now = position_from_yields_List (is_configuration c.args.value) _ _ c.position.result c.position.ensures.ran (YieldsList-from_slice _ c.iter.ensures.rest) (λ x b q k. search (rules, tests)) in
    rw c.from_residual.ensures (words_position c.args.value c.args.list.now ∙ ap (option_map _) (sym found ∙ c.in_err-at.was))

pub returns : goal.returns
returns c =
    let found : c.position.result ≡ position (is_configuration c.args.value) c.args.list.now = position_from_yields_List (is_configuration c.args.value) _ _ c.position.result c.position.ensures.ran (YieldsList-from_slice _ c.iter.ensures.rest) (λ x b q k. search (rules, tests)) in
    rw (c.up_to_configuration.ensures, rest_whole) (words_position c.args.value c.args.list.now ∙ ap (option_map _) (sym found ∙ c.in_ok-at.was))
