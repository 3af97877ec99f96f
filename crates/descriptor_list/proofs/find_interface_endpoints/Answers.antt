use Rattle.std.proofs.Common.{rules, tests, ◌≡◌, sym, ◌∙◌, ap, option_map}
use Rattle.std.specs.List.{position}
use Rattle.std.proofs.lemmas.Iterator.{YieldsList-from_slice}
use Rattle.std.proofs.lemmas.Iterator.Search.{position_from_yields_List}
use Rattle.descriptor_list.specs.Lookup.{is_alternate}
use Rattle.descriptor_list.proofs.Chains.{found_position}
use Rattle.descriptor_list.proofs.find_interface_endpoints.Goals as goal

pub returns-in_err-start : goal.returns-in_err-start
returns-in_err-start c =
    let found : c.position.result ≡ position (is_alternate c.args.interface c.args.alternate) c.args.list.now = position_from_yields_List (is_alternate c.args.interface c.args.alternate) _ _ c.position.result c.position.ensures.ran (YieldsList-from_slice _ c.iter.ensures.rest) (λ x b q k. search (rules, tests)) in
    c.from_residual.ensures ∙ sym (found_position c.args.interface c.args.alternate c.args.list.now ∙ ap (option_map _) (sym found ∙ c.in_err-start.was))

pub returns : goal.returns
returns c =
    let found : c.position.result ≡ position (is_alternate c.args.interface c.args.alternate) c.args.list.now = position_from_yields_List (is_alternate c.args.interface c.args.alternate) _ _ c.position.result c.position.ensures.ran (YieldsList-from_slice _ c.iter.ensures.rest) (λ x b q k. search (rules, tests)) in
    rw c.endpoint_run.ensures (sym (found_position c.args.interface c.args.alternate c.args.list.now ∙ ap (option_map _) (sym found ∙ c.in_ok-start.was)))
