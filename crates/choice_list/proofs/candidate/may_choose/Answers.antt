use native.Mathlib.Omega.{arith}
use mathlib.Core.Path.{sym, ◌∙◌}
use Rattle.descriptor_list.proofs.Laws.{found_inside}
use Rattle.choice_list.proofs.Words.{not_its, not_found, found_here, found_elsewhere}
use Rattle.choice_list.proofs.candidate.may_choose.Goals as goal

pub returns-then-not-of_interface : goal.returns-then-not-of_interface
returns-then-not-of_interface c = not_its _ _ _ _ _ (sym c.of_interface.ensures ∙ c.if-not-of_interface.true)

pub returns-in_default : goal.returns-in_default
returns-in_default c = not_found _ _ _ _ _ (rw (← c.alternate_setting-alternate.ensures) (sym c.find_interface_endpoints.ensures ∙ c.in_default.is))

pub in_list-requires : goal.in_list-requires
in_list-requires c = let h = found_inside _ _ _ _ (sym c.find_interface_endpoints.ensures ∙ c.in-Some.is) in omega (arith, h)

pub returns-then-found-place : goal.returns-then-found-place
returns-then-found-place c =
    found_here _ _ _ _ _ (sym c.of_interface.ensures ∙ c.if-not-of_interface.false) _
    (rw (← c.alternate_setting-alternate.ensures) (sym c.find_interface_endpoints.ensures ∙ c.in-Some.is))
    c.if-found-place.true _ c.in_list.ensures _ c.all_short.ensures

pub returns-else-found-place : goal.returns-else-found-place
returns-else-found-place c =
    found_elsewhere _ _ _ _ _ (sym c.of_interface.ensures ∙ c.if-not-of_interface.false) c.in-Some.found
    (rw (← c.alternate_setting-alternate.ensures) (sym c.find_interface_endpoints.ensures ∙ c.in-Some.is))
    c.if-found-place.false
