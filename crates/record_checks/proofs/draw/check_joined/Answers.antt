use mathlib.Core.Path.{sym, ◌∙◌}
use native.Mathlib.Omega.{arith}
use Rattle.descriptor_list.proofs.Laws.{found_inside}
use Rattle.record_checks.proofs.Steps.{not_found, not_free, too_few, passes}
use Rattle.record_checks.proofs.draw.check_joined.Goals as goal

pub returns-in_default : goal.returns-in_default
returns-in_default c = not_found _ _ _ _ _ (sym c.find_interface_endpoints.ensures ∙ c.in_default.is)

pub in_list-requires : goal.in_list-requires
in_list-requires c = let h = found_inside _ _ _ _ (sym c.find_interface_endpoints.ensures ∙ c.in-Some.is) in omega (arith, h)

pub returns-then-not-validate_endpoint_addresses : goal.returns-then-not-validate_endpoint_addresses
returns-then-not-validate_endpoint_addresses c =
    not_free _ _ _ _ _ _ (sym c.find_interface_endpoints.ensures ∙ c.in-Some.is)
    (sym (rw c.in_list.ensures at c.validate_endpoint_addresses.ensures) ∙ c.if-not-validate_endpoint_addresses.true)

pub returns-then-free-found : goal.returns-then-free-found
returns-then-free-found c =
    too_few _ _ _ _ _ _ (sym c.find_interface_endpoints.ensures ∙ c.in-Some.is)
    (sym (rw c.in_list.ensures at c.validate_endpoint_addresses.ensures) ∙ c.if-not-validate_endpoint_addresses.false) c.if-free-found.true

pub returns : goal.returns
returns c =
    passes _ _ _ _ _ _ (sym c.find_interface_endpoints.ensures ∙ c.in-Some.is)
    (sym (rw c.in_list.ensures at c.validate_endpoint_addresses.ensures) ∙ c.if-not-validate_endpoint_addresses.false) c.if-free-found.false
