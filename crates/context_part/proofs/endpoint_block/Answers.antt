use mathlib.Core.Path.{sym, ◌∙◌}
use mathlib.Core.Bool.{true, false}
use native.Mathlib.Omega.{arith}
use Rattle.context_part.proofs.Laws.{nothing_shown, part_inside, part_shown}
use Rattle.context_part.proofs.endpoint_block.Goals as goal

pub returns-in_default : goal.returns-in_default
returns-in_default c = nothing_shown _ _ _ _ _ (sym c.placed_block.ensures ∙ c.in_default.is)

pub overflow_add-end : goal.overflow_add-end
overflow_add-end c = omega (arith, part_inside _ _ _ _ _ (sym c.placed_block.ensures ∙ c.in-Ok.is))

pub slice_bounds-result-end-then-from_output : goal.slice_bounds-result-end-then-from_output
slice_bounds-result-end-then-from_output c =
    let inside = part_inside _ _ _ _ _ (sym c.placed_block.ensures ∙ c.in-Ok.is) in
    rw c.if-from_output.true at inside.0

pub returns-then-from_output : goal.returns-then-from_output
returns-then-from_output c = part_shown _ _ _ _ _ (sym c.placed_block.ensures ∙ c.in-Ok.is) true c.if-from_output.true

pub slice_bounds-result-end-2 : goal.slice_bounds-result-end-2
slice_bounds-result-end-2 c =
    let inside = part_inside _ _ _ _ _ (sym c.placed_block.ensures ∙ c.in-Ok.is) in
    rw c.if-from_output.false at inside.0

pub returns : goal.returns
returns c = part_shown _ _ _ _ _ (sym c.placed_block.ensures ∙ c.in-Ok.is) false c.if-from_output.false
