use mathlib.Core.Path.{sym, ◌∙◌}
use native.Mathlib.Omega.{arith}
use Rattle.transfer.proofs.Steps.{clear_start, clear_next, clear_end}
use Rattle.transfer.proofs.clear_slot.Goals as goal

pub loop-dci-init : goal.loop-dci-init
loop-dci-init c = clear_start _ _

pub loop-dci-preserved : goal.loop-dci-preserved
loop-dci-preserved c =
    c.loop-dci.invariant ∙ clear_next _ _ _ c.loop-dci-test.true ∙ rw (c.put_word.ensures, c.route_index.ensures)

pub returns : goal.returns
returns c = sym (c.loop-dci.invariant ∙ clear_end _ _ _ (omega arith))
