use mathlib.Core.Path.{sym, ◌∙◌}
use Rattle.device.specs.Check.{hub_check}
use Rattle.device.proofs.Laws.{returned, refused_first, own_check}
use Rattle.device.proofs.hub_update.hub_check.Goals as goal

pub returns-in_err-record_check : goal.returns-in_err-record_check
returns-in_err-record_check c =
    returned _ _ c.from_residual.ensures.1 ∙ sym c.in_err-record_check.was ∙ refused_first _ _ _ _ _ _ c.record_check.ensures _ c.in_err-record_check.was

pub returns : goal.returns
unfolding hub_check
returns c = own_check _ _ _ _ _ (hub_check c.args.d.now c.args.ns) c.record_check.ensures c.in_ok-record_check.was _ c.think_check.ensures
