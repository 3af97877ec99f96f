use mathlib.Core.Path.{refl}
use Rattle.command.specs.Course.{on_sent}
use Rattle.command.proofs.Phases.{Begins, continued, went_on}
use Rattle.course_steps.proofs.Laws.{ended}
use Rattle.course_disconnect.specs.Disconnect.{disable}
use Rattle.course_disconnect.proofs.disable.Goals as goal

pub returns-in-Done : goal.returns-in-Done
unfolding disable on_sent Begins continued
returns-in-Done c =
    λ ctx. went_on _ _ _ _ _ refl c.send.ensures c.in-Done.is (rw c.clear_slot.ensures (ended _ c.settings_moved.ensures))

pub returns-in-Failed : goal.returns-in-Failed
unfolding disable on_sent Begins continued
returns-in-Failed c =
    λ ctx. went_on _ _ _ _ _ refl c.send.ensures c.in-Failed.is (ended _ c.settings_kept.ensures)

pub returns-in-Cut : goal.returns-in-Cut
unfolding disable on_sent Begins continued
returns-in-Cut c =
    λ ctx. went_on _ _ _ _ _ refl c.send.ensures c.in-Cut.is (ended _ c.settings_kept-in-Cut.ensures)
