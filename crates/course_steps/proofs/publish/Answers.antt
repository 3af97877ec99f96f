use Rattle.std.proofs.Common.{sym, ◌∙◌}
use Rattle.transfer.proofs.Laws.{error_kept}
use Rattle.course_steps.specs.End.{published}
use Rattle.course_steps.proofs.Laws.{ended}
use Rattle.course_steps.proofs.publish.Goals as goal

pub returns-in-Ok : goal.returns-in-Ok
unfolding published
returns-in-Ok c =
    let e = c.publish_endpoint_routes.ensures in
    λ o ctx log. rw (e.1, ← e.0, c.in-Ok.is) (ended o c.settings_moved.ensures)

pub returns-in-Err : goal.returns-in-Err
unfolding published
returns-in-Err c =
    let e = c.publish_endpoint_routes.ensures in
    λ o ctx log. rw (e.1, error_kept _ _ _ _ _ (sym e.0 ∙ c.in-Err.is), ← e.0, c.in-Err.is) (ended o c.settings_marked.ensures)
