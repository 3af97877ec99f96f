use Rattle.std.proofs.Common.{◌∙◌}
use Rattle.course_steps.specs.End.{resumed}
use Rattle.course_steps.proofs.Laws.{dcis_in_lem, ended_resumed}
use Rattle.course_steps.proofs.resume.Goals as goal

pub returns : goal.returns
unfolding resumed
returns g c =
    λ of ctx routes f.
    rw (← dcis_in_lem)
    (ended_resumed _ _ _ _ of (c.resume_stopped_endpoints-back.ensures ctx) (c.settings_kept.ensures ∙ rw (f _ _ c.answer.ensures)))
