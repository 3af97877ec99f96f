use Rattle.std.proofs.Common.{rules}
use Rattle.command.specs.Command.{resume_command}
use Rattle.command.specs.Sweep.{resume_stopped_endpoints}
use Rattle.course_steps.specs.Arrays.{dcis_in}
use Rattle.course_steps.proofs.Loops.{each_resumed}
use Rattle.course_steps.proofs.resume_stopped_endpoints.Goals as goal

pub returns : goal.returns
unfolding resume_stopped_endpoints dcis_in
returns c = λ ctx. rw (← each_resumed ctx _ 0, ← c.dcis.ensures) (c.send_each.ensures.as_sent resume_command ctx (λ d e h p. search rules))
