use mathlib.Core.Path.{◌∙◌}
use Rattle.transfer.specs.Routes.{queues}
use Rattle.course_steps.specs.Arrays.{dcis_in, queues_in}
use Rattle.course_set_configuration.specs.SetConfiguration.{settings_of, value_context}
use Rattle.course_set_configuration.proofs.Exits.{published, not_published}
use Rattle.course_set_configuration.proofs.run.publish.Goals as goal

pub returns-in_default : goal.returns-in_default
unfolding queues_in dcis_in queues
returns-in_default c =
    λ list. not_published (settings_of c.args.a list) c.args.outcomes.now
    c.args.ctx.now c.args.routes.now c.args.log.now c.publish_endpoint_routes.new.routes
    c.args.n _ c.publish_endpoint_routes.result c.publish_endpoint_routes.ensures _ c.in_default.is c.settings_kept.ensures

pub returns : goal.returns
unfolding value_context queues_in dcis_in queues
returns c =
    λ list. published (settings_of c.args.a list) c.args.outcomes.now
    c.args.ctx.now c.args.routes.now c.args.log.now c.publish_endpoint_routes.new.routes
    c.args.n _ c.publish_endpoint_routes.result c.publish_endpoint_routes.ensures c.configuration_context.new.ctx c.send-s.new.log
    c.send-s.result c.in-Ok.is (c.configuration_context.ensures c.args.a.spacing)
    c.send-s.ensures (c.settings_moved.ensures ∙ rw c.answer_after-answer.ensures)
