use mathlib.Core.Path.{refl, sym, ◌∙◌}
use native.Mathlib.Omega.{arith}
use Rattle.record_settings.specs.Held.{held_in, held_words}
use Rattle.course_steps.specs.End.{answer_of}
use Rattle.course_steps.specs.Arrays.{dcis_in, queues_in, course_leaves}
use Rattle.transfer.specs.Routes.{queues}
use Rattle.course_init.specs.Reading.{bring_up_of}
use Rattle.course_init.specs.Init.{bring_up_settings}
use Rattle.course_init.proofs.Steps.{unless_accepted, first_room, none_to_set, set_done, set_refused}
use Rattle.course_init.proofs.run.set_first.Goals as goal

pub returns-then-list-eq0 : goal.returns-then-list-eq0
unfolding answer_of
returns-then-list-eq0 c = λ rings hubs.
    none_to_set (bring_up_of c.args.a rings hubs c.args.list.now) _ _ _ _ _ _ _ _ c.if-list-eq0.true c.after_reading.ensures

pub run_set_configuration-e-requires : goal.run_set_configuration-e-requires
run_set_configuration-e-requires c =
    record {
      room = first_room _ _ _ c.requires.spaced refl;
      joinable = c.requires.joinable;
      count_in_bounds = omega (arith, c.requires.all_read.1.0, c.requires.all_read.1.1);
    }

pub returns-in-Accepted : goal.returns-in-Accepted
unfolding bring_up_settings held_in held_words queues_in dcis_in queues
returns-in-Accepted c =
    λ rings hubs. let a = c.args.a in let list = c.args.list.now in let p = course_leaves c.run_set_configuration-e.result
    c.run_set_configuration-e.new.ctx c.run_set_configuration-e.new.routes c.run_set_configuration-e.new.log
    in set_done (bring_up_of a rings hubs list) c.args.spacing c.args.ctx.now c.args.routes.now
    c.args.outcomes.now _ c.args.read c.args.log.now p (omega (arith, c.if-list-eq0.false)) (sym (c.run_set_configuration-e.ensures ∙
    rw c.configuration_value.ensures))
    c.requires.all_read.0 c.configuration_value.result c.in-Accepted.is c.configuration_value.ensures

pub returns-in_default : goal.returns-in_default
unfolding bring_up_settings held_in held_words queues_in dcis_in queues
returns-in_default c =
    λ rings hubs. let a = c.args.a in let list = c.args.list.now in let p = course_leaves c.run_set_configuration-e.result
    c.run_set_configuration-e.new.ctx c.run_set_configuration-e.new.routes c.run_set_configuration-e.new.log
    in set_refused (bring_up_of a rings hubs list) c.args.spacing c.args.ctx.now c.args.routes.now
    c.args.outcomes.now _ c.args.read c.args.log.now p (omega (arith, c.if-list-eq0.false)) (sym (c.run_set_configuration-e.ensures ∙
    rw c.configuration_value.ensures))
    c.requires.all_read.0 (unless_accepted _ c.in_default.not-Accepted)
