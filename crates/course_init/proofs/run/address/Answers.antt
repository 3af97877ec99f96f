use native.Mathlib.Omega.{arith}
use Rattle.descriptor_list.proofs.Companions.{listed, joinable}
use Rattle.course_init.specs.Reading.{bring_up_of, control_ring}
use Rattle.course_init.proofs.Steps.{spaced_same, header_ended, descriptors_ended, descriptors_read}
use Rattle.course_init.proofs.run.address.Goals as goal

pub returns-in-Err : goal.returns-in-Err
unfolding control_ring
returns-in-Err c = λ rings low.
    let a = bring_up_of c.args.a rings c.args.hubs.now c.args.list.now in
    header_ended a c.args.spacing c.args.outcomes.now c.args.ctx.now c.args.routes.now c.args.log.now c.read_header.new.log c.read_header.result
    c.address_context.ensures c.route_string-path.ensures c.transaction_translator-translator.ensures low
    (c.read_header.ensures.log_value rings _ _ _ _ _ (listed _ _ c.requires.list_value).begins) c.in-Err.is

pub set_first-requires : goal.set_first-requires
set_first-requires c =
    let all = c.read_descriptors.ensures.all_read _ c.in-Ok.is in
    record {
      spaced = spaced_same (spaced_same c.requires.spaced c.address_context.auto.ctx) c.setup_max_packet.auto.ctx;
      joinable = joinable _ _ c.requires.list_value;
      all_read = (
        all,
        (
          omega (arith, all, (listed _ _ c.requires.list_value).few),
          omega (arith, c.read_descriptors.auto.log, c.read_header.auto.log, c.requires.in_bounds),
        ),
      );
    }

pub returns-in-Ok : goal.returns-in-Ok
unfolding control_ring
returns-in-Ok c = λ rings low.
    let a = bring_up_of c.args.a rings c.args.hubs.now c.args.list.now in
    descriptors_read a c.args.spacing c.args.outcomes.now c.args.ctx.now c.args.routes.now c.args.log.now c.read_header.new.log c.read_header.result
    c.address_context.ensures c.route_string-path.ensures c.transaction_translator-translator.ensures low
    (c.read_header.ensures.log_value rings _ _ _ _ _ (listed _ _ c.requires.list_value).begins) c.read_descriptors.new.log c.read_descriptors.result c.in_default.is
    c.setup_max_packet.ensures (c.read_descriptors.ensures.log_value rings _ _ _ _) c.in-Ok.is (c.set_first.ensures rings _)

pub returns-in-Err-read_descriptors : goal.returns-in-Err-read_descriptors
unfolding control_ring
returns-in-Err-read_descriptors c = λ rings low.
    let a = bring_up_of c.args.a rings c.args.hubs.now c.args.list.now in
    descriptors_ended a c.args.spacing c.args.outcomes.now c.args.ctx.now c.args.routes.now c.args.log.now c.read_header.new.log c.read_header.result
    c.address_context.ensures c.route_string-path.ensures c.transaction_translator-translator.ensures low
    (c.read_header.ensures.log_value rings _ _ _ _ _ (listed _ _ c.requires.list_value).begins) c.read_descriptors.new.log c.read_descriptors.result c.in_default.is
    c.setup_max_packet.ensures (c.read_descriptors.ensures.log_value rings _ _ _ _) c.in-Err-read_descriptors.is
