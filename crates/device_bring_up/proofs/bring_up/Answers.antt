use Rattle.course_init.specs.Reading.{bring_up_of, control_ring}
use Rattle.device_bring_up.proofs.Steps.{refused_left, passed_left, course_room, spacing_taken, record_room}
use Rattle.device_bring_up.proofs.bring_up.Goals as goal

pub returns-in-Err : goal.returns-in-Err
unfolding control_ring
returns-in-Err c =
    refused_left (bring_up_of c.args.a c.args.rings.now c.args.hubs.now c.args.list.now) c.args.ctx.now
    c.args.routes.now c.args.log.now c.enter-check.ensures c.args.outcomes.now c.no_device.result _
    c.in-Err.is c.no_device.ensures

pub address-e-requires : goal.address-e-requires
address-e-requires c =
    let r = course_room _ _ _ _ c.enter-check.ensures.0 c.in_default.is c.spacing_of-spacing.ensures in
    record { spaced = r.0; in_bounds = r.1.0; list_value = r.1.1 }

pub brought-requires : goal.brought-requires
brought-requires c =
    record { max_slots_bound = record_room _ _ _ _ c.enter-check.ensures.0 c.in_default.is; ring_value = c.least-ring.ensures }

pub returns : goal.returns
unfolding control_ring
returns c =
    passed_left (bring_up_of c.args.a c.args.rings.now c.args.hubs.now c.args.list.now) c.args.ctx.now
    c.args.routes.now c.args.log.now c.enter-check.ensures _ c.in_default.is (spacing_taken _ _ _ _
    c.enter-check.ensures.0 c.in_default.is c.spacing_of-spacing.result c.spacing_of-spacing.ensures)
    (c.address-e.ensures c.args.rings.now c.least-ring.ensures) (c.brought.ensures c.args.hubs.now c.address-e.new.ctx c.address-e.new.routes
    c.address-e.new.log)
