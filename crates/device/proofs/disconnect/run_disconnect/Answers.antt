use Rattle.device.specs.Disconnect.{disconnect}
use Rattle.device.proofs.Exits.{refused_left}
use Rattle.device.proofs.DisconnectLaws.{disconnect_passed, course_active, disconnect_left}
use Rattle.device.proofs.disconnect.run_disconnect.Goals as goal

pub returns-in-Err : goal.returns-in-Err
unfolding disconnect
returns-in-Err c =
    rw c.refused.ensures (refused_left _ _ c.disconnect_check.ensures _ c.in-Err.is c.args.d.now _
    c.args.ctx.now c.args.routes.now c.args.log.now)

pub endpoint_map_in-c-requires : goal.endpoint_map_in-c-requires
endpoint_map_in-c-requires c = (disconnect_passed _ _ _ _ _ c.disconnect_check.ensures c.in_default.is).facts.counts.endpoints

pub disconnect-e-requires : goal.disconnect-e-requires
disconnect-e-requires c = (disconnect_passed _ _ _ _ _ c.disconnect_check.ensures c.in_default.is).room

pub disconnect_end-requires : goal.disconnect_end-requires
disconnect_end-requires c = (
  (disconnect_passed _ _ _ _ _ c.disconnect_check.ensures c.in_default.is).is_sound,
  c.endpoint_map_in-c.ensures,
  c.queues_of-q.ensures,
  course_active c.args.d.now c.endpoint_map_in-c.result c.queues_of-q.result c.disconnect-e.result _ c.args.ctx.now
      c.args.routes.now c.args.log.now _ _ c.endpoint_map_in-c.ensures c.queues_of-q.ensures
      (c.disconnect-e.ensures c.args.ctx.now),
)

pub returns : goal.returns
returns c =
    disconnect_left c.args.d.now c.endpoint_map_in-c.result c.queues_of-q.result c.disconnect-e.result _ c.args.ctx.now
    c.args.routes.now c.args.log.now _ _ c.endpoint_map_in-c.ensures c.queues_of-q.ensures
    (c.disconnect-e.ensures c.args.ctx.now) _ _ c.disconnect_check.ensures c.in_default.is
    (c.disconnect_end.ensures _ _ _)
