use Rattle.hub.proofs.Laws.{depth_below}
use Rattle.hub.proofs.way.Way.above.Goals as goal

pub invariant_of-result : goal.invariant_of-result
invariant_of-result c = record { shallow = rw (c.hub_at.ensures) (depth_below c.args.hubs.now c.args.at) }
