use Rattle.device.specs.Device.{rebuilt, with_usable}
use Rattle.device.proofs.Exits.{marked_used}
use Rattle.device.proofs.update.mark.Goals as goal

pub returns : goal.returns
unfolding with_usable rebuilt
returns c = rw c.still_usable-d.ensures (marked_used c.args.a c.args.d.now)
