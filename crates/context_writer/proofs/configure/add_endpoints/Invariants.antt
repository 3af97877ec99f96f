use Rattle.std.proofs.Common.{◌≡◌, drop}
use Rattle.transfer.specs.Routes.{queues}
use Rattle.context.specs.Place.{written}
use Rattle.context.specs.Steps.{add_all}
use Rattle.context_writer.proofs.configure.add_endpoints.Given as goal

abbrev pub invariant-loop-w : goal.invariant-loop-w
invariant-loop-w l =
    written l.spacing (add_all l.speed (queues l.dcis l.rings) l.words) l.initial.ctx ≡ written l.spacing (add_all l.speed (queues l.dcis l.rings) (drop l.w-index l.words)) l.ctx
