use Rattle.std.proofs.Common.{◌≡◌, drop}
use Rattle.transfer.specs.Routes.{queues, ring_for}
use Rattle.context_writer.proofs.configure.ring_of.Given as goal

abbrev pub invariant-loop-i : goal.invariant-loop-i
invariant-loop-i l = ring_for l.dci.0 (queues l.dcis l.rings) 0 ≡ ring_for l.dci.0 (drop l.i (queues l.dcis l.rings)) l.ring
