use Rattle.std.proofs.Common.{◌≡◌, ◌+◌, ◌-◌}
use Rattle.dispatcher.specs.Dispatcher.{waiting, first_waiting}
use Rattle.dispatcher.proofs.first_waiting.Given as goal

abbrev pub invariant-loop-k : goal.invariant-loop-k
invariant-loop-k l = first_waiting (waiting l.marks) 256 l.from ≡ first_waiting (waiting l.marks) (256 - l.k) (l.from + l.k)
