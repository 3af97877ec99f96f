use Prim.Native.Nat.{◌+◌}
use mathlib.Core.Path.{◌≡◌}
use Rattle.descriptor_raw.specs.Claims.{interfaces_after}
use Rattle.descriptor_raw.specs.Read.{descriptors}
use Rattle.descriptor_raw.proofs.Made.{numbers_after}
use Rattle.descriptor_raw.proofs.Unmarked.{unmarked}
use Rattle.descriptor_reader.proofs.claims.count_interfaces.Given as goal

abbrev pub invariant-loop-d : goal.invariant-loop-d
invariant-loop-d l =
    l.marks.count + unmarked l.marks (numbers_after (descriptors l.d-iterator.bytes.now)) ≡ interfaces_after (descriptors l.fn.after.bytes.now)
