use mathlib.Core.Path.{◌≡◌}
use Rattle.descriptor_raw.specs.Read.{descriptors, bursts_fit}
use Rattle.descriptor_reader.proofs.bursts.bursts_fit.Given as goal

abbrev pub invariant-loop-d : goal.invariant-loop-d
invariant-loop-d l =
    bursts_fit l.d-iterator.companions (descriptors l.d-iterator.bytes.now) ≡ bursts_fit l.all.companions (descriptors l.all.bytes.now)
