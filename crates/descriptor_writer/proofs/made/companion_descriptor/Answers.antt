use Prim.Native.Nat.{◌/◌, ◌%◌}
use mathlib.Core.Path.{◌≡◌}
use native.Mathlib.Omega.{arith}
use Rattle.descriptor_raw.specs.Descriptor.{size_of}
use Rattle.descriptor_raw.specs.Write.{companion_descriptor}
use Rattle.descriptor_writer.proofs.made.companion_descriptor.Goals as goal

pub returns : goal.returns
unfolding companion_descriptor size_of
returns c =
    let high : c.args.per_interval / 256 % 256 ≡ c.args.per_interval / 256 = omega (arith, c.ranges.per_interval.fits) in
    rw (c.to_le_bytes.ensures, high)
