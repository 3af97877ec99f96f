use Prim.Native.Nat.{◌/◌, ◌%◌}
use mathlib.Core.Path.{◌≡◌}
use native.Mathlib.Omega.{arith}
use Rattle.descriptor_raw.specs.Descriptor.{size_of}
use Rattle.descriptor_raw.specs.Write.{endpoint_bytes}
use Rattle.descriptor_writer.proofs.made.endpoint_bytes.Goals as goal

pub returns : goal.returns
unfolding endpoint_bytes size_of
returns c = let high : c.args.packet / 256 % 256 ≡ c.args.packet / 256 = omega (arith, c.ranges.packet.fits) in rw (c.to_le_bytes.ensures, high)
