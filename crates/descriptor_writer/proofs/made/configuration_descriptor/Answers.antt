use Prim.Native.Nat.{◌/◌, ◌%◌}
use mathlib.Core.Path.{◌≡◌}
use native.Mathlib.Omega.{arith}
use Rattle.descriptor_raw.specs.Descriptor.{size_of}
use Rattle.descriptor_raw.specs.Write.{configuration_descriptor}
use Rattle.descriptor_writer.proofs.made.configuration_descriptor.Goals as goal

pub returns : goal.returns
unfolding configuration_descriptor size_of
returns c = let high : c.args.total / 256 % 256 ≡ c.args.total / 256 = omega (arith, c.requires.0) in rw (c.to_le_bytes.ensures, high)
