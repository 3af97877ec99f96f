use mathlib.Core.Path.{refl}
use Rattle.descriptor_raw.specs.Descriptor.{size_of}
use Rattle.descriptor_raw.specs.Write.{interface_descriptor}
use Rattle.descriptor_writer.proofs.made.interface_descriptor.Goals as goal

pub returns : goal.returns
unfolding interface_descriptor size_of
returns c = refl
