use native.Mathlib.Omega.{arith}
use Rattle.descriptor_reader.proofs.Step.{whole_is}
use Rattle.descriptor_reader.proofs.cut.Descriptor.kind.Goals as goal

pub bounds-self-1 : goal.bounds-self-1
bounds-self-1 c = omega (arith, (whole_is _ _ c.args.self.whole).least)
