use native.Mathlib.Omega.{arith}
use Rattle.descriptor_writer.proofs.Placed.{putting_start, put_all_done, put_small, putting_next}
use Rattle.descriptor_writer.proofs.put.put_all.Goals as goal

pub loop-w-init : goal.loop-w-init
loop-w-init c = putting_start _ _ c.requires.0

pub overflow_add-at : goal.overflow_add-at
overflow_add-at c = omega (arith, put_small _ _ _ _ _ c.loop-w.invariant _ _ c.in-Some.ensures.cases.0 c.requires.1 _ c.put_descriptor-at.ensures.0)

pub loop-w-preserved : goal.loop-w-preserved
loop-w-preserved c = putting_next _ _ _ _ _ c.loop-w.invariant _ _ c.in-Some.ensures.cases.0 c.requires.1 _ _ c.put_descriptor-at.ensures

pub returns : goal.returns
returns c = put_all_done _ _ _ _ _ c.loop-w.invariant c.in_default.ensures.cases
