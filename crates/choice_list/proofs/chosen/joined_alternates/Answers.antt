use native.Mathlib.Omega.{arith}
use mathlib.Core.Path.{refl, ◌∙◌}
use Rattle.choice_list.proofs.Filled.{zeros, filling_goes, filling_ends}
use Rattle.choice_list.proofs.chosen.joined_alternates.Goals as goal

pub loop-j-init : goal.loop-j-init
loop-j-init c = record { room = refl; each = λ k h. absurd (omega arith); rest = λ k h. zeros 8 k }

pub loop-j-preserved : goal.loop-j-preserved
loop-j-preserved c = filling_goes _ _ _ _ _ (omega (arith, c.requires, c.loop-j-test.true)) (c.alternate_at.ensures ∙ rw c.place_of.ensures refl) c.loop-j.invariant

pub returns : goal.returns
returns c = filling_ends _ _ _ _ c.loop-j-test.false c.loop-j.auto.j-end c.loop-j.invariant
