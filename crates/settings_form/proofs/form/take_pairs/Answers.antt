use mathlib.Core.Path.{refl, sym, ap, ◌∙◌}
use native.Mathlib.Omega.{arith}
use lib.Seq.{sets}
use Rattle.settings_form.proofs.Read.{form_long, pairs_are, pairs_next, pairs_done}
use Rattle.settings_form.proofs.form.take_pairs.Goals as goal

pub overflow_sub-i-end : goal.overflow_sub-i-end
overflow_sub-i-end c = omega (arith, form_long _ c.requires.0)

pub loop-i-init : goal.loop-i-init
loop-i-init c = ap (sets _ 0) (pairs_are _ c.requires.0)

pub loop-i-preserved : goal.loop-i-preserved
loop-i-preserved c = c.loop-i.invariant ∙ pairs_next _ _ _ _ (omega arith) (omega (arith, c.type_inv.form)) refl

pub returns : goal.returns
returns c = sym (c.loop-i.invariant ∙ pairs_done _ _ _ (omega arith))
