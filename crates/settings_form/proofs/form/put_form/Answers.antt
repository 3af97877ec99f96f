use mathlib.Core.Path.{refl, ◌∙◌}
use native.Mathlib.Nat.{mod-lt}
use native.Mathlib.Omega.{arith}
use Rattle.settings_form.proofs.Bits.{carried_next, carried_done}
use Rattle.settings_form.proofs.form.put_form.Goals as goal

pub loop-i-preserved : goal.loop-i-preserved
loop-i-preserved c =
    record {
      six_bits = mod-lt _ (omega arith);
      carries = c.loop-i.invariant.carries ∙ carried_next _ c.args.pairs.now _ c.loop-i.i _ _ (omega arith) refl refl;
    }

pub returns : goal.returns
returns c = carried_done _ _ _ _ _ _ (omega arith) c.requires.0 (λ k h. omega (arith, c.type_inv.pairs k)) (omega arith) c.loop-i.invariant.carries
