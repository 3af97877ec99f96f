use Prim.Native.Nat.{◌+◌}
use mathlib.Core.Path.{sym, ◌∙◌}
use native.Mathlib.Omega.{arith}
use mathlib.Core.Logic.{inl, inr}
use Rattle.record_ring.proofs.Steps.{any_rest, fit_go, fit_stop, fit_none}
use Rattle.record_ring.proofs.rings_apart.Goals.{then-not-ring_ok-via-then-not-ring_ok, then-not-ring_ok-via-else-not-ring_ok+then-contains}
use Rattle.record_ring.proofs.rings_apart.Goals as goal

pub returns-then-not-ring_ok : goal.returns-then-not-ring_ok
returns-then-not-ring_ok c =
    sym (c.loop-i.invariant ∙ fit_stop _ _ c.loop-i-test.true (elim c.then-not-ring_ok.branch [
      | then-not-ring_ok-via-then-not-ring_ok w ↦ inl (sym c.ring_ok.ensures ∙ w.if-not-ring_ok.true)
      | then-not-ring_ok-via-else-not-ring_ok+then-contains w ↦ inr (sym (any_rest _ (c.loop-i.i + 1) c.args.rings.now) ∙ sym w.contains.ensures.value ∙ w.if-contains.true)
    ]))

pub loop-i-preserved : goal.loop-i-preserved
loop-i-preserved c =
    c.loop-i.invariant ∙ fit_go _ _ c.loop-i-test.true (sym c.ring_ok.ensures ∙ c.if-not-ring_ok.false) (sym (any_rest _ (c.loop-i.i + 1) c.args.rings.now) ∙ sym c.contains.ensures.value ∙ c.if-contains.false)

pub returns : goal.returns
returns c = sym (c.loop-i.invariant ∙ fit_none c.args.rings.now c.loop-i.i (omega arith))
