use mathlib.Core.Path.{◌≡◌, refl, sym, ◌∙◌}
use native.Mathlib.Omega.{arith}
use borrow.Author.Rules.{rules}
use Rattle.record_endpoint.specs.EndpointMap.{queues_of}
use Rattle.record_endpoint.proofs.Steps.{fill_none, fill_next, fill_skip, gathered_length, take_filled, queues_dcis, queues_rings, dci_made}
use Rattle.record_endpoint.proofs.pending.queues_of.Goals.{then-by-p-ne0, else-by-p-ne0}
use Rattle.record_endpoint.proofs.pending.queues_of.Goals as goal

pub loop-p-init : goal.loop-p-init
loop-p-init c = (search rules, search rules, fill_none 30 _ _ _, fill_none 30 _ _ _)

pub loop-p-preserved : goal.loop-p-preserved
loop-p-preserved c = let l = c.loop-p in elim c.if-by-p-ne0.branch [
  | then-by-p-ne0 w ↦ rw (w.dcis-is, w.rings-is, w.n-is) (
    omega arith,
    search rules,
    fill_next _ l.invariant.2 c.loop-p-test.true w.if-by-p-ne0.true (dci_made l.p c.loop-p-test.true),
    fill_next _ l.invariant.3 c.loop-p-test.true w.if-by-p-ne0.true refl,
  )
  | else-by-p-ne0 w ↦ rw (w.dcis-is, w.rings-is, w.n-is) (
    omega arith,
    search rules,
    fill_skip l.invariant.2 w.if-by-p-ne0.false,
    fill_skip l.invariant.3 w.if-by-p-ne0.false,
  )
]

pub returns : goal.returns
unfolding queues_of
returns c =
    let by = c.args.by in
    let i = c.loop-p.invariant in
    let e : c.loop-p.p ≡ 30 = omega arith in
    record {
      dcis = take_filled 30 0 _ _ _ (rw e at i.2.listed) (rw e at i.2.count) ∙ sym (queues_dcis by by 30 0);
      rings = take_filled 30 0 _ _ _ (rw e at i.3.listed) (rw e at i.3.count) ∙ sym (queues_rings by by 30 0);
      count = rw e at i.2.count ∙ gathered_length _ _ by 30 0;
      room = omega arith;
    }
