use Rattle.std.proofs.Common.{◌≡◌, sym, ◌∙◌, get_or, rules}
use borrow.Author.Tests.{eq-eqb, ne_eqb}
use Rattle.std.proofs.lemmas.Option.{unwrap_or-slice_get}
use Rattle.context.proofs.Steps.{ring_taken, ring_left, ring_none}
use Rattle.context_writer.proofs.configure.ring_of.Goals.{then-d-dci, else-d-dci}
use Rattle.context_writer.proofs.configure.ring_of.Goals as goal

pub loop-i-preserved : goal.loop-i-preserved
loop-i-preserved c = c.loop-i.invariant ∙ elim c.if-d-dci.branch [
  | then-d-dci w ↦
      let e : w.unwrap_or-ring.result ≡ get_or c.args.rings.now c.loop-i.i 0 = search (rules, unwrap_or-slice_get) in
      rw (w.ring-is, e) (ring_taken _ _ _ _ _ c.loop-i-test.true (eq-eqb _ _ w.if-d-dci.true))
  | else-d-dci w ↦ rw w.ring-is (ring_left _ _ _ _ _ c.loop-i-test.true (ne_eqb _ _ w.if-d-dci.false))
]

pub returns : goal.returns
returns c = sym (c.loop-i.invariant ∙ ring_none c.args.dci.0 c.args.dcis.now c.args.rings.now c.loop-i.i c.loop-i.ring c.loop-i-test.false)
