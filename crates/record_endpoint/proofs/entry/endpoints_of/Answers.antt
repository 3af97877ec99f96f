use mathlib.Core.Path.{◌≡◌, refl}
use native.Mathlib.Omega.{arith}
use borrow.Author.Rules.{rules}
use Rattle.record_endpoint.specs.EndpointMap.{endpoint_at, endpoints_of, owners_of}
use Rattle.record_endpoint.proofs.Steps.{fill_none, fill_next, fill_skip, address_made}
use Rattle.record_endpoint.proofs.entry.endpoints_of.Goals.{then-c-p-ne0, else-c-p-ne0}
use Rattle.record_endpoint.proofs.entry.endpoints_of.Goals as goal

pub loop-p-init : goal.loop-p-init
loop-p-init c = (search rules, fill_none 30 _ _ _, fill_none 30 _ _ _)

pub loop-p-preserved : goal.loop-p-preserved
unfolding endpoint_at
loop-p-preserved c = let l = c.loop-p in let d = c.args.c in elim c.if-c-p-ne0.branch [
  | then-c-p-ne0 w ↦ rw (w.eps-is, w.owners-is, w.n-is) (
    omega arith,
    fill_next _ l.invariant.1 c.loop-p-test.true w.if-c-p-ne0.true (rw (address_made l.p c.loop-p-test.true, w.from.ensures)),
    fill_next _ l.invariant.2 c.loop-p-test.true w.if-c-p-ne0.true refl,
  )
  | else-c-p-ne0 w ↦ rw (w.eps-is, w.owners-is, w.n-is) (
    omega arith,
    fill_skip l.invariant.1 w.if-c-p-ne0.false,
    fill_skip l.invariant.2 w.if-c-p-ne0.false,
  )
]

pub returns : goal.returns
unfolding endpoints_of owners_of
returns c = let i = c.loop-p.invariant in
    let e : c.loop-p.p ≡ 30 = omega arith in
    record { eps = rw e at i.1.listed; owners = rw e at i.2.listed; count = rw e at i.1.count; room = omega arith }
