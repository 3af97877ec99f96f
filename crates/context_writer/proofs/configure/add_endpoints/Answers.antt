use Rattle.std.proofs.Common.{sym, ◌∙◌, arith, rules}
use native.Mathlib.Nat.{add-sub_cancel_left}
use lib.ListN.{drop_of_length-le}
use Rattle.context.specs.Place.{on_part, written}
use Rattle.context.specs.Steps.{add_all}
use Rattle.context.proofs.Steps.{add_next}
use Rattle.context_writer.proofs.Laws.{word_added, dci_given, dci_below, endpoint_room}
use Rattle.context_writer.proofs.configure.add_endpoints.Goals as goal

pub put_field-requires : goal.put_field-requires
put_field-requires c = rw c.add_flag.ensures (
  omega (arith, c.loop-w.auto.ctx, c.requires),
  (search rules, omega (arith, dci_below _ _ _ c.endpoint_descriptor-e.ensures c.endpoint_address_dci-dci.ensures)),
)

pub slice_bounds-put_endpoint-end : goal.slice_bounds-put_endpoint-end
slice_bounds-put_endpoint-end c = omega (
  arith,
  endpoint_room _ _ _ _ _ c.requires c.endpoint_descriptor-e.ensures c.endpoint_address_dci-dci.ensures,
  c.put_field.auto.block,
  c.loop-w.auto.ctx,
)

pub loop-w-preserved : goal.loop-w-preserved
unfolding on_part
loop-w-preserved c =
    let given = dci_given _ _ _ c.endpoint_descriptor-e.ensures c.endpoint_address_dci-dci.ensures in
    let below = dci_below _ _ _ c.endpoint_descriptor-e.ensures c.endpoint_address_dci-dci.ensures in
    c.loop-w.invariant ∙ add_next _ _ _ _ _ _ _ c.loop-w-test.true
    (rw (c.put_endpoint.ensures, c.endpoint_descriptor-e.ensures, add-sub_cancel_left)
    (word_added _ _ _ _ _ _ _ _ (omega (arith, c.loop-w.auto.ctx, c.requires)) given below c.ring_of-ring.ensures (c.put_field.ensures ∙ rw c.add_flag.ensures)))

pub returns : goal.returns
unfolding written add_all
returns c = sym (c.loop-w.invariant ∙ rw (drop_of_length-le c.args.words.now {i = c.loop-w.w-index} c.loop-w-test.false))
