use mathlib.Core.Path.{◌≡◌, sym, ap, ◌∙◌}
use native.Mathlib.Omega.{arith}
use borrow.Author.Rules.{rules}
use lib.ListN.{get_or}
use Rattle.record_endpoint.specs.EndpointMap.{with_endpoint, endpoint_map_from, endpoint_map_of}
use Rattle.record_endpoint.proofs.Steps.{map_next, map_done, whole_entry, entry_out}
use Rattle.record_endpoint.proofs.endpoint_map.endpoint_map_of.Goals.{in-Some, in_default}
use Rattle.record_endpoint.proofs.endpoint_map.endpoint_map_of.Goals as goal

pub loop-i-preserved : goal.loop-i-preserved
unfolding with_endpoint
loop-i-preserved c =
    let l = c.loop-i in
    let e = l.invariant.1 ∙ map_next _ _ _ _ _ c.loop-i-test.true in
    elim c.match-place_of.branch [
      | in-Some w ↦
          let owner : w.unwrap_or.result ≡ get_or c.args.owners.now l.i 0 = search rules in
          rw w.c-is (
            whole_entry _ _ _ _ _ l.invariant.0,
            e ∙ rw (← w.in-Some.ensures.value, w.is_active.ensures, owner),
          )
      | in_default w ↦ rw w.c-is (
        l.invariant.0,
        e ∙ ap (endpoint_map_from _ _ _) (entry_out l.c _ _ _ _ l.invariant.0 (omega (arith, w.in_default.ensures.value))),
      )
    ]

pub returns : goal.returns
unfolding endpoint_map_of
returns c = sym (c.loop-i.invariant.1 ∙ map_done _ _ _ _ _ (omega arith))
