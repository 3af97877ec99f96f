use mathlib.Core.Path.{◌≡◌, sym, ◌∙◌}
use native.Mathlib.Omega.{arith}
use borrow.Author.Rules.{rules}
use lib.ListN.{get_or, length-set}
use lib.Seq.{set_out}
use Rattle.record_endpoint.specs.EndpointMap.{pending_rings}
use Rattle.record_endpoint.proofs.Steps.{pending_next, pending_none}
use Rattle.record_endpoint.proofs.pending.pending_rings.Goals.{in-Some, in_default}
use Rattle.record_endpoint.proofs.pending.pending_rings.Goals as goal

pub loop-i-preserved : goal.loop-i-preserved
loop-i-preserved c =
    let l = c.loop-i in
    let a = c.args in
    let e = l.invariant.1 ∙ pending_next a.words.now a.rings.now l.by l.i c.loop-i-test.true in
    elim c.match-place_of.branch [
      | in-Some w ↦
          let offered : w.unwrap_or.result ≡ get_or a.rings.now l.i 0 = search rules in
          rw w.by-is (simp length-set l.invariant.0, e ∙ rw (← c.endpoint_descriptor-e.ensures, ← w.in-Some.ensures.value, offered))
      | in_default w ↦ rw w.by-is (
        l.invariant.0,
        e ∙ rw (← c.endpoint_descriptor-e.ensures, ← w.in_default.ensures.value, set_out l.by 30 (get_or a.rings.now l.i 0) (omega (arith, l.invariant.0))),
      )
    ]

pub returns : goal.returns
unfolding pending_rings
returns c = sym (c.loop-i.invariant.1 ∙ pending_none c.args.words.now _ _ c.loop-i.i (omega arith))
