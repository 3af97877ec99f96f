use mathlib.Core.Path.{sym, ◌∙◌}
use Rattle.record_ring.proofs.Laws.{any_elem}
use Rattle.record_checks.proofs.Steps.{enter_room, enter_old, enter_new, enter_end}
use Rattle.record_checks.proofs.quarantine.Quarantine.enter.Goals as goal
use Rattle.record_checks.proofs.quarantine.Quarantine.enter.Goals.{then-not-contains, else-not-contains}

pub push-requires : goal.push-requires
push-requires c = let l = c.loop-ring in
    enter_room c.args.rings.now l.ring-index l.self c.loop-ring-test.true (sym (any_elem _ _) ∙ sym c.contains.ensures.value ∙ c.if-not-contains.true) (rw (← l.invariant) c.requires)

pub loop-ring-preserved : goal.loop-ring-preserved
loop-ring-preserved c = let l = c.loop-ring in
    let among = sym (any_elem _ _) ∙ sym c.contains.ensures.value in
    elim c.if-not-contains.branch [
      | then-not-contains w ↦ rw (w.self-is, w.push.ensures) (l.invariant ∙ enter_new c.args.rings.now l.ring-index l.self c.loop-ring-test.true (among ∙ w.if-not-contains.true))
      | else-not-contains w ↦ rw w.self-is (l.invariant ∙ enter_old c.args.rings.now l.ring-index l.self c.loop-ring-test.true (among ∙ w.if-not-contains.false))
    ]

pub returns : goal.returns
returns c = let l = c.loop-ring in sym (l.invariant ∙ enter_end _ _ _ c.loop-ring-test.false)
