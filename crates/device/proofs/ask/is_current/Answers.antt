use mathlib.Core.Path.{◌∙◌}
use Rattle.device.proofs.AskLaws.{other_drops, other_adds, same_flags, same_pointwise}
use Rattle.device.proofs.ask.is_current.Goals.{then-asked-shown-via-then-asked-shown, then-asked-shown-via-else-asked-shown+then-asked-shown-2}
use Rattle.device.proofs.ask.is_current.Goals as goal

pub returns-then-asked-shown : goal.returns-then-asked-shown
returns-then-asked-shown c =
    let a = c.args.asked in
    let r = c.show_claim-shown in
    elim c.then-asked-shown.branch [
      | then-asked-shown-via-then-asked-shown w ↦
          other_drops a.interface a.alternate a.drops a.adds a.rings.now r.result _ _ r.ensures w.if-asked-shown.true
      | then-asked-shown-via-else-asked-shown+then-asked-shown-2 w ↦
          other_adds a.interface a.alternate a.drops a.adds a.rings.now r.result _ _ r.ensures w.if-asked-shown.false w.if-asked-shown-2.true
    ]

pub returns : goal.returns
returns c =
    let a = c.args.asked in
    let r = c.show_claim-shown in
    same_flags a.interface a.alternate a.drops a.adds a.rings.now r.result _ _ r.ensures c.if-asked-shown.false c.if-asked-shown-2.false _ (c.eq.ensures ∙ same_pointwise _ _)
