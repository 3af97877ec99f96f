use mathlib.Core.Path.{sym, ◌∙◌}
use Rattle.descriptor_reader.proofs.Settled.{kept_without, kept_other, kept_isochronous, mult_inside, mult_lost}
use Rattle.descriptor_reader.proofs.words.settled_word.Goals as goal
use Rattle.descriptor_reader.proofs.words.settled_word.Goals.{then-not-companions-via-then-not-companions, then-not-companions-via-else-not-companions+then-not-is_companion, then-not-companions-via-else-not-companions+else-not-is_companion+then-is_isochronous}

pub returns-then-not-companions : goal.returns-then-not-companions
returns-then-not-companions c =
    elim c.then-not-companions.branch [
      | then-not-companions-via-then-not-companions w ↦ kept_without _ _ _ w.if-not-companions.true
      | then-not-companions-via-else-not-companions+then-not-is_companion w ↦ kept_other _ _ _ (sym w.is_companion.ensures ∙ w.if-not-is_companion.true)
      | then-not-companions-via-else-not-companions+else-not-is_companion+then-is_isochronous w ↦
          kept_isochronous _ _ _ (sym w.is_isochronous.ensures ∙ w.if-is_isochronous.true)
    ]

pub overflow_sub-result : goal.overflow_sub-result
overflow_sub-result c = mult_inside c.args.companions c.args.last _ _ c.companion_mult.ensures

pub returns : goal.returns
returns c =
    mult_lost _ _ _ _ c.companion_mult.ensures c.if-not-companions.false
    (sym c.is_companion.ensures ∙ c.if-not-is_companion.false) (sym c.is_isochronous.ensures ∙ c.if-is_isochronous.false)
