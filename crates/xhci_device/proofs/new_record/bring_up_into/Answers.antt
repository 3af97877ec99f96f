use Rattle.xhci_device.proofs.Steps.{made_none, made}
use Rattle.xhci_device.proofs.new_record.bring_up_into.Goals as goal

pub returns-then-image-ne-WORDS : goal.returns-then-image-ne-WORDS
returns-then-image-ne-WORDS c = made_none _ _ _ _ _ _ c.if-image-ne-WORDS.true c.answered_of.ensures

pub returns : goal.returns
returns c =
    made _ _ _ _ _ c.bring_up-called.result _ _ _ _ _ c.if-image-ne-WORDS.false c.bring_up-called.ensures
    c.answered_of-2.ensures c.encode.ensures
