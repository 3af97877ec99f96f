use mathlib.Core.Path.{ap, ◌∙◌}
use Rattle.device.specs.Sound.{sound}
use Rattle.xhci_device.proofs.Steps.{only_image, zeros_unsound}
use Rattle.xhci_device.proofs.sound.xhci_device_is_sound.Goals as goal

pub returns : goal.returns
returns c =
    c.sound.ensures ∙ ap sound c.decode-d.ensures
    ∙ only_image sound zeros_unsound c.args.image.now
