use Rattle.device.specs.declared.record.Device.{Device}
use Rattle.xhci_device.proofs.Steps.{only_image, zeros_unusable}
use Rattle.xhci_device.proofs.record.xhci_device_is_usable.Goals as goal

pub returns : goal.returns
returns c = rw c.decode-d.ensures (only_image (λ (d : Device). d.usable) zeros_unusable c.args.image.now)
