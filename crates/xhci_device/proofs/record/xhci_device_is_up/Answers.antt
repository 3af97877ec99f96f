use Rattle.device.specs.declared.record.Device.{Device}
use Rattle.xhci_device.proofs.Steps.{only_image, zeros_not_up}
use Rattle.xhci_device.proofs.record.xhci_device_is_up.Goals as goal

pub returns : goal.returns
returns c = rw c.decode-d.ensures (only_image (λ (d : Device). d.up) zeros_not_up c.args.image.now)
