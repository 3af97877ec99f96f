-- One call after another.
use Prim.Native.Nat.{ℕ}
use mathlib.Core.Path.{◌≡◌}
use mathlib.Core.Bool.{true}
use mathlib.Core.List.{List}
use Rattle.device.specs.Left.{Left}
use Rattle.device_image.specs.Image.{decode, is_image}
use Rattle.device_image.specs.Fits.{Fits}
use Rattle.device_image.proofs.Laws.{decode_encode, image_encode}
use Rattle.xhci_device.specs.Crossed.{crossed}

-- The image that a call leaves is one, and says the record that the call returned.
module _ (left : Left) (image ctx routes log : List ℕ) (fits : Fits left.device) where
  pub image_left : is_image (crossed true left image ctx routes log).image ≡ true
  unfolding crossed
  image_left = image_encode left.device fits

  pub record_left : decode (crossed true left image ctx routes log).image ≡ left.device
  unfolding crossed
  record_left = decode_encode left.device fits
