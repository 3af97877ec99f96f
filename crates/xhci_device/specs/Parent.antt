-- A device's parent, as C gives it.
use Rattle.std.specs.Prelude.{ℕ, cond, Option, Some, None}
use Rattle.device_image.specs.Image.{is_set}

unfoldable pub parent_of : ℕ → ℕ → Option ℕ
parent_of has_parent parent = cond (is_set has_parent) (Some parent) None
