-- A parent across the C boundary: there exactly if the flag is not 0, and then the index that C gives.
use Prim.Native.Nat.{ℕ, ◌+◌}
use mathlib.Core.Path.{◌≡◌}
use borrow.Author.Rules.{rules}
use Rattle.std.specs.Prelude.{Some, None}
use Rattle.device_image.specs.Image.{is_set}
use Rattle.xhci_device.specs.Parent.{parent_of}

pub no_parent : (index : ℕ) → parent_of 0 index ≡ None
unfolding parent_of is_set
no_parent index = search rules

pub parent_there : (flag index : ℕ) → parent_of (flag + 1) index ≡ Some index
unfolding parent_of is_set
parent_there flag index = search rules
