-- A word behind another, by what is tested of the two.
use Prim.Native.Nat.{ℕ, ◌-◌, ◌*◌, ◌≤◌}
use mathlib.Core.Path.{◌≡◌}
use mathlib.Core.Bool.{Bool, true, false, and-false}
use native.Mathlib.Omega.{arith}
use lib.Dec.{eqb}
use Rattle.descriptor.specs.Word.{COMPANION, kind, is_companion, companion_mult}
use Rattle.descriptor_raw.specs.Read.{is_isochronous, settled_word}

module _ (super : Bool) (p w : ℕ) where
  pub kept_without : super ≡ false → w ≡ settled_word super p w
  unfolding settled_word
  kept_without e = rw e

  pub kept_other : is_companion w ≡ false → w ≡ settled_word super p w
  unfolding settled_word is_companion
  kept_other e = rw (e, and-false super)

  pub kept_isochronous : is_isochronous p ≡ true → w ≡ settled_word super p w
  unfolding settled_word
  kept_isochronous e = rw (e, and-false (eqb (kind w) COMPANION), and-false super)

  module _ (m : ℕ) (e : m ≡ companion_mult w) where
    pub mult_inside : m * 0x1000000 ≤ w
    unfolding companion_mult
    mult_inside = omega arith

    pub mult_lost : super ≡ true → is_companion w ≡ true → is_isochronous p ≡ false → w - m * 0x1000000 ≡ settled_word super p w
    unfolding settled_word is_companion
    mult_lost u c i = rw (u, c, i, e)
