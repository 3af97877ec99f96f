-- The release of an interface that is not claimed, by the exported function: 25, and nothing else happens.
use Rattle.std.specs.Prelude.{ℕ, ◌≡◌, ◌↔◌, true, List}
use Rattle.device.specs.Release.{release}
use Rattle.device_image.specs.Image.{decode, is_image}
use Rattle.xhci_device.specs.Crossed.{Crossed, CrossedAs}
use Rattle.theorem_slot.specs.Call.{Buffers}
use Rattle.theorem_checks.specs.Unclaimed.{IdleRelease}
use Rattle.theorem_library.specs.Ask.{Untouched}

-- A call of the function that releases, by its contract.
abbrev pub Releases : List ℕ → Buffers → List ℕ → ℕ → Crossed → Type 0
Releases image b routes interface x =
    CrossedAs x (is_image image) (release (decode image) b.ctx routes b.log b.outcomes interface) image b.ctx routes b.log

-- Where the buffer holds a record that passes 12, 1, 2 and 3 and in which the interface holds no setting.
abbrev pub IdleImage : List ℕ → Buffers → List ℕ → ℕ → Type 0
IdleImage image b routes interface = (is_image image ≡ true) × IdleRelease (decode image) b routes interface

pub record UnclaimedAcross (image : List ℕ) (b : Buffers) (routes : List ℕ) (interface : ℕ) (x : Crossed) : Type 0 where
  pub exactly : (x.answered.answer ≡ 25) ↔ IdleImage image b routes interface
  pub untouched : IdleImage image b routes interface → Untouched image b routes 25 x
  pub usable : IdleImage image b routes interface → (decode x.image).usable ≡ true
  pub found : x.answered.answer ≡ 8 → ⊥

abbrev pub LibraryUnclaimed : Type 0
LibraryUnclaimed =
    (image : List ℕ) (b : Buffers) (routes : List ℕ) (interface : ℕ) (x : Crossed) →
    Releases image b routes interface x → UnclaimedAcross image b routes interface x
