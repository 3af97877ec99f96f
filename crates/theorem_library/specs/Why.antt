-- The reason of a claim or a commit across the C boundary.
use Rattle.std.specs.Prelude.{ℕ, ◌≡◌, cond, List, take}
use Rattle.device.specs.Ask.{Ask, commit}
use Rattle.device_image.specs.Image.{decode, is_image}
use Rattle.reason.specs.declared.Reason.TheVariants.{Number}
use Rattle.reason.specs.Reason.{claim_reason}
use Rattle.theorem_slot.specs.Call.{Buffers}
use Rattle.theorem_why.specs.Why.{why_claim, why_commit}
use Rattle.xhci_device.specs.Crossed.{Crossed, CrossedAs}
use Rattle.xhci_device.specs.declared.why.Why.{Why}
use Rattle.xhci_device.specs.Why.{why_of}
use Rattle.theorem_library.specs.Ask.{Claims}

-- What the function that says why returns, given the image, the answer and the logged words as another call left them.
abbrev pub told_across : Crossed → List ℕ → ℕ → ℕ → Why
told_across x o i a = why_of (claim_reason (decode x.image) i a x.answered.answer (take x.answered.count x.log) o)

-- It is the reason of that claim or commit on the record that was lent; where none was, 12.
pub record WhyTells (image : List ℕ) (b : Buffers) (routes : List ℕ) : Type 0 where
  pub claim :
      (i a : ℕ) (x : Crossed) →
      Claims image b routes i a x →
      told_across x b.outcomes i a
      ≡ why_of (cond (is_image image) (why_claim (decode image) b.ctx routes b.log b.outcomes i a) (Number 12))
  pub commit :
      (p : Ask) (x : Crossed) →
      CrossedAs x (is_image image) (commit (decode image) b.ctx routes b.log b.outcomes p) image b.ctx routes b.log →
      told_across x b.outcomes p.interface p.alternate
      ≡ why_of (cond (is_image image) (why_commit (decode image) b.ctx routes b.log b.outcomes p) (Number 12))

abbrev pub LibraryWhy : Type 0
LibraryWhy = (image : List ℕ) (b : Buffers) (routes : List ℕ) → WhyTells image b routes
