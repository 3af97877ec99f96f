-- The reason of a claim or a commit across the C boundary.
use Prim.Native.Nat.{ℕ}
use mathlib.Core.Path.{◌≡◌, refl, ap, ◌∙◌}
use mathlib.Core.Logic.{inl, inr}
use mathlib.Core.Bool.{Bool, true, false, cond}
use mathlib.Core.List.{List}
use lib.ListN.{take}
use Rattle.laws.proofs.Cases.{Decided, decided}
use Rattle.answer.specs.Answer.{number}
use Rattle.answer.specs.Answered.{answered_of}
use Rattle.device.specs.Left.{Left}
use Rattle.device_image.specs.Image.{decode, is_image}
use Rattle.device_image.proofs.Laws.{decode_encode}
use Rattle.reason.specs.declared.Reason.{Reason}
use Rattle.reason.specs.declared.Reason.TheVariants.{Number}
use Rattle.reason.specs.Reason.{claim_reason}
use Rattle.theorem_slot.specs.Call.{Buffers}
use Rattle.theorem_why.specs.Promises.{told_of}
use Rattle.theorem_why.proofs.Promises.{reason_is}
use Rattle.xhci_device.specs.Crossed.{Crossed, crossed, CrossedAs}
use Rattle.xhci_device.specs.Why.{why_of}
use Rattle.theorem_library.specs.Why.{LibraryWhy}

module _ (image : List ℕ) (b : Buffers) (routes : List ℕ) (i a : ℕ) (l : Left) (x : Crossed)
    (c : CrossedAs x (is_image image) l image b.ctx routes b.log) where
  abbrev told : Crossed → Reason
  told y = claim_reason (decode y.image) i a y.answered.answer (take y.answered.count y.log) b.outcomes

  is_crossed : (here : Bool) → is_image image ≡ here → x ≡ crossed here l image b.ctx routes b.log
  is_crossed here t = c.equal ∙ ap (λ (k : Bool). crossed k l image b.ctx routes b.log) t

  there : is_image image ≡ true → told x ≡ told_of l b.outcomes i a
  unfolding crossed answered_of
  there t = ap told (is_crossed true t) ∙ rw (decode_encode l.device (c.fits t)) refl

  nowhere : is_image image ≡ false → told x ≡ Number 12
  unfolding crossed answered_of number claim_reason
  nowhere t = ap told (is_crossed false t)

  tells : (why : Reason) → told_of l b.outcomes i a ≡ why → why_of (told x) ≡ why_of (cond (is_image image) why (Number 12))
  tells why e = go (decided (is_image image))
    where
      go : Decided (is_image image) → why_of (told x) ≡ why_of (cond (is_image image) why (Number 12))
      go (inl t) = rw t (ap why_of (there t ∙ e))
      go (inr t) = rw t (ap why_of (nowhere t))

pub library_why : LibraryWhy
library_why image b routes =
    let reasons = reason_is (decode image) b.ctx routes b.log b.outcomes in
    record {
      claim = λ i a x c. tells image b routes i a _ x c _ (reasons.claim i a);
      commit = λ p x c. tells image b routes p.interface p.alternate _ x c _ (reasons.commit p);
    }
