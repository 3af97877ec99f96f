-- The release of an interface that is not claimed, by the exported function.
use Prim.Native.Nat.{ℕ}
use mathlib.Core.Path.{◌≡◌, sym, ap, ◌∙◌}
use mathlib.Core.Logic.{inl, inr}
use mathlib.Core.Bool.{true, false}
use mathlib.Core.List.{List}
use native.Mathlib.Omega.{arith}
use Rattle.laws.proofs.Cases.{Decided, decided}
use Rattle.answer.specs.declared.Answer.TheVariants as answer
use Rattle.answer.specs.Answer.{number}
use Rattle.answer.specs.Answered.{answered_of}
use Rattle.device.specs.declared.record.Device.{Device}
use Rattle.device.specs.Left.{Left}
use Rattle.device.specs.Release.{release}
use Rattle.device_image.specs.Image.{decode, is_image}
use Rattle.xhci_device.specs.Crossed.{Crossed, crossed}
use Rattle.theorem_slot.specs.Call.{Buffers}
use Rattle.theorem_checks.specs.Checks.{Fit}
use Rattle.theorem_checks.specs.Unclaimed.{Unclaimed}
use Rattle.theorem_checks.proofs.Unclaimed.{unclaimed_promise}
use Rattle.theorem_library.specs.Ask.{Untouched}
use Rattle.theorem_library.specs.Unclaimed.{Releases, IdleImage, UnclaimedAcross, LibraryUnclaimed}
use Rattle.theorem_library.proofs.Ask.{refused_there}

module _ (image : List ℕ) (b : Buffers) (routes : List ℕ) (i : ℕ) (x : Crossed) (m : Releases image b routes i x) where
  abbrev l : Left
  l = release (decode image) b.ctx routes b.log b.outcomes i

  promise : Unclaimed (decode image) b routes i l
  promise = unclaimed_promise (decode image) b routes i

  there : is_image image ≡ true → x.answered.answer ≡ number l.answer
  unfolding crossed answered_of
  there e = ap (λ (y : Crossed). y.answered.answer) (m.equal ∙ ap (λ c. crossed c l image b.ctx routes b.log) e)

  nowhere : is_image image ≡ false → x.answered.answer ≡ 12
  unfolding crossed answered_of number
  nowhere e = ap (λ (y : Crossed). y.answered.answer) (m.equal ∙ ap (λ c. crossed c l image b.ctx routes b.log) e)

  idle : Decided (is_image image) → x.answered.answer ≡ 25 → IdleImage image b routes i
  idle (inl e) n = (e, promise.exactly.0 (sym (there e) ∙ n))
  idle (inr e) n = absurd (omega (arith, nowhere e, n))

  found : Decided (is_image image) → x.answered.answer ≡ 8 → ⊥
  found (inl e) n = promise.found (sym (there e) ∙ n)
  found (inr e) n = omega (arith, nowhere e, n)

  untouched : IdleImage image b routes i → Untouched image b routes 25 x
  unfolding number
  untouched r = refused_there image b routes x answer.NotClaimed l r.0 (promise.nothing r.1) m

  unclaimed : UnclaimedAcross image b routes i x
  unclaimed =
      record {
        exactly = (idle (decided (is_image image)), λ r. there r.0 ∙ promise.exactly.1 r.1);
        untouched = untouched;
        usable = λ r. let f : Fit (decode image).usable (decode image) = r.1.fit in ap (λ (d : Device). d.usable) (untouched r).device ∙ f.marked;
        found = found (decided (is_image image));
      }

pub library_unclaimed : LibraryUnclaimed
library_unclaimed image b routes i x m = unclaimed image b routes i x m
