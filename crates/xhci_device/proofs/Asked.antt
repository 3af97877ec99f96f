-- An ask across the boundary.
use Prim.Native.Nat.{ℕ, ◌≤◌}
use mathlib.Core.Path.{◌≡◌, refl, sym, ap, ◌∙◌}
use mathlib.Core.Logic.{inl, inr}
use mathlib.Core.Bool.{Bool, true, false, cond}
use mathlib.Core.List.{List}
use native.Mathlib.Omega.{arith}
use borrow.Author.Tests.{ltb-false}
use lib.Dec.{ltb}
use lib.ListN.{length, take}
use lib.Seq.{length-take-le}
use Rattle.laws.proofs.Cases.{Decided, decided}
use Rattle.answer.specs.declared.Answer.{Answer}
use Rattle.answer.specs.declared.Answer.TheVariants.{Unusable}
use Rattle.std.specs.Prelude.{Ok, Err}
use Rattle.answer.specs.Check.{Check, Pass, Refuse}
use Rattle.answer.specs.Answer.{number}
use Rattle.device.specs.declared.record.Device.{Device}
use Rattle.device.specs.declared.ask.Preview.{Preview}
use Rattle.device.specs.Check.{record_check}
use Rattle.device.specs.Claim.{claim_check}
use Rattle.device.specs.Ask.{Ask, no_ask, ask_of, ask_check, returned, ask, PreviewAs}
use Rattle.device.proofs.Laws.{passed}
use Rattle.device_image.specs.Image.{is_image, decode}
use Rattle.xhci_device.specs.Ask.{log_room, asked_in, shown_of, in_front}
use Rattle.xhci_device.proofs.Steps.{zeros_slot, none_passed}

-- The record's ask is the image's.
module _ (image : List ℕ) (ctx routes log i a n : ℕ) (d : Device) (e : d ≡ decode image) where
  pub asked_as : ask d ctx routes (log_room log n) i a ≡ asked_in image ctx routes log i a n
  unfolding asked_in ask ask_check returned
  asked_as = go (is_image image) refl
    where
      go : (b : Bool) → is_image image ≡ b →
          ask d ctx routes (log_room log n) i a ≡ cond b (ask (decode image) ctx routes (log_room log n) i a) (Unusable, no_ask)
      go true q = ap (λ (x : Device). ask x ctx routes (log_room log n) i a) e
      go false q =
          let k : record_check d ctx routes (log_room log n) (claim_check d i a Pass) ≡ Refuse Unusable =
          none_passed d ctx routes (log_room log n) (claim_check d i a Pass) (ap (λ (x : Device). x.slot.0) e ∙ zeros_slot image q) in
          rw k

-- Without room nothing is returned.
short : (d : Device) (ctx routes i a : ℕ) → (ask d ctx routes 0 i a).1 ≡ no_ask
unfolding ask ask_check returned
short d ctx routes i a = go (record_check d ctx routes 0 (claim_check d i a Pass)) refl
  where
    go : (x : Check) → record_check d ctx routes 0 (claim_check d i a Pass) ≡ x → (returned x (ask_of d i a)).1 ≡ no_ask
    go (Ok _) q = absurd (omega (arith, (passed d ctx routes 0 (claim_check d i a Pass) q).0.room))
    go (Err z) q = refl

module _ (p : Preview) (x : Answer × Ask) (s : PreviewAs p x) (full : length p.rings ≡ 30) where
  counted : length (take p.count p.rings) ≡ p.count
  counted = length-take-le p.count p.rings (omega (arith, s.room, full))

  none_counted : x.1 ≡ no_ask → p.count ≡ 0
  unfolding no_ask
  none_counted z =
      sym counted ∙ ap (λ (y : Answer × Ask). length y.1.rings) s.told ∙ ap (λ (q : Ask). length q.rings) z

  pub shown_as :
      (r : ℕ) → r ≡ number p.answer →
      record { answer = r; interface = p.interface; alternate = p.alternate; drops = p.drops; adds = p.adds; count = p.count } ≡ shown_of x
  unfolding shown_of
  shown_as r q = rw (q, ← counted) (ap shown_of s.told)

  pub front_as : (out was : List ℕ) → out ≡ in_front (take p.count p.rings) was → out ≡ in_front x.1.rings was
  front_as out was q = q ∙ ap (λ (y : Answer × Ask). in_front y.1.rings was) s.told

-- The rings have room in the lent words.
pub rings_room :
    (d : Device) (ctx routes log i a n : ℕ) (p : Preview) → PreviewAs p (ask d ctx routes (log_room log n) i a) → length p.rings ≡ 30 → p.count ≤ n
unfolding log_room
rings_room d ctx routes log i a n p s full = go (decided (ltb n 30))
  where
    go : Decided (ltb n 30) → p.count ≤ n
    go (inl t) =
        let z : (ask d ctx routes (cond (ltb n 30) 0 log) i a).1 ≡ no_ask = rw t (short d ctx routes i a) in
        omega (arith, none_counted p (ask d ctx routes (cond (ltb n 30) 0 log) i a) s full z)
    go (inr t) = omega (arith, s.room, ltb-false n 30 t)
