-- What the checks of the exported functions ask.
use mathlib.Core.Path.{◌≡◌, ap, ◌∙◌}
use mathlib.Core.Bool.{true, false}
use Rattle.answer.specs.declared.Answer.{Answer}
use Rattle.answer.specs.Answer.{number}
use Rattle.answer.specs.Answered.{answered_of}
use Rattle.device.specs.Left.{Left, refused}
use Rattle.device_image.specs.Image.{decode}
use Rattle.xhci_device.specs.Crossed.{Crossed, crossed}
use Rattle.theorem_slot.specs.Call.{left}
use Rattle.theorem_checks.specs.Checks.{FirstFails}
use Rattle.theorem_checks.proofs.Checks.{pass_exactly}
use Rattle.theorem_library.specs.Library.{Exchange, reads, Meets}
use Rattle.theorem_library.specs.Checks.{asked_of, CheckedAcross, LibraryChecks}

module _ (e : Exchange) (m : Meets e) where
  abbrev l : Left
  l = left e.call.asked e.call.buffers (decode e.image) e.table

  counted : reads e.call.asked e.image ≡ true → e.crossed.answered.count ≡ l.count
  unfolding crossed answered_of
  counted t =
      ap (λ (x : Crossed). x.answered.count)
      (m.equal ∙ ap (λ b. crossed b l e.image e.call.buffers.ctx e.table e.call.buffers.log) t)

  answered : reads e.call.asked e.image ≡ true → e.crossed.answered.answer ≡ number l.answer
  unfolding crossed answered_of
  answered t =
      ap (λ (x : Crossed). x.answered.answer)
      (m.equal ∙ ap (λ b. crossed b l e.image e.call.buffers.ctx e.table e.call.buffers.log) t)

  first : reads e.call.asked e.image ≡ true → (a : Answer) → FirstFails (asked_of e) a →
      (e.crossed.answered.answer ≡ number a) × (e.crossed.answered.count ≡ 0)
  unfolding refused
  first t a f =
      let r = (pass_exactly e.call (decode e.image) e.table).refuses a f in
      (answered t ∙ ap (λ (x : Left). number x.answer) r, counted t ∙ ap (λ (x : Left). x.count) r)

  nowhere : reads e.call.asked e.image ≡ false → (e.crossed.answered.answer ≡ 12) × (e.crossed.answered.count ≡ 0)
  unfolding crossed answered_of number
  nowhere t =
      let is = m.equal ∙ ap (λ b. crossed b l e.image e.call.buffers.ctx e.table e.call.buffers.log) t in
      (ap (λ (x : Crossed). x.answered.answer) is, ap (λ (x : Crossed). x.answered.count) is)

  checked : CheckedAcross e
  checked =
      let p = pass_exactly e.call (decode e.image) e.table in
      record {
        passes = λ t. (λ h. rw (counted t) (p.passes h), λ n. p.passed (rw (counted t) at n));
        refuses = first;
        no_record = nowhere;
      }

pub library_checks : LibraryChecks
library_checks e m = checked e m
