use mathlib.Core.Path.{◌≡◌, refl, sym, ◌∙◌}
use borrow.Author.Tests.{lt-ltb, le-ltb}
use borrow.Author.Rules.{rules}
use lib.ListN.{length}
use lib.Seq.{length-take-le}
use native.Mathlib.Omega.{arith}
use Rattle.device.specs.Ask.{ask, PreviewAs}
use Rattle.xhci_device.specs.Ask.{log_room}
use Rattle.xhci_device.proofs.Asked.{asked_as, shown_as, front_as, rings_room}
use Rattle.xhci_device.proofs.ask.xhci_device_ask.Goals.{then-rings-lt-PLACES, else-rings-lt-PLACES}
use Rattle.xhci_device.proofs.ask.xhci_device_ask.Goals as goal

pub put_rings-requires : goal.put_rings-requires
unfolding log_room
put_rings-requires c =
    let a = c.args in
    let k = length a.rings.now in
    let room : c.if-rings-lt-PLACES.room ≡ log_room a.log k = elim c.if-rings-lt-PLACES.branch [
      | then-rings-lt-PLACES w ↦ w.room-is ∙ sym (rw (lt-ltb k 30 w.if-rings-lt-PLACES.true) refl)
      | else-rings-lt-PLACES w ↦ w.room-is ∙ sym (rw (le-ltb k 30 w.if-rings-lt-PLACES.false) refl)
    ] in
    let shown : PreviewAs c.ask-p.result (ask c.decode-d.result a.ctx a.routes (log_room a.log k) a.interface a.alternate) = rw (← room) c.ask-p.ensures in
    let rings : length c.ask-p.result.rings ≡ 30 = search rules in
    omega (arith, length-take-le c.ask-p.result.count c.ask-p.result.rings (omega (arith, shown.room, rings)), rings_room c.decode-d.result a.ctx a.routes a.log a.interface a.alternate _ c.ask-p.result shown (search rules))

pub returns : goal.returns
unfolding log_room
returns c =
    let a = c.args in
    let k = length a.rings.now in
    let room : c.if-rings-lt-PLACES.room ≡ log_room a.log k = elim c.if-rings-lt-PLACES.branch [
      | then-rings-lt-PLACES w ↦ w.room-is ∙ sym (rw (lt-ltb k 30 w.if-rings-lt-PLACES.true) refl)
      | else-rings-lt-PLACES w ↦ w.room-is ∙ sym (rw (le-ltb k 30 w.if-rings-lt-PLACES.false) refl)
    ] in
    let shown : PreviewAs c.ask-p.result (ask c.decode-d.result a.ctx a.routes (log_room a.log k) a.interface a.alternate) = rw (← room) c.ask-p.ensures in
    let rings : length c.ask-p.result.rings ≡ 30 = search rules in
    let asked = asked_as a.image.now a.ctx a.routes a.log a.interface a.alternate k c.decode-d.result c.decode-d.ensures in
    rw (← asked) (
      shown_as c.ask-p.result _ shown rings c.from.result (c.from.ensures ∙ c.answer_number.ensures),
      front_as c.ask-p.result _ shown rings _ _ c.put_rings.ensures,
    )
