use mathlib.Core.Path.{◌≡◌, ◌∙◌}
use mathlib.Core.Bool.{cond, ◌&&◌}
use lib.ListN.{take}
use Rattle.answer.specs.Answer.{is_lost}
use Rattle.record_settings.specs.Held.{with_setting}
use Rattle.device.specs.Device.{held_of, quarantines}
use Rattle.device.specs.Left.{called_of}
use Rattle.device.proofs.ClaimLaws.{not_doubted, claim_made}
use Rattle.device.proofs.claim.claim_end.Goals.{then-e, else-e}
use Rattle.device.proofs.claim.claim_end.Goals as goal

pub returns : goal.returns
unfolding held_of quarantines
returns c =
    let a = c.args in
    let rings = take a.q.count a.q.rings in
    let y : c.if-e.d ≡ cond a.e.moved a.d.now (quarantines (a.e.doubted && is_lost a.e.answer) rings a.d.now) = elim c.if-e.branch [
      | then-e w ↦ let f = c.requires.doubted w.if-e.true in w.d-is ∙ rw (w.quarantine.ensures, f.0, w.if-e.true, f.1)
      | else-e w ↦ w.d-is ∙ not_doubted a.e.moved a.e.doubted (is_lost a.e.answer) rings a.d.now w.if-e.false
    ] in
    λ ctx routes log drawn h. claim_made a.d.now a.interface a.alternate drawn
    c.if-e.d a.c c.claimed_endpoints-claimed.result a.q a.e a.pending
    (called_of c.at_end.new.d c.at_end.result) c.claimed_endpoints-claimed.ensures y (c.at_end.ensures (with_setting
    a.interface a.alternate (held_of a.d.now)) (rw c.settings.ensures at c.with_setting-held.ensures)) c.requires.c_value.0
    c.requires.c_value.2 h ctx routes log
