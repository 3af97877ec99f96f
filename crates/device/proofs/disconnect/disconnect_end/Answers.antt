use mathlib.Core.Path.{◌≡◌, refl, ◌∙◌}
use mathlib.Core.Bool.{cond}
use mathlib.Core.List.{[]}
use native.Mathlib.Omega.{arith}
use lib.ListN.{length-take}
use Rattle.answer.specs.Answer.{is_broken}
use Rattle.record_endpoint.specs.Endpoint.{padded}
use Rattle.record_settings.specs.Held.{interfaces_of, alternates_of}
use Rattle.device.specs.Device.{quarantined_of, rebuilt, quarantines}
use Rattle.device.specs.Disconnect.{rings_in_doubt}
use Rattle.device.specs.Left.{called_of}
use Rattle.device.proofs.Facts.{sound_facts}
use Rattle.device.proofs.DisconnectLaws.{is_quarantined, not_quarantined, down_only, rings_room, rings_entered, disconnect_made}
use Rattle.device.proofs.disconnect.disconnect_end.Goals.{then-e, else-e+then-eq, else-e+else-eq}
use Rattle.device.proofs.disconnect.disconnect_end.Goals as goal

pub quarantined-requires : goal.quarantined-requires
quarantined-requires c = (sound_facts c.args.d.now c.requires.0).counts.quarantined

pub enter_rings-count-requires : goal.enter_rings-count-requires
unfolding quarantined_of
enter_rings-count-requires c =
    let f = (sound_facts c.args.d.now c.requires.0).counts in
    rw (c.quarantined.ensures, c.rings.ensures) (record {
      quarantined_len_bound = (simp length-take (omega (arith, f.quarantined)), simp length-take (omega (arith, c.requires.2.room)));
      live_len_bound = rings_room c.args.d.now c.requires.0 c.args.q c.args.c c.requires.1 c.requires.2;
    })

pub returns : goal.returns
unfolding padded interfaces_of alternates_of rebuilt quarantined_of
returns c =
    let a = c.args in
    let y : c.if-e.d ≡ cond a.e.moved (down_only a.d.now) (quarantines (is_broken a.e.answer) (rings_in_doubt a.d.now) a.d.now) = elim c.if-e.branch [
      | then-e w ↦ w.d-is ∙ rw w.if-e.true
      | else-e+then-eq w ↦ w.d-is ∙ rw (w.if-e.false, is_quarantined a.e.answer (rings_in_doubt a.d.now) a.d.now _ w.eq.ensures w.if-eq.true)
          (rings_entered a.d.now c.requires.0 a.q a.c c.requires.1 c.requires.2 _ (rw (w.quarantined.ensures, w.rings.ensures) at w.enter_rings-count.ensures))
      | else-e+else-eq w ↦ w.d-is ∙ rw w.if-e.false (not_quarantined a.e.answer (rings_in_doubt a.d.now) a.d.now _ w.eq.ensures w.if-eq.false)
    ] in
    λ ctx routes log. disconnect_made a.d.now c.if-e.d _ a.c _ a.e (called_of c.at_end.new.d c.at_end.result) c.requires.1 c.no_endpoints.ensures c.requires.3 y
    refl (c.at_end.ensures [] (record { interfaces = refl; alternates = refl; count = refl })) ctx routes log
