use mathlib.Core.Path.{◌≡◌, sym, ◌∙◌}
use mathlib.Core.Bool.{true}
use native.Mathlib.Omega.{arith}
use borrow.Author.Rules.{rules}
use lib.ListN.{length}
use Rattle.record_endpoint.proofs.Clean.{front_of}
use Rattle.device.specs.Device.{words_of, list_of, endpoint_map_in}
use Rattle.device.specs.Sound.{sound}
use Rattle.device.proofs.Facts.{sound_facts, list_joinable}
use Rattle.reason.specs.Reason.{owned_reason}
use Rattle.reason.proofs.owned_reason.Goals as goal

pub returns-then-not-sound : goal.returns-then-not-sound
unfolding owned_reason
returns-then-not-sound c = sym (rw (sym c.sound.ensures ∙ c.if-not-sound.true))

pub shared_ref_as_front-of_setting : goal.shared_ref_as_front-of_setting
shared_ref_as_front-of_setting c = omega (arith, (sound_facts _ (sym c.sound.ensures ∙ c.if-not-sound.false)).counts)

pub of_setting-setting-requires : goal.of_setting-setting-requires
unfolding words_of
of_setting-setting-requires c = list_joinable c.args.d (sym c.sound.ensures ∙ c.if-not-sound.false)

pub shared_ref_as_front-endpoint_map_of : goal.shared_ref_as_front-endpoint_map_of
shared_ref_as_front-endpoint_map_of c = omega (arith, (sound_facts _ (sym c.sound.ensures ∙ c.if-not-sound.false)).counts)

pub returns : goal.returns
unfolding owned_reason words_of list_of endpoint_map_in
returns c =
    let d = c.args.d in
    let is_sound : sound d ≡ true = sym c.sound.ensures ∙ c.if-not-sound.false in
    let room : length d.eps ≡ 30 = search rules in
    let endpoints = c.endpoint_map_of-c.ensures ∙ front_of _ _ _ (omega (arith, room, (sound_facts _ is_sound).counts)) in
    rw is_sound (rw (c.first_owned.ensures, c.words.ensures, c.of_setting-setting.ensures, endpoints))
