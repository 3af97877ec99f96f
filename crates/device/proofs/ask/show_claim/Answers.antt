use mathlib.Core.Path.{◌≡◌, ◌∙◌}
use mathlib.Core.Bool.{true, ◌&&◌}
use native.Mathlib.Omega.{arith}
use lib.ListN.{length-take}
use Rattle.laws.proofs.Tests.{and_left, and_right}
use Rattle.record_ring.proofs.Promises.{given_fits}
use Rattle.device.specs.declared.record.Device.{Device}
use Rattle.descriptor_list.proofs.Laws.{found_inside, valid_count}
use Rattle.device.specs.Device.{list_of, given_of}
use Rattle.device.specs.Sound.{sound}
use Rattle.device.proofs.Facts.{SoundFacts, sound_facts, list_joinable}
use Rattle.device.proofs.Kept.{claim_passed}
use Rattle.device.proofs.AskLaws.{words_few, preview_made}
use Rattle.device.proofs.ClaimLaws.{old_words, new_words, free_placed_in, drawn_enough}
use Rattle.device.proofs.ask.show_claim.Goals as goal

facts : (d : Device) → (d.usable && sound d) ≡ true → SoundFacts d
facts d e = sound_facts d (and_right d.usable (sound d) e)

pub claim_args-args-requires : goal.claim_args-args-requires
claim_args-args-requires c = (facts c.args.d.now c.requires.d_value.0).counts.held

pub list-list-requires : goal.list-list-requires
list-list-requires c = (facts c.args.d.now c.requires.d_value.0).counts.list

pub old_words-old-requires : goal.old_words-old-requires
old_words-old-requires c = rw c.list-list.ensures (list_joinable c.args.d.now (and_right _ _ c.requires.d_value.0))

pub found_in-new-requires : goal.found_in-new-requires
unfolding list_of
found_in-new-requires c =
    rw c.list-list.ensures (
      (list_joinable c.args.d.now (and_right _ _ c.requires.d_value.0)).short,
      (
        found_inside _ _ _ _ c.requires.alternate_value,
        valid_count _ (facts c.args.d.now c.requires.d_value.0).list _ _ _ c.requires.alternate_value,
      ),
    )

pub endpoint_map_in-c-requires : goal.endpoint_map_in-c-requires
endpoint_map_in-c-requires c = (facts c.args.d.now c.requires.d_value.0).counts.endpoints

pub given-requires : goal.given-requires
given-requires c = (facts c.args.d.now c.requires.d_value.0).counts.given

pub invariant_of-given : goal.invariant_of-given
unfolding given_of
invariant_of-given c =
    let f = facts c.args.d.now c.requires.d_value.0 in
    rw c.given.ensures (record { few = simp length-take (omega (arith, f.counts.given)); fit = given_fits (given_of c.args.d.now) f.store.fit })

pub drawn_in_order-requires : goal.drawn_in_order-requires
unfolding list_of given_of
drawn_in_order-requires c =
    let d = c.args.d.now in
    let i = c.args.interface in
    let a = c.args.alternate in
    let ok = c.requires.d_value in
    let is_sound : sound d ≡ true = and_right _ _ ok.0 in
    let new = new_words d i a c.args.found c.requires.alternate_value _ (rw c.list-list.ensures at (c.words-new_words.ensures ∙ c.found_in-new.ensures)) in
    let free = free_placed_in d _ (and_left _ _ ok.0) is_sound c.endpoint_map_in-c.ensures in
    (rw new (words_few d i a is_sound ok.1), rw c.given.ensures (drawn_enough d i a _ _ free new (claim_passed d i a is_sound ok.1).enough))

pub returns : goal.returns
unfolding list_of given_of
returns c =
    let d = c.args.d.now in
    let i = c.args.interface in
    let a = c.args.alternate in
    let ok = c.requires.d_value in
    let is_sound : sound d ≡ true = and_right _ _ ok.0 in
    preview_made d i a is_sound ok.1 _ _ c.drawn_in_order.result _ (free_placed_in d _ (and_left _ _ ok.0) is_sound c.endpoint_map_in-c.ensures)
    (old_words d i a _ c.claim_args-args.ensures _ (rw c.list-list.ensures at (c.words.ensures ∙ c.old_words-old.ensures)))
    (new_words d i a c.args.found c.requires.alternate_value _ (rw c.list-list.ensures at (c.words-new_words.ensures ∙ c.found_in-new.ensures))) (rw c.given.ensures at c.drawn_in_order.ensures) c.word_flags.result c.word_flags-2.result
    c.word_flags.ensures c.word_flags-2.ensures
