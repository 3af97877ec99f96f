use mathlib.Core.Path.{◌≡◌, sym, ◌∙◌}
use lib.ListN.{length}
use borrow.Author.Rules.{rules}
use Rattle.device.specs.Device.{words_of, quarantined_of, given_of}
use Rattle.device.specs.Sound.{slot_sound, counts_fit, rings_sound, store_sound, live_rings}
use Rattle.device.proofs.Facts.{sound_by_rings, unsound_lists}
use Rattle.device.proofs.record.Device.sound.Goals as goal

pub returns-then-lists_sound : goal.returns-then-lists_sound
unfolding slot_sound counts_fit rings_sound store_sound live_rings words_of quarantined_of given_of
returns-then-lists_sound c =
    let room : length c.args.self.now.eps ≡ 30 = search rules in
    sound_by_rings c.args.self.now room (sym c.slot_sound.ensures ∙ c.if-not-slot_sound.false) (sym c.counts_fit.ensures ∙ c.if-not-counts_fit.false) _ c.settings-settings.ensures
    c.lists_sound.result (rw c.list.ensures at c.lists_sound.ensures) c.if-lists_sound.true c.rings_sound.result (rw (c.quarantined.ensures, c.given.ensures) at c.rings_sound.ensures)

pub returns-else-lists_sound : goal.returns-else-lists_sound
unfolding slot_sound counts_fit words_of
returns-else-lists_sound c =
    let room : length c.args.self.now.eps ≡ 30 = search rules in
    unsound_lists c.args.self.now room (sym c.slot_sound.ensures ∙ c.if-not-slot_sound.false) (sym c.counts_fit.ensures ∙ c.if-not-counts_fit.false) _ c.settings-settings.ensures
    c.lists_sound.result (rw c.list.ensures at c.lists_sound.ensures) c.if-lists_sound.false
