use mathlib.Core.Path.{sym, ◌∙◌}
use Rattle.device.specs.Device.{words_of, list_of}
use Rattle.device.proofs.Facts.{sound_facts}
use Rattle.choice.proofs.Exits.{not_usable, not_sound, too_many, of_list}
use Rattle.choice.proofs.choose.Goals.{then-not-d-via-then-not-d, then-not-d-via-else-not-d+then-not-sound}
use Rattle.choice.proofs.choose.Goals as goal

pub returns-then-not-d : goal.returns-then-not-d
returns-then-not-d c =
    elim c.then-not-d.branch [
      | then-not-d-via-then-not-d w ↦ not_usable _ _ _ _ w.if-not-d.true c.refused.ensures
      | then-not-d-via-else-not-d+then-not-sound w ↦ not_sound _ _ _ _ (sym w.sound.ensures ∙ w.if-not-sound.true) c.refused.ensures
    ]

pub returns-then-names-gt-NAMES : goal.returns-then-names-gt-NAMES
returns-then-names-gt-NAMES c = too_many _ _ _ _ c.if-not-d.false (sym c.sound.ensures ∙ c.if-not-sound.false) c.if-names-gt-NAMES.true c.refused-then-names-gt-NAMES.ensures

pub shared_ref_as_front-list : goal.shared_ref_as_front-list
shared_ref_as_front-list c = (sound_facts _ (sym c.sound.ensures ∙ c.if-not-sound.false)).counts.list

pub returns : goal.returns
unfolding words_of list_of
returns c = of_list _ _ _ _ c.if-not-d.false (sym c.sound.ensures ∙ c.if-not-sound.false) c.if-names-gt-NAMES.false c.choose_in.ensures
