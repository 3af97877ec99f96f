use mathlib.Core.Path.{◌∙◌}
use Rattle.record_settings.proofs.Laws.{setting_length}
use Rattle.record_settings.proofs.words.SettingWords.of_setting.Goals as goal

pub of-requires : goal.of-requires
of-requires c = rw (c.setting_words.ensures, c.join-count.ensures.1) (setting_length _ c.requires.valid _ _)

pub returns : goal.returns
returns c = c.of.ensures ∙ rw (c.setting_words.ensures, c.join-count.ensures.1)
