-- The endpoint words of a setting in the code's array.
use Rattle.std.specs.Prelude.{ℕ, List, take}
use Rattle.record_settings.specs.declared.words.SettingWords.{SettingWords}

abbrev pub words_in : SettingWords → List ℕ
words_in r = take r.count r.words
