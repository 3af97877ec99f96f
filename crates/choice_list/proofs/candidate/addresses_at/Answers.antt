use mathlib.Core.Path.{refl}
use Rattle.choice_list.specs.Candidate.{words_at}
use Rattle.choice_list.proofs.candidate.addresses_at.Goals as goal

pub returns : goal.returns
unfolding words_at
returns c = rw (c.word_flags.ensures, c.setting_words.ensures, c.alternate_setting-alternate.ensures) refl
