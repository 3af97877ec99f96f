use mathlib.Core.Path.{◌∙◌}
use lib.ListN.{length-take}
use native.Mathlib.Omega.{arith}
use Rattle.record_settings.proofs.words.SettingWords.found_in.Goals as goal

pub in_list-requires : goal.in_list-requires
in_list-requires c = rw c.join-count.ensures.1 c.requires.1.0

pub of-requires : goal.of-requires
of-requires c = rw c.in_list.ensures (simp length-take (omega (arith, c.requires.1.1)))

pub returns : goal.returns
returns c = c.of.ensures ∙ rw (c.in_list.ensures, c.join-count.ensures.1)
