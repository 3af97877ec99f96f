use native.Mathlib.Omega.{arith}
use mathlib.Core.Path.{sym, ◌∙◌}
use Rattle.descriptor_list.proofs.Laws.{found_inside}
use Rattle.record_settings.specs.Held.{setting_words, found_words}
use Rattle.record_settings.proofs.lookup.setting_words.Goals as goal

pub in_list-requires : goal.in_list-requires
in_list-requires c = let h = found_inside _ _ _ _ (sym c.find_interface_endpoints.ensures ∙ c.in-Some.is) in omega (arith, h)

pub returns-in-Some : goal.returns-in-Some
unfolding setting_words found_words
returns-in-Some c = rw (← c.find_interface_endpoints.ensures, c.in-Some.is) c.in_list.ensures

pub returns-in-None : goal.returns-in-None
unfolding setting_words found_words
returns-in-None c = rw (← c.find_interface_endpoints.ensures, c.in-None.is)
