use mathlib.Core.Path.{sym, ◌∙◌}
use Rattle.settings_form.proofs.Exits.{passed, empty_new, new_written}
use Rattle.settings_form.proofs.Words.{held_few}
use Rattle.settings_form.proofs.to_new.Goals as goal

pub returns-in_default : goal.returns-in_default
returns-in_default c = empty_new _ _ _ _ (sym c.list_check.ensures ∙ c.in_ok-list_check.was) c.in_default.ensures

pub put_form-requires : goal.put_form-requires
put_form-requires c = (
  held_few _ _ _ (sym c.settings_held.ensures ∙ c.if-not-settings_held.false),
  (passed _ _ _ (sym c.list_check.ensures ∙ c.in_ok-list_check.was)).room,
)

pub returns : goal.returns
returns c =
    new_written _ _ _ _ (sym c.list_check.ensures ∙ c.in_ok-list_check.was) _ c.in-Some.ensures
    (sym c.settings_held.ensures ∙ c.if-not-settings_held.false) _ c.put_form.ensures
