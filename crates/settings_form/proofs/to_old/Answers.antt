use mathlib.Core.Path.{refl, sym, ◌∙◌}
use native.Mathlib.Omega.{arith}
use lib.Seq.{length-take-le}
use Rattle.settings_form.proofs.Read.{form_long}
use Rattle.settings_form.proofs.Exits.{passed, empty_old, not_formed, many_formed, not_held_old, other_value, old_written}
use Rattle.settings_form.proofs.to_old.Goals as goal
use Rattle.settings_form.proofs.to_old.Goals.{then-not-is_form-via-then-not-is_form, then-not-is_form-via-else-not-is_form+then-settings-gt-ROOM}

pub returns-in_default : goal.returns-in_default
returns-in_default c = empty_old _ _ _ _ (sym c.list_check.ensures ∙ c.in_ok-list_check.was) c.in_default.ensures

pub returns-then-not-is_form : goal.returns-then-not-is_form
returns-then-not-is_form c =
    let k = sym c.list_check.ensures ∙ c.in_ok-list_check.was in
    elim c.then-not-is_form.branch [
      | then-not-is_form-via-then-not-is_form w ↦ not_formed _ _ _ _ k (sym c.is_form.ensures ∙ w.if-not-is_form.true)
      | then-not-is_form-via-else-not-is_form+then-settings-gt-ROOM w ↦
          many_formed _ _ _ _ k (sym c.is_form.ensures ∙ w.if-not-is_form.false) w.if-settings-gt-ROOM.true
    ]

pub bounds-settings-0 : goal.bounds-settings-0
bounds-settings-0 c = omega (arith, form_long _ (sym c.is_form.ensures ∙ c.if-not-is_form.false))

pub overflow_sub-n : goal.overflow_sub-n
overflow_sub-n c = omega (arith, form_long _ (sym c.is_form.ensures ∙ c.if-not-is_form.false))

pub returns-then-not-settings_held : goal.returns-then-not-settings_held
returns-then-not-settings_held c =
    not_held_old _ _ _ _ (sym c.list_check.ensures ∙ c.in_ok-list_check.was)
    (sym c.is_form.ensures ∙ c.if-not-is_form.false) (omega (arith, c.type_inv.settings 0)) c.if-settings-gt-ROOM.false _ refl _ c.take_pairs.ensures
    (sym c.settings_held.ensures ∙ c.if-not-settings_held.true)

pub returns-then-value-first : goal.returns-then-value-first
returns-then-value-first c =
    other_value _ _ _ _ (sym c.list_check.ensures ∙ c.in_ok-list_check.was)
    (sym c.is_form.ensures ∙ c.if-not-is_form.false) (omega (arith, c.type_inv.settings 0)) c.if-settings-gt-ROOM.false _ refl _ c.take_pairs.ensures
    (sym c.settings_held.ensures ∙ c.if-not-settings_held.false) _ c.in-Some.ensures c.if-value-first.true

pub slice_bounds-copy_from_slice-end : goal.slice_bounds-copy_from_slice-end
slice_bounds-copy_from_slice-end c =
    let r = passed _ _ _ (sym c.list_check.ensures ∙ c.in_ok-list_check.was) in omega (arith, c.if-settings-gt-ROOM.false, r.room)

pub slice_bounds-copy_from_slice-end-2 : goal.slice_bounds-copy_from_slice-end-2
slice_bounds-copy_from_slice-end-2 c =
    let r = passed _ _ _ (sym c.list_check.ensures ∙ c.in_ok-list_check.was) in
    sym (length-take-le _ _ (omega (arith, c.if-settings-gt-ROOM.false, r.room)))

pub copy_from_slice-requires : goal.copy_from_slice-requires
copy_from_slice-requires c =
    let r = passed _ _ _ (sym c.list_check.ensures ∙ c.in_ok-list_check.was) in
    length-take-le _ _ (omega (arith, c.if-settings-gt-ROOM.false, r.room)) ∙ sym (length-take-le _ _ (omega (arith, c.if-settings-gt-ROOM.false, c.take_pairs.auto.pairs)))

pub returns : goal.returns
returns c =
    old_written _ _ _ _ (sym c.list_check.ensures ∙ c.in_ok-list_check.was)
    (sym c.is_form.ensures ∙ c.if-not-is_form.false) (omega (arith, c.type_inv.settings 0)) c.if-settings-gt-ROOM.false _ refl _ c.take_pairs.ensures
    (sym c.settings_held.ensures ∙ c.if-not-settings_held.false) _ c.in-Some.ensures c.if-value-first.false _ (rw c.copy_from_slice.ensures.after)
