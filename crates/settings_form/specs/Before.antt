-- The conversions without companions, as 02's request 8 has them before request 11; at speeds 1 to 3 they are the same.
use Rattle.std.specs.Prelude.{ℕ, cond, ◌&&◌, ⊤, List, eqb, leb, length, Result, Ok, Err}
use Rattle.descriptor_list.specs.Valid.{valid_list}
use Rattle.function_answer.specs.declared.Refusal.{Refusal}
use Rattle.function_answer.specs.declared.Refusal.TheVariants.{TooShort, DescriptorList, Settings, OtherConfiguration}
use Rattle.function_answer.specs.Answer.{Left, accepts, unless, on_check}
use Rattle.settings_form.specs.Form.{new_form, value_in, pairs_in, is_new_form}
use Rattle.settings_form.specs.Held.{settings_held}
use Rattle.settings_form.specs.Convert.{ROOM, first_value}

-- Both ways: 3, then 4, of the list and how many bytes are lent.
unfoldable pub list_check : List ℕ → ℕ → Result ⊤ Refusal
list_check list lent = cond (leb ROOM lent) (cond (valid_list list) (Ok tt) (Err DescriptorList)) (Err TooShort)

-- 3, 4, 23 in this order.
unfoldable pub to_new : List ℕ → List ℕ → List ℕ → Left
to_new settings list buffer =
    on_check (list_check list (length buffer)) buffer
    (unless (settings_held list (first_value list) settings) Settings buffer
    (accepts (new_form (first_value list) settings) buffer))

-- 3, 4, 23, 24 in this order.
unfoldable pub to_old : List ℕ → List ℕ → List ℕ → Left
to_old settings list buffer =
    on_check (list_check list (length buffer)) buffer
    (unless (is_new_form settings && settings_held list (value_in settings) (pairs_in settings)) Settings buffer
    (unless (eqb (value_in settings) (first_value list)) OtherConfiguration buffer
    (accepts (pairs_in settings) buffer)))
