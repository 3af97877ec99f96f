-- Old settings to new ones, and back.
use Rattle.std.specs.Prelude.{ℕ, cond, ◌&&◌, ⊤, List, eqb, leb, length, get_or, Result, Ok, Err}
use Rattle.def.specs.Speed.{speed_known}
use Rattle.descriptor.specs.Word.{configuration_value}
use Rattle.descriptor_list.specs.Companions.{list_ok, companions_fit}
use Rattle.function_answer.specs.declared.Refusal.{Refusal}
use Rattle.function_answer.specs.declared.Refusal.TheVariants.{TooShort, Speed, DescriptorList, Companion, Settings, OtherConfiguration}
use Rattle.function_answer.specs.Answer.{Left, accepts, unless, on_check}
use Rattle.settings_form.specs.Form.{new_form, value_in, pairs_in, is_new_form}
use Rattle.settings_form.specs.Held.{settings_held}

-- How many bytes are lent at least.
abbrev pub ROOM : ℕ
ROOM = 66

-- The value of a list's first configuration. (An empty list has none, and no settings are held in it.)
unfoldable pub first_value : List ℕ → ℕ
first_value list = configuration_value (get_or list 0 0)

-- Both ways: 3, 6, 4, 26 in this order, of the speed, the list and how many bytes are lent.
unfoldable pub list_check : ℕ → List ℕ → ℕ → Result ⊤ Refusal
list_check speed list lent =
    cond (leb ROOM lent)
    (cond (speed_known speed)
    (cond (list_ok speed list) (cond (companions_fit speed list) (Ok tt) (Err Companion)) (Err DescriptorList))
    (Err Speed))
    (Err TooShort)

-- Then 23.
unfoldable pub to_new : ℕ → List ℕ → List ℕ → List ℕ → Left
to_new speed settings list buffer =
    on_check (list_check speed list (length buffer)) buffer
    (unless (settings_held list (first_value list) settings) Settings buffer
    (accepts (new_form (first_value list) settings) buffer))

-- Then 23, 24 in this order.
unfoldable pub to_old : ℕ → List ℕ → List ℕ → List ℕ → Left
to_old speed settings list buffer =
    on_check (list_check speed list (length buffer)) buffer
    (unless (is_new_form settings && settings_held list (value_in settings) (pairs_in settings)) Settings buffer
    (unless (eqb (value_in settings) (first_value list)) OtherConfiguration buffer
    (accepts (pairs_in settings) buffer)))
