-- What the two conversions promise of each other: proofs/Promises.antt proves each `..Promise`.
use Rattle.std.specs.Prelude.{ℕ, ◌+◌, ◌*◌, ◌/◌, ◌%◌, ◌^◌, ◌≤◌, ◌<◌, ◌≡◌, true, false, List, [], ◌∷◌, eqb, length, take, Ok, Err}
use Rattle.laws.specs.Bounds.{Below}
use Rattle.def.specs.Speed.{speed_known, is_super}
use Rattle.descriptor_list.specs.Promises.{passed_over}
use Rattle.function_answer.specs.declared.Refusal.TheVariants.{OtherConfiguration}
use Rattle.function_answer.specs.Answer.{Left, count_of, accepts, RestKept}
use Rattle.settings_form.specs.Form.{new_form, value_in, pairs_in, is_new_form}
use Rattle.settings_form.specs.Held.{settings_held}
use Rattle.settings_form.specs.Convert.{ROOM, first_value, to_new, to_old}
use Rattle.settings_form.specs.Before as before

-- The bytes that an accepted conversion writes.
abbrev pub output : Left → List ℕ
output left = take (count_of left.answer) left.memory

-- There and back at the same speed gives the same bytes.
abbrev pub NewAndBackPromise : Type 0
NewAndBackPromise =
    (speed : ℕ) (settings list buffer again : List ℕ) (count : ℕ) →
    Below (2 ^ 8) settings →
    (to_new speed settings list buffer).answer ≡ Ok count →
    ROOM ≤ length again →
    to_old speed (output (to_new speed settings list buffer)) list again ≡ accepts settings again

abbrev pub OldAndBackPromise : Type 0
OldAndBackPromise =
    (speed : ℕ) (settings list buffer again : List ℕ) (count : ℕ) →
    Below (2 ^ 8) settings →
    (to_old speed settings list buffer).answer ≡ Ok count →
    ROOM ≤ length again →
    to_new speed (output (to_old speed settings list buffer)) list again ≡ accepts settings again

-- The new form, byte by byte: six bits are carried from each byte to the next, the count first, and two zeros end it.
unfoldable pub carried : ℕ → List ℕ → List ℕ
carried low [] = (low * 4) ∷ []
carried low (b ∷ l) = (low * 4 + b / 64) ∷ carried (b % 64) l

abbrev pub FormPromise : Type 0
FormPromise =
    (value : ℕ) (pairs : List ℕ) →
    value < 2 ^ 8 →
    length pairs ≤ 64 →
    Below (2 ^ 8) pairs →
    new_form value pairs ≡ value ∷ carried (length pairs / 2) pairs

-- 24 is met only where the settings are well formed and found, and then their value is another than the first configuration's.
pub record OtherFound (settings list : List ℕ) : Type 0 where
  pub formed : is_new_form settings ≡ true
  pub held : settings_held list (value_in settings) (pairs_in settings) ≡ true
  pub other : eqb (value_in settings) (first_value list) ≡ false

abbrev pub OtherPromise : Type 0
OtherPromise =
    (speed : ℕ) (settings list buffer : List ℕ) →
    (to_old speed settings list buffer).answer ≡ Err OtherConfiguration →
    OtherFound settings list

-- What is lent past the output keeps its contents, so all of it after a refusal.
abbrev pub KeptPromise : Type 0
KeptPromise =
    (speed : ℕ) (settings list buffer : List ℕ) →
    RestKept buffer (to_new speed settings list buffer) × RestKept buffer (to_old speed settings list buffer)

-- At speeds 1 to 3 the conversions are those of Before.antt.
abbrev pub BeforePromise : Type 0
BeforePromise =
    (speed : ℕ) (settings list buffer : List ℕ) →
    speed_known speed ≡ true →
    is_super speed ≡ false →
    (to_new speed settings list buffer ≡ before.to_new settings list buffer)
    × (to_old speed settings list buffer ≡ before.to_old settings list buffer)

-- A list has the settings that its words without the companions have.
abbrev pub PassedPromise : Type 0
PassedPromise = (list : List ℕ) (value : ℕ) (pairs : List ℕ) → settings_held list value pairs ≡ settings_held (passed_over list) value pairs
