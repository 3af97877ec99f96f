-- Writes to a 32-byte block's fields.
use Rattle.std.specs.Prelude.{ℕ, ◌+◌, Bool, true, ◌&&◌, ◌||◌, List, [], ◌∷◌, leb, ltb}
use Rattle.context_field.specs.declared.Field.{Field}
use Rattle.context_field.specs.Field.{write_field, apart, within, read_after}

-- A field, and the value that it is made.
pub record FieldWrite : Type 0 where
  pub field : Field
  pub value : ℕ

infix 10 ◌:=◌
abbrev pub ◌:=◌ : Field → ℕ → FieldWrite
◌:=◌ f v = record { field = f; value = v }

-- A block after its fields were made so, in order.
unfoldable pub fields_written : List FieldWrite → List ℕ → List ℕ
fields_written [] block = block
fields_written (s ∷ ss) block = fields_written ss (write_field block s.field s.value)

-- What field `g` holds then, from what it held.
unfoldable pub after_field_writes : List FieldWrite → Field → ℕ → ℕ
after_field_writes [] g old = old
after_field_writes (s ∷ ss) g old = after_field_writes ss g (read_after s.field s.value g old)

-- A field lies in a block: the test of `InBlock`.
unfoldable pub inside : Field → Bool
inside f = ltb f.word 8 && leb (f.low + f.width) 32

-- Each field that is set lies in a block.
unfoldable pub all_inside : List FieldWrite → Bool
all_inside [] = true
all_inside (s ∷ ss) = inside s.field && all_inside ss

-- `g` is apart from each field that is set, or lies in it.
unfoldable pub clear_cut : List FieldWrite → Field → Bool
clear_cut [] g = true
clear_cut (s ∷ ss) g = (apart s.field g || within g s.field) && clear_cut ss g
