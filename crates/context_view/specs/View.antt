-- What a view of an input context reads: a field of one of its blocks, by the fields of xHCI 1.2, section 6.2.
use Rattle.std.specs.Prelude.{ℕ, ◌+◌, ◌*◌, Bool, cond, ◌&&◌, ◌||◌, List, eqb, ltb, leb, length, Result, Ok, Err}
use Rattle.context_field.specs.declared.Field.{Field}
use Rattle.context.specs.Place.{read_at}
use Rattle.context_view.specs.declared.NoReading.{NoReading}
use Rattle.context_view.specs.declared.NoReading.TheVariants.{NoContext, NoField}

-- 33 blocks at a spacing of 32 or 64, and nothing more.
unfoldable pub is_context : ℕ → ℕ → Bool
is_context spacing len = (eqb spacing 32 || eqb spacing 64) && eqb len (33 * spacing)

-- A field that lies in one of the 33 blocks.
unfoldable pub is_field : ℕ → Field → Bool
is_field block f = ltb block 33 && (ltb f.word 8 && leb (f.low + f.width) 32)

unfoldable pub field_in : List ℕ → ℕ → ℕ → Field → Result ℕ NoReading
field_in ctx spacing block f =
    cond (is_context spacing (length ctx))
    (cond (is_field block f) (Ok (read_at spacing ctx block f)) (Err NoField))
    (Err NoContext)

-- A field of an endpoint's block. A Dci of 0 names no endpoint.
unfoldable pub endpoint_field_in : List ℕ → ℕ → ℕ → Field → Result ℕ NoReading
endpoint_field_in ctx spacing dci f = cond (eqb dci 0) (Err NoField) (field_in ctx spacing (dci + 1) f)
