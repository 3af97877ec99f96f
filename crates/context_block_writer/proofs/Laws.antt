-- The control block is the front of an input context: what is written there, written in the context.
use Prim.Native.Nat.{ℕ, ◌≤◌}
use mathlib.Core.Path.{◌≡◌, refl, sym, ap, ◌∙◌}
use mathlib.Core.Bool.{true}
use mathlib.Core.List.{List, [], ◌∷◌}
use native.Mathlib.Omega.{arith}
use native.Mathlib.Nat.{mul-zero}
use lib.ListN.{length, take, drop, take-append-drop}
use lib.Seq.{length-take-le}
use Rattle.laws.proofs.Tests.{and_left, and_right}
use Rattle.context_field.specs.declared.Field.{Field}
use Rattle.context_field.specs.Field.{write_field, InBlock}
use Rattle.context_field.proofs.Laws.{write_front, length_write_field}
use Rattle.context_block.specs.FieldWrite.{FieldWrite, ◌:=◌, fields_written, inside, all_inside}
use Rattle.context_block.proofs.Laws.{inside_true}
use Rattle.context.specs.Place.{CONTROL, in_block, on_part, write_at, written}

-- One field.
pub control_write :
    (s : ℕ) (f : Field) (v : ℕ) (ctx : List ℕ) →
    32 ≤ length ctx →
    InBlock f →
    write_at s (record { block = CONTROL; write = f := v }) ctx ≡ write_field ctx f v
unfolding write_at on_part
control_write s f v ctx h i =
    let size : length (take 32 ctx) ≡ 32 = length-take-le 32 ctx h in
    rw (mul-zero s)
    (sym (write_front (take 32 ctx) (drop 32 ctx) f v (omega arith)) ∙ ap (λ (l : List ℕ). write_field l f v) (take-append-drop 32 ctx))

-- Several.
pub control_written :
    (s : ℕ) (ss : List FieldWrite) (ctx : List ℕ) →
    32 ≤ length ctx →
    all_inside ss ≡ true →
    written s (in_block CONTROL ss) ctx ≡ fields_written ss ctx
unfolding written in_block fields_written all_inside
control_written s [] ctx h i = refl
control_written s (t ∷ ss) ctx h i =
    let f = t.field in
    let e = control_write s f t.value ctx h (inside_true f (and_left (inside f) (all_inside ss) i)) in
    let size : 32 ≤ length (write_field ctx f t.value) = rw (length_write_field ctx f t.value) h in
    ap (written s (in_block CONTROL ss)) e
    ∙ control_written s ss (write_field ctx f t.value) size (and_right (inside f) (all_inside ss) i)
