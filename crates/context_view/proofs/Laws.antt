-- The tests of a view: a context of its spacing, and a field of one of its blocks.
use Prim.Native.Nat.{ℕ, ◌+◌, ◌*◌, ◌<◌, ◌≤◌}
use mathlib.Core.Path.{◌≡◌, refl}
use mathlib.Core.Logic.{◌⊎◌, inl, inr}
use mathlib.Core.List.{List}
use mathlib.Core.Bool.{true, ◌&&◌, ◌||◌}
use native.Mathlib.Omega.{arith}
use borrow.Author.Tests.{eqb-true, ltb-true, leb-true}
use lib.Dec.{eqb, ltb, leb}
use lib.ListN.{length}
use Rattle.laws.proofs.Tests.{and_left, and_right}
use Rattle.laws.proofs.Cases.{or_cases}
use Rattle.context_field.specs.declared.Field.{Field}
use Rattle.context_field.specs.Field.{InBlock}
use Rattle.context.specs.Place.{read_at, Spaced}
use Rattle.context.proofs.Laws.{block_room}
use Rattle.context_view.specs.View.{is_context, is_field, field_in}
use Rattle.std.proofs.Common.{Ok}

-- A block of a context lies in it, and a field of a block lies in the block.
pub in_context :
    (s len b : ℕ) (f : Field) →
    is_context s len ≡ true →
    is_field b f ≡ true →
    (s * b + 32 ≤ len) × InBlock f
unfolding is_context is_field
in_context s len b f c i =
    let inner : (ltb f.word 8 && leb (f.low + f.width) 32) ≡ true = and_right (ltb b 33) (ltb f.word 8 && leb (f.low + f.width) 32) i in
    let long : len ≡ 33 * s = eqb-true len (33 * s) (and_right (eqb s 32 || eqb s 64) (eqb len (33 * s)) c) in
    let below : b < 33 = ltb-true b 33 (and_left (ltb b 33) (ltb f.word 8 && leb (f.low + f.width) 32) i) in (
      block_room s b len (spaced (or_cases (eqb s 32) (eqb s 64) (and_left (eqb s 32 || eqb s 64) (eqb len (33 * s)) c)) long) (omega arith),
      (
        ltb-true f.word 8 (and_left (ltb f.word 8) (leb (f.low + f.width) 32) inner),
        leb-true (f.low + f.width) 32 (and_right (ltb f.word 8) (leb (f.low + f.width) 32) inner),
      ),
    )
  where
    spaced : (eqb s 32 ≡ true) ⊎ (eqb s 64 ≡ true) → len ≡ 33 * s → Spaced s len
    spaced (inl e) l =
        let x : s ≡ 32 = eqb-true s 32 e in record { wide = omega arith; narrow = omega arith; room = omega arith }
    spaced (inr e) l =
        let x : s ≡ 64 = eqb-true s 64 e in record { wide = omega arith; narrow = omega arith; room = omega arith }

-- What the view reads of a field of a context.
pub read_of_context :
    (ctx : List ℕ) (s b : ℕ) (f : Field) →
    is_context s (length ctx) ≡ true →
    is_field b f ≡ true →
    field_in ctx s b f ≡ Ok (read_at s ctx b f)
unfolding field_in
read_of_context ctx s b f c i = rw (c, i) refl
