-- An input context: blocks of 32 bytes at a spacing of 32 or 64. Block 0 is control, 1 the slot, Dci + 1 an endpoint.
use Rattle.std.specs.Prelude.{ℕ, ◌+◌, ◌*◌, ◌<◌, ◌≤◌, cond, ◌⊎◌, List, [], ◌∷◌, ◌++◌, eqb, take, drop}
use Rattle.context_field.specs.declared.Field.{Field}
use Rattle.context_field.specs.Field.{read_field, write_field}
use Rattle.context_block.specs.FieldWrite.{FieldWrite}

-- A field write in a block of a context.
pub record Write : Type 0 where
  pub block : ℕ
  pub write : FieldWrite

unfoldable pub in_block : ℕ → List FieldWrite → List Write
in_block b [] = []
in_block b (s ∷ ss) = record { block = b; write = s } ∷ in_block b ss

abbrev pub CONTROL : ℕ
CONTROL = 0

abbrev pub SLOT : ℕ
SLOT = 1

-- `k` bytes from `a` on put through a function, the rest as it is.
unfoldable pub on_part : ℕ → ℕ → (List ℕ → List ℕ) → List ℕ → List ℕ
on_part a k f l = take a l ++ (f (take k (drop a l)) ++ drop k (drop a l))

unfoldable pub write_at : ℕ → Write → List ℕ → List ℕ
write_at spacing w ctx =
    on_part (spacing * w.block) 32 (λ b. write_field b w.write.field w.write.value) ctx

-- A context after some writes, in order.
unfoldable pub written : ℕ → List Write → List ℕ → List ℕ
written spacing [] ctx = ctx
written spacing (w ∷ ws) ctx = written spacing ws (write_at spacing w ctx)

-- A block of a context, and what a field of it holds.
unfoldable pub block_at : ℕ → List ℕ → ℕ → List ℕ
block_at spacing ctx block = take 32 (drop (spacing * block) ctx)

unfoldable pub read_at : ℕ → List ℕ → ℕ → Field → ℕ
read_at spacing ctx block f = read_field (block_at spacing ctx block) f

-- The field writes that some writes make in one block.
unfoldable pub of_block : ℕ → List Write → List FieldWrite
of_block b [] = []
of_block b (w ∷ ws) = cond (eqb w.block b) (w.write ∷ of_block b ws) (of_block b ws)

-- A byte that is none of a block's.
abbrev pub OutsideBlock : ℕ → ℕ → ℕ → Type 0
OutsideBlock spacing block k = (k < spacing * block) ⊎ (spacing * block + 32 ≤ k)

-- A context with room for 33 blocks that do not overlap: 1,056 bytes at spacing 32, 2,112 at 64.
pub record Spaced (spacing len : ℕ) : Type 0 where
  pub wide : 32 ≤ spacing
  pub narrow : spacing ≤ 64
  pub room : 33 * spacing ≤ len

-- The length of a context gives the spacing of its blocks; 0 for a length that is none of a context.
unfoldable pub spacing_of : ℕ → ℕ
spacing_of len = cond (eqb len 1056) 32 (cond (eqb len 2112) 64 0)
