-- Laws of input contexts: what callers use of a context after some writes.
use Prim.Native.Nat.{ℕ, ◌+◌, ◌*◌, ◌/◌, ◌%◌, ◌<◌, ◌≤◌}
use mathlib.Core.Path.{◌≡◌, refl, sym, ap, ◌∙◌}
use mathlib.Core.Logic.{◌≢◌, inl, inr}
use mathlib.Core.Bool.{Bool, true, false, cond}
use mathlib.Core.List.{List, [], ◌∷◌, ◌++◌}
use native.Mathlib.Omega.{arith}
use native.Mathlib.Nat.{mul-le-mul_left, mul-one, mul-add, mod-lt, div-add-mod}
use native.Mathlib.Decide.{dec_lt}
use borrow.Author.Tests.{eqb-true, eqb-false, eq-eqb}
use lib.Dec.{eqb}
use lib.ListN.{length, take, drop, get_or, length-drop}
use lib.Seq.{length-take-le}
use Rattle.context_field.specs.declared.Field.{Field}
use Rattle.context_field.specs.Field.{write_field, InBlock}
use Rattle.context_field.proofs.Laws.{length_write_field}
use Rattle.context_block.specs.FieldWrite.{FieldWrite, fields_written, after_field_writes, all_inside, clear_cut}
use Rattle.context_block.proofs.Laws.{read_fields_written, bit_fields_written}
use Rattle.context.specs.Place.{Write, SLOT, in_block, of_block, on_part, write_at, written, block_at, read_at, OutsideBlock, Spaced}
use Rattle.context.proofs.Parts.{part_length, part_same, part_above, part_below, part_other, part_twice, part_none}

-- Writes.

-- Writes of which some come first.
pub written_append : (s : ℕ) (a b : List Write) (ctx : List ℕ) → written s (a ++ b) ctx ≡ written s b (written s a ctx)
unfolding written
written_append s [] b ctx = refl
written_append s (w ∷ a) b ctx = written_append s a b (write_at s w ctx)

made : Write → List ℕ → List ℕ
made w b = write_field b w.write.field w.write.value

made_length : (w : Write) (b : List ℕ) → length (made w b) ≡ length b
unfolding made
made_length w b = length_write_field b w.write.field w.write.value

write_made : (s : ℕ) (w : Write) (ctx : List ℕ) → write_at s w ctx ≡ on_part (s * w.block) 32 (made w) ctx
unfolding made write_at on_part
write_made s w ctx = refl

-- The context keeps its length.
pub written_length : (s : ℕ) (ws : List Write) (ctx : List ℕ) → length (written s ws ctx) ≡ length ctx
unfolding written
written_length s [] ctx = refl
written_length s (w ∷ ws) ctx =
    written_length s ws (write_at s w ctx) ∙ rw (write_made s w ctx) (part_length (s * w.block) 32 (made w) ctx (made_length w))

-- The settings of one block are its part settled.
pub written_block :
    (s b : ℕ) (ss : List FieldWrite) (ctx : List ℕ) →
    written s (in_block b ss) ctx ≡ on_part (s * b) 32 (fields_written ss) ctx
unfolding written in_block fields_written on_part made
written_block s b [] ctx = sym (part_none (s * b) 32 ctx)
written_block s b (t ∷ ss) ctx =
    let w : Write = record { block = b; write = t } in
    written_block s b ss (write_at s w ctx)
    ∙ rw (write_made s w ctx) (part_twice (s * b) 32 (made w) ctx (made_length w) (fields_written ss))

pub in_block_append : (b : ℕ) (x y : List FieldWrite) → in_block b (x ++ y) ≡ in_block b x ++ in_block b y
unfolding in_block
in_block_append b [] y = refl
in_block_append b (t ∷ x) y = ap (λ (l : List Write). record { block = b; write = t } ∷ l) (in_block_append b x y)

-- In the slot's block.
pub written_slot :
    (s : ℕ) (ss : List FieldWrite) (ctx : List ℕ) →
    written s (in_block SLOT ss) ctx ≡ on_part s 32 (fields_written ss) ctx
written_slot s ss ctx = written_block s 1 ss ctx ∙ ap (λ (a : ℕ). on_part a 32 (fields_written ss) ctx) (mul-one s)

-- What some writes set in one block.

pub of_block_append : (b : ℕ) (x y : List Write) → of_block b (x ++ y) ≡ of_block b x ++ of_block b y
unfolding of_block
of_block_append b [] y = refl
of_block_append b (w ∷ x) y = go (eqb w.block b) (of_block_append b x y)
  where
    go :
        (t : Bool) →
        of_block b (x ++ y) ≡ of_block b x ++ of_block b y →
        cond t (w.write ∷ of_block b (x ++ y)) (of_block b (x ++ y))
        ≡ cond t (w.write ∷ of_block b x) (of_block b x) ++ of_block b y
    go true e = ap (λ (l : List FieldWrite). w.write ∷ l) e
    go false e = e

pub of_block_same : (b : ℕ) (ss : List FieldWrite) → of_block b (in_block b ss) ≡ ss
unfolding of_block in_block
of_block_same b [] = refl
of_block_same b (t ∷ ss) = rw (eq-eqb b b refl, of_block_same b ss)

pub of_block_other : (b c : ℕ) (ss : List FieldWrite) → eqb c b ≡ false → of_block b (in_block c ss) ≡ []
unfolding of_block in_block
of_block_other b c [] n = refl
of_block_other b c (t ∷ ss) n = rw n (of_block_other b c ss n)

pub of_block_skip :
    (b c : ℕ) (ss : List FieldWrite) (ws : List Write) → eqb c b ≡ false → of_block b (in_block c ss ++ ws) ≡ of_block b ws
of_block_skip b c ss ws n = rw (of_block_append b (in_block c ss) ws, of_block_other b c ss n)

-- Blocks lie apart, each of them inside the context.

next_block : (s b c : ℕ) → b < c → s * b + s ≤ s * c
next_block s b c h = omega (arith, mul-add s b 1, mul-one s, mul-le-mul_left {m = b + 1} {n = c} s (omega arith))

pub blocks_apart : (s b c : ℕ) → 32 ≤ s → b < c → s * b + 32 ≤ s * c
blocks_apart s b c wide h = omega (arith, next_block s b c h)

pub block_room : (s b n : ℕ) → Spaced s n → b ≤ 32 → s * b + 32 ≤ n
block_room s b n sp h = omega (arith, mul-le-mul_left {m = b} {n = 32} s h)

pub block_length : (s b : ℕ) (ctx : List ℕ) → Spaced s (length ctx) → b ≤ 32 → length (block_at s ctx b) ≡ 32
unfolding block_at
block_length s b ctx sp h =
    let r : s * b + 32 ≤ length ctx = block_room s b (length ctx) sp h in
    length-take-le 32 (drop (s * b) ctx) (simp length-drop (omega arith))

module _ (s : ℕ) (wide : 32 ≤ s) where
  write_same : (w : Write) (ctx : List ℕ) → block_at s (write_at s w ctx) w.block ≡ made w (block_at s ctx w.block)
  unfolding block_at
  write_same w ctx = rw (write_made s w ctx) (part_same (s * w.block) 32 (made w) ctx (made_length w))

  write_other : (w : Write) (b : ℕ) (ctx : List ℕ) → w.block ≢ b → block_at s (write_at s w ctx) b ≡ block_at s ctx b
  unfolding block_at
  write_other w b ctx n = rw (write_made s w ctx) (go (dec_lt w.block b))
    where
      go : Dec (w.block < b) → take 32 (drop (s * b) (on_part (s * w.block) 32 (made w) ctx)) ≡ take 32 (drop (s * b) ctx)
      go (yes l) =
          ap (take 32)
          (part_above (s * w.block) 32 (made w) ctx (made_length w) (s * b) (blocks_apart s w.block b wide l))
      go (no l) =
          part_below (s * w.block) 32 (made w) ctx (made_length w) (s * b) 32
          (blocks_apart s b w.block wide (omega arith))

  -- Each block of a context is settled by the writes of that block, and by no others.
  pub block_written :
      (ws : List Write) (ctx : List ℕ) (b : ℕ) →
      block_at s (written s ws ctx) b ≡ fields_written (of_block b ws) (block_at s ctx b)
  unfolding written of_block fields_written made
  block_written [] ctx b = refl
  block_written (w ∷ ws) ctx b = block_written ws (write_at s w ctx) b ∙ go (eqb w.block b) refl
    where
      go :
          (t : Bool) →
          eqb w.block b ≡ t →
          fields_written (of_block b ws) (block_at s (write_at s w ctx) b)
          ≡ fields_written (cond t (w.write ∷ of_block b ws) (of_block b ws)) (block_at s ctx b)
      go true e = let q : w.block ≡ b = eqb-true w.block b e in ap (fields_written (of_block b ws)) (rw (← q) (write_same w ctx))
      go false e = ap (fields_written (of_block b ws)) (write_other w b ctx (eqb-false w.block b e))

-- What a field of a block reads after some writes.

module _ (s : ℕ) (ctx : List ℕ) (spaced : Spaced s (length ctx)) (ws : List Write) (b : ℕ) (low : b ≤ 32) where
  -- A field that each setting of the block is apart from or covers.
  pub read_written :
      (g : Field) →
      InBlock g →
      all_inside (of_block b ws) ≡ true →
      clear_cut (of_block b ws) g ≡ true →
      read_at s (written s ws ctx) b g ≡ after_field_writes (of_block b ws) g (read_at s ctx b g)
  unfolding read_at
  read_written g in_g i c =
      rw (block_written s spaced.wide ws ctx b)
      (read_fields_written g in_g (of_block b ws) (block_at s ctx b) (block_length s b ctx spaced low) i c)

  -- A single bit.
  pub bit_written :
      (g : Field) →
      InBlock g →
      all_inside (of_block b ws) ≡ true →
      g.width ≡ 1 →
      read_at s (written s ws ctx) b g ≡ after_field_writes (of_block b ws) g (read_at s ctx b g)
  unfolding read_at
  bit_written g in_g i e =
      rw (block_written s spaced.wide ws ctx b)
      (bit_fields_written g in_g (of_block b ws) (block_at s ctx b) (block_length s b ctx spaced low) i e)

-- A block of which there are no writes is as before.
pub other_block :
    (s : ℕ) →
    32 ≤ s →
    (ws : List Write) (ctx : List ℕ) (b : ℕ) →
    of_block b ws ≡ [] →
    block_at s (written s ws ctx) b ≡ block_at s ctx b
unfolding fields_written
other_block s wide ws ctx b e = block_written s wide ws ctx b ∙ rw e

-- A byte that is none of the blocks' of some writes.
unfoldable pub Untouched : ℕ → ℕ → List Write → Type 0
Untouched s k [] = Unit {0}
Untouched s k (w ∷ ws) = OutsideBlock s w.block k × Untouched s k ws

pub untouched_append : (s k : ℕ) (a b : List Write) → Untouched s k a → Untouched s k b → Untouched s k (a ++ b)
unfolding Untouched
untouched_append s k [] b p q = q
untouched_append s k (w ∷ a) b p q = (p.0, untouched_append s k a b p.1 q)

pub untouched_block : (s k b : ℕ) (ss : List FieldWrite) → OutsideBlock s b k → Untouched s k (in_block b ss)
unfolding Untouched in_block
untouched_block s k b [] h = tt
untouched_block s k b (t ∷ ss) h = (h, untouched_block s k b ss h)

-- It is as before.
pub other_byte : (s k : ℕ) (ws : List Write) (ctx : List ℕ) → Untouched s k ws → get_or (written s ws ctx) k 0 ≡ get_or ctx k 0
unfolding Untouched written
other_byte s k [] ctx h = refl
other_byte s k (w ∷ ws) ctx h =
    other_byte s k ws (write_at s w ctx) h.1
    ∙ rw (write_made s w ctx) (part_other (s * w.block) 32 (made w) ctx (made_length w) k h.0)

-- Byte 32 on of each spacing lies in no block: at a spacing of 64 the upper halves.
pub between_blocks : (s b k : ℕ) → 32 ≤ s → 32 ≤ k % s → OutsideBlock s b k
between_blocks s b k wide h = go (dec_lt (k / s) b)
  where
    go : Dec (k / s < b) → OutsideBlock s b k
    go (yes l) = inl (omega (arith, div-add-mod k s, mod-lt k {m = s} (omega arith), next_block s (k / s) b l))
    go (no l) = inr (omega (arith, div-add-mod k s, mul-le-mul_left {m = b} {n = k / s} s (omega arith)))

-- Writes leave it as before.
pub upper_half :
    (s k : ℕ) (ws : List Write) (ctx : List ℕ) →
    32 ≤ s →
    32 ≤ k % s →
    get_or (written s ws ctx) k 0 ≡ get_or ctx k 0
unfolding Untouched
upper_half s k ws ctx wide h = other_byte s k ws ctx (all ws)
  where
    all : (ws : List Write) → Untouched s k ws
    all [] = tt
    all (w ∷ ws) = (between_blocks s w.block k wide h, all ws)
