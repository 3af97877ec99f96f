-- Fields of a 32-byte block of little-endian doublewords: a doubleword, a low bit and a width.
use Rattle.std.specs.Prelude.{ℕ, ◌+◌, ◌-◌, ◌*◌, ◌/◌, ◌%◌, ◌^◌, ◌<◌, ◌≤◌, Bool, not, cond, ◌&&◌, ◌||◌, List, eqb, leb, get_or, set}
use Rattle.context_field.specs.declared.Field.{Field}

-- The doubleword at index `w`.
unfoldable pub word_at : List ℕ → ℕ → ℕ
word_at b w = get_or b (4 * w) 0 + get_or b (4 * w + 1) 0 * 2 ^ 8 + get_or b (4 * w + 2) 0 * 2 ^ 16 + get_or b (4 * w + 3) 0 * 2 ^ 24

-- The block with the low 32 bits of `x` as doubleword `w`.
unfoldable pub put_word : List ℕ → ℕ → ℕ → List ℕ
put_word b w x =
    set
    (set
    (set
    (set b (4 * w) (x % 2 ^ 8))
    (4 * w + 1) (x / 2 ^ 8 % 2 ^ 8))
    (4 * w + 2) (x / 2 ^ 16 % 2 ^ 8))
    (4 * w + 3) (x / 2 ^ 24 % 2 ^ 8)

-- What a field holds.
unfoldable pub read_field : List ℕ → Field → ℕ
read_field b f = word_at b f.word / 2 ^ f.low % 2 ^ f.width

-- A doubleword with `width` bits from `low` on made those of `v`: what lies above them, they, what lies below.
unfoldable pub with_bits : ℕ → ℕ → ℕ → ℕ → ℕ
with_bits d low width v = d / 2 ^ (low + width) * 2 ^ (low + width) + v % 2 ^ width * 2 ^ low + d % 2 ^ low

-- The block with a field made `v`, of which the field takes as many low bits as it has.
unfoldable pub write_field : List ℕ → Field → ℕ → List ℕ
write_field b f v = put_word b f.word (with_bits (word_at b f.word) f.low f.width v)

-- The bit at a place of a doubleword.
abbrev pub bit : ℕ → ℕ → Field
bit word low = record { word = word; low = low; width = 1 }

-- A field that lies in a block.
abbrev pub InBlock : Field → Type 0
InBlock f = (f.word < 8) × (f.low + f.width ≤ 32)

-- Two fields that share no bit.
unfoldable pub apart : Field → Field → Bool
apart f g = not (eqb f.word g.word) || (leb (f.low + f.width) g.low || leb (g.low + g.width) f.low)

-- `g` lies in `f`.
unfoldable pub within : Field → Field → Bool
within g f = eqb f.word g.word && (leb f.low g.low && leb (g.low + g.width) (f.low + f.width))

-- What `g` holds after `f` was made `v`, where they are apart or `g` lies in `f`.
unfoldable pub read_after : Field → ℕ → Field → ℕ → ℕ
read_after f v g old = cond (apart f g) old (v / 2 ^ (g.low - f.low) % 2 ^ g.width)

-- Every element is a byte.
pub record Bytes (b : List ℕ) : Type 0 where
  pub small : (k : ℕ) → get_or b k 0 < 256
