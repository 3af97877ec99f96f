-- Words together, bit by bit: below a power of two exactly if each is.
use Prim.Native.Nat.{ℕ, zero, suc, ◌+◌, ◌-◌, ◌^◌, ◌≤◌}
use mathlib.Core.Path.{◌≡◌, refl, ◌∙◌}
use mathlib.Core.Bool.{Bool, true, false, ◌&&◌}
use mathlib.Core.List.{List}
use native.Mathlib.Omega.{arith}
use native.Mathlib.Numerals.{add-one}
use borrow.Author.Tests.{eq-eqb, lt-ltb, le-ltb, ltb-true, ltb-false}
use lib.Bits.{bit_or, or_lt, or_add_and, and_le_l, and_le_r}
use lib.Dec.{ltb}
use lib.ListN.{length, get_or, take, drop}
use lib.Pow.{pow_pos}
use lib.Seq.{drop-cons}
use Rattle.std.specs.Prelude.{fold}
use Rattle.device_image.specs.Layout.{USABLE, SLOT, LIST, SPACING, UP, WORDS}
use Rattle.device_image.specs.Image.{below, is_image}

or_below : (k a b : ℕ) (more : Bool) → (ltb (bit_or a b) (2 ^ k) && more) ≡ (ltb a (2 ^ k) && (ltb b (2 ^ k) && more))
or_below k a b more = go (ltb a (2 ^ k)) (ltb b (2 ^ k)) refl refl
  where
    go : (p q : Bool) → ltb a (2 ^ k) ≡ p → ltb b (2 ^ k) ≡ q → (ltb (bit_or a b) (2 ^ k) && more) ≡ (p && (q && more))
    go true true e f = rw (lt-ltb (bit_or a b) (2 ^ k) (or_lt k a b (ltb-true a (2 ^ k) e) (ltb-true b (2 ^ k) f)))
    go true false e f =
        rw (le-ltb (bit_or a b) (2 ^ k) (omega (arith, ltb-false b (2 ^ k) f, or_add_and a b, and_le_l a b)))
    go false q e f =
        rw (le-ltb (bit_or a b) (2 ^ k) (omega (arith, ltb-false a (2 ^ k) e, or_add_and a b, and_le_r a b)))

and-true : (b : Bool) → b ≡ (b && true)
and-true true = refl
and-true false = refl

gathered : (k n i a : ℕ) (l : List ℕ) → i + n ≤ length l →
    ltb (fold bit_or a (take n (drop i l))) (2 ^ k) ≡ (ltb a (2 ^ k) && below (2 ^ k) n i l)
unfolding below
gathered k zero i a l h = and-true (ltb a (2 ^ k))
gathered k (suc n) i a l h =
    rw (drop-cons l i 0 (omega arith), ← add-one i)
    (gathered k n (i + 1) (bit_or a (get_or l i 0)) l (omega arith)
    ∙ or_below k a (get_or l i 0) (below (2 ^ k) n (i + 1) l))

bits_below : (k n i : ℕ) (l : List ℕ) → i + n ≤ length l → ltb (fold bit_or 0 (take n (drop i l))) (2 ^ k) ≡ below (2 ^ k) n i l
bits_below k n i l h = gathered k n i 0 l h ∙ rw (lt-ltb 0 (2 ^ k) (pow_pos k))

below_one : (bound i : ℕ) (l : List ℕ) → ltb (get_or l i 0) bound ≡ below bound 1 i l
unfolding below
below_one bound i l = and-true (ltb (get_or l i 0) bound)

-- What words together say is what each says.
pub image_tested :
    (l : List ℕ) (flags bytes words : ℕ) → length l ≡ WORDS → flags ≡ fold bit_or 0 (take (SLOT - USABLE) (drop USABLE l)) →
    bytes ≡ fold bit_or 0 (take (LIST - SLOT) (drop SLOT l)) → words ≡ fold bit_or 0 (take (SPACING - LIST) (drop LIST l)) →
    (ltb flags 2 && (ltb bytes 256 && (ltb words 4294967296 && ltb (get_or l UP 0) 2))) ≡ is_image l
unfolding is_image
image_tested l flags bytes words size f b w =
    rw (
      f,
      b,
      w,
      eq-eqb (length l) WORDS size,
      bits_below 1 (SLOT - USABLE) USABLE l (omega (arith, size)),
      bits_below 8 (LIST - SLOT) SLOT l (omega (arith, size)),
      bits_below 32 (SPACING - LIST) LIST l (omega (arith, size)),
      below_one 2 UP l,
    )
