-- Flags of endpoint words, bit by bit and word by word.
use Prim.Native.Nat.{ℕ, zero, suc, ◌+◌, ◌*◌, ◌/◌, ◌%◌, ◌^◌, ◌<◌}
use mathlib.Core.Path.{◌≡◌, refl, sym, ◌∙◌}
use mathlib.Core.Logic.{inl, inr}
use mathlib.Core.Bool.{Bool, true, false, cond, ◌||◌}
use mathlib.Core.List.{List, [], ◌∷◌, ◌++◌}
use mir.Syntax.{w32}
use native.Mathlib.Nat.{mod-eq_of_lt, mod-lt, div-eq_of_lt, add-mod_right, add-div_right, add-zero}
use native.Mathlib.Numerals.{add-one}
use native.Mathlib.Omega.{arith}
use native.Mathlib.Decide.{ℕ_discrete}
use borrow.Author.Tests.{eqb-true, eqb-false, eq-eqb, ne_eqb}
use lib.Bits.{bit_or}
use lib.Dec.{eqb}
use lib.Seq.{take-suc}
use lib.ListN.{length, get_or, take}
use lib.Pow.{pow_pos, pow-add}
use Rattle.std.proofs.lemmas.Nat.{or_lt}
use Rattle.std.proofs.lemmas.Nat.Bits.{bit_at_set_same, bit_at_set_other}
use Rattle.laws.proofs.Cases.{Decided, decided}
use Rattle.laws.proofs.Bits.{cut_above, same_bits}
use Rattle.context_block.specs.Blocks.{word_dci, some_dci}
use Rattle.context_block.specs.Flags.{flags_below, flags_of, FlagsPromise}

-- A flag above a number: below the next power, its own bit, the bits under it.
module _ (x n : ℕ) (h : x < 2 ^ n) where
  doubled : 2 ^ suc n ≡ 2 ^ n * 2
  doubled = rw (← add-one n) (pow-add 2 n 1)

  top_small : (b : Bool) → x + cond b (2 ^ n) 0 < 2 ^ suc n
  top_small true = omega (arith, h, doubled)
  top_small false = omega (arith, h, doubled)

  top_bit : (b : Bool) → (x + cond b (2 ^ n) 0) / 2 ^ n % 2 ≡ cond b 1 0
  top_bit true = rw (add-div_right x (pow_pos n), div-eq_of_lt h)
  top_bit false = rw (add-zero x, div-eq_of_lt h)

  under_top : (b : Bool) (d : ℕ) → d < n → (x + cond b (2 ^ n) 0) / 2 ^ d % 2 ≡ x / 2 ^ d % 2
  under_top true d l = sym (cut_above (x + 2 ^ n) n d 1 (omega arith)) ∙ rw (add-mod_right x (2 ^ n), mod-eq_of_lt h)
  under_top false d l = rw (add-zero x)

pub flags_small : (n : ℕ) (ws : List ℕ) → flags_below n ws < 2 ^ n
unfolding flags_below
flags_small zero ws = omega arith
flags_small (suc n) ws = top_small (flags_below n ws) n (flags_small n ws) (some_dci n ws)

flag_bit : (n : ℕ) (ws : List ℕ) (d : ℕ) → d < n → flags_below n ws / 2 ^ d % 2 ≡ cond (some_dci d ws) 1 0
unfolding flags_below
flag_bit zero ws d h = absurd (omega (arith, h))
flag_bit (suc n) ws d h = go (decided (eqb d n)) (flag_bit n ws d)
  where
    go : Decided (eqb d n) → (d < n → flags_below n ws / 2 ^ d % 2 ≡ cond (some_dci d ws) 1 0) → (flags_below n ws + cond (some_dci n ws) (2 ^ n) 0) / 2 ^ d % 2 ≡ cond (some_dci d ws) 1 0
    go (inl e) i = let q : d ≡ n = eqb-true d n e in rw q (top_bit (flags_below n ws) n (flags_small n ws) (some_dci n ws))
    go (inr e) i =
        let q : d < n = omega (arith, h, eqb-false d n e) in
        under_top (flags_below n ws) n (flags_small n ws) (some_dci n ws) d q ∙ i q

pub flags_promise : FlagsPromise
unfolding flags_of
flags_promise words d h = flag_bit 32 words d h

-- A further word has its Dci.
some_more : (ws : List ℕ) (w d : ℕ) → some_dci d (ws ++ (w ∷ [])) ≡ (eqb (word_dci w) d || some_dci d ws)
unfolding some_dci
some_more [] w d = refl
some_more (v ∷ ws) w d = rw (some_more ws w d) (turned (eqb (word_dci v) d) (eqb (word_dci w) d) (some_dci d ws))
  where
    turned : (a b c : Bool) → (a || (b || c)) ≡ (b || (a || c))
    turned true true c = refl
    turned true false c = refl
    turned false b c = refl

-- One word more sets the bit of its Dci.
pub flag_added : (x w r : ℕ) (ws : List ℕ) → r ≡ word_dci w → r < 32 → x ≡ flags_of ws → bit_or x (1 * 2 ^ r % 2 ^ 32) ≡ flags_of (ws ++ (w ∷ []))
unfolding flags_of
flag_added x w r ws q small e =
    sym (mod-eq_of_lt low) ∙ same_bits _ _ 32 bit ∙ mod-eq_of_lt (flags_small 32 (ws ++ (w ∷ [])))
  where
    low : bit_or x (1 * 2 ^ r % 2 ^ 32) < 2 ^ 32
    low = or_lt 32 x _ (rw e (flags_small 32 ws)) (mod-lt _ (pow_pos 32))

    bit : (k : ℕ) → k < 32 → bit_or x (1 * 2 ^ r % 2 ^ 32) / 2 ^ k % 2 ≡ flags_of (ws ++ (w ∷ [])) / 2 ^ k % 2
    bit k h = go (ℕ_discrete r k)
      where
        go : Dec (r ≡ k) → bit_or x (1 * 2 ^ r % 2 ^ 32) / 2 ^ k % 2 ≡ flags_of (ws ++ (w ∷ [])) / 2 ^ k % 2
        go (yes s) = rw (flags_promise (ws ++ (w ∷ [])) k h, some_more ws w k, ← q, eq-eqb r k s, ← s) (bit_at_set_same w32 x r small)
        go (no n) =
            rw (flags_promise (ws ++ (w ∷ [])) k h, some_more ws w k, ← q, ne_eqb r k n, bit_at_set_other w32 x r small k (λ e. n (sym e)), e)
            (flags_promise ws k h)

pub no_flags : 0 ≡ flags_of []
unfolding flags_of flags_below some_dci
no_flags = refl

-- A turn of the walk.
pub flag_next : (x r : ℕ) (ws : List ℕ) (i : ℕ) → i < length ws → r ≡ word_dci (get_or ws i 0) → r < 32 → x ≡ flags_of (take i ws)
    → bit_or x (1 * 2 ^ r % 2 ^ 32) ≡ flags_of (take (i + 1) ws)
flag_next x r ws i l q small e = rw (add-one i, take-suc ws i 0 l) (flag_added x (get_or ws i 0) r (take i ws) q small e)
