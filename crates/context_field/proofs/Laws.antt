-- Laws of fields: what a block holds after a field was written.
use Prim.Native.Nat.{ℕ, zero, suc, ◌+◌, ◌-◌, ◌*◌, ◌/◌, ◌%◌, ◌<◌, ◌≤◌, ◌^◌}
use mathlib.Core.Path.{◌≡◌, refl, sym, ◌∙◌, ap}
use mathlib.Core.Logic.{◌≢◌, ◌⊎◌, inl, inr, ⊎_elim, ⊎_map}
use mathlib.Core.Bool.{Bool, true, false, not, cond, ◌&&◌, ◌||◌}
use mathlib.Core.List.{List, [], ◌∷◌, ◌++◌}
use native.Mathlib.Omega.{arith}
use native.Mathlib.Decide.{ℕ_discrete}
use native.Mathlib.Nat.{mod-lt, mod-eq_of_lt, mul_assoc, add-mul, add_comm, sub_self, div-one, div-add-mod, add-zero}
use borrow.Author.Tests.{eqb-true, eqb-false, leb-true, leb-false, not-true, not-false, eq-eqb, le-leb}
use lib.Dec.{eqb, leb, lit<}
use lib.ListN.{length, take, drop, get_or, set, length-set, get_or-append}
use lib.Pow.{pow-add, pow_pos, high, low, shr-shr, mod-pow-add, shr_lt}
use lib.Seq.{get_or-set_same, get_or-set_other, set_comm, lt-length-set, set-append_left, ext_get_or}
use Rattle.std.proofs.Math.Arith.{digits_lt}
use Rattle.laws.proofs.Bits.{cut_above, same_bits}
use Rattle.laws.proofs.Cases.{or_cases, or_none}
use Rattle.laws.proofs.Tests.{and_left, and_right, not_both}
use Rattle.context_field.specs.declared.Field.{Field}
use Rattle.context_field.specs.Field.{word_at, put_word, with_bits, read_field, write_field, InBlock, apart, within, read_after, Bytes}

-- Runs of bits of a doubleword with some bits made those of a value.

module _ (d l w v : ℕ) where
  -- the doubleword as what lies from the run's lowest bit on, and what lies below
  split_at_low : with_bits d l w v ≡ (d / 2 ^ (l + w) * 2 ^ w + v % 2 ^ w) * 2 ^ l + d % 2 ^ l
  unfolding with_bits
  split_at_low = ap (λ (x : ℕ). x + d % 2 ^ l) (rw (add-mul, mul_assoc, ← pow-add 2 w l, add_comm w l))

  from_low : with_bits d l w v / 2 ^ l ≡ d / 2 ^ (l + w) * 2 ^ w + v % 2 ^ w
  from_low = rw split_at_low (high (d / 2 ^ (l + w) * 2 ^ w + v % 2 ^ w) l (mod-lt d (pow_pos l)))

  below_low : with_bits d l w v % 2 ^ l ≡ d % 2 ^ l
  below_low = rw split_at_low (low (d / 2 ^ (l + w) * 2 ^ w + v % 2 ^ w) l (mod-lt d (pow_pos l)))

  from_end : with_bits d l w v / 2 ^ (l + w) ≡ d / 2 ^ (l + w)
  from_end = sym (shr-shr (with_bits d l w v) l w) ∙ rw from_low (high (d / 2 ^ (l + w)) w (mod-lt v (pow_pos w)))

  -- a run above the written one
  run_above : (l' w' : ℕ) → l + w ≤ l' → with_bits d l w v / 2 ^ l' % 2 ^ w' ≡ d / 2 ^ l' % 2 ^ w'
  run_above l' w' h =
      let e : l' ≡ l + w + (l' - (l + w)) = omega arith in
      rw (e, ← shr-shr (with_bits d l w v) (l + w) (l' - (l + w)), ← shr-shr d (l + w) (l' - (l + w)), from_end)

  -- one below it
  run_under : (l' w' : ℕ) → l' + w' ≤ l → with_bits d l w v / 2 ^ l' % 2 ^ w' ≡ d / 2 ^ l' % 2 ^ w'
  run_under l' w' h =
      sym (cut_above (with_bits d l w v) l l' w' h) ∙ ap (λ (x : ℕ). x / 2 ^ l' % 2 ^ w') below_low ∙ cut_above d l l' w' h

  -- one in it
  run_within : (l' w' : ℕ) → l ≤ l' → l' + w' ≤ l + w → with_bits d l w v / 2 ^ l' % 2 ^ w' ≡ v / 2 ^ (l' - l) % 2 ^ w'
  run_within l' w' h k =
      let e : l' ≡ l + (l' - l) = omega arith in
      let i : l' - l + w' ≤ w = omega arith in
      ap (λ (x : ℕ). with_bits d l w v / 2 ^ x % 2 ^ w') e
      ∙ ap (λ (x : ℕ). x % 2 ^ w') (sym (shr-shr (with_bits d l w v) l (l' - l)) ∙ ap (λ (x : ℕ). x / 2 ^ (l' - l)) from_low)
      ∙ sym (cut_above (d / 2 ^ (l + w) * 2 ^ w + v % 2 ^ w) w (l' - l) w' i)
      ∙ ap (λ (x : ℕ). x / 2 ^ (l' - l) % 2 ^ w') (low (d / 2 ^ (l + w)) w (mod-lt v (pow_pos w)))
      ∙ cut_above v w (l' - l) w' i

  -- a doubleword stays one
  below : l + w ≤ 32 → d < 2 ^ 32 → with_bits d l w v < 2 ^ 32
  unfolding with_bits
  below h k =
      let e : 32 ≡ (32 - (l + w)) + (l + w) = omega arith in
      let top : d / 2 ^ (l + w) < 2 ^ (32 - (l + w)) = shr_lt (32 - (l + w)) (l + w) (rw (← e) k) in
      let run : v % 2 ^ w * 2 ^ l + d % 2 ^ l < 2 ^ (l + w) =
      rw (add_comm l w, pow-add 2 w l) (digits_lt (mod-lt v (pow_pos w)) (mod-lt d (pow_pos l))) in
      let whole : d / 2 ^ (l + w) * 2 ^ (l + w) + (v % 2 ^ w * 2 ^ l + d % 2 ^ l) < 2 ^ (32 - (l + w)) * 2 ^ (l + w) = digits_lt top run in
      let size : 2 ^ 32 ≡ 2 ^ (32 - (l + w)) * 2 ^ (l + w) = ap (λ (x : ℕ). 2 ^ x) e ∙ pow-add 2 (32 - (l + w)) (l + w) in
      omega (arith, whole, size)

-- as the code has the powers
pub bits_below : (d l w v end scale span : ℕ) → l + w ≤ 32 → d < 2 ^ 32 → end ≡ 2 ^ (l + w) → scale ≡ 2 ^ l → span ≡ 2 ^ w
    → d / end * end + v % span * scale + d % scale < 2 ^ 32
unfolding with_bits
bits_below d l w v end scale span h k e s p = rw (e, s, p) (below d l w v h k)

-- Doublewords of a block.

turned : (a b c d : ℕ) → a + b + c + d ≡ d + (c + (b + a))
turned a b c d = omega arith

-- the low 32 bits of a number by their bytes
by_bytes : (x : ℕ) → x % 2 ^ 8 + x / 2 ^ 8 % 2 ^ 8 * 2 ^ 8 + x / 2 ^ 16 % 2 ^ 8 * 2 ^ 16 + x / 2 ^ 24 % 2 ^ 8 * 2 ^ 24 ≡ x % 2 ^ 32
by_bytes x =
    turned _ _ _ _
    ∙ sym
    (mod-pow-add x 8 24
    ∙ ap (λ (y : ℕ). x / 2 ^ 24 % 2 ^ 8 * 2 ^ 24 + y)
    (mod-pow-add x 8 16 ∙ ap (λ (y : ℕ). x / 2 ^ 16 % 2 ^ 8 * 2 ^ 16 + y) (mod-pow-add x 8 8)))

four_set : (b : List ℕ) (i a0 a1 a2 a3 : ℕ) → i + 4 ≤ length b →
    set (set (set (set b i a0) (suc i) a1) (suc (suc i)) a2) (suc (suc (suc i))) a3 ≡ take i b ++ (a0 ∷ a1 ∷ a2 ∷ a3 ∷ drop (suc (suc (suc (suc i)))) b)
four_set [] i a0 a1 a2 a3 h = absurd (omega arith)
four_set (x ∷ []) zero a0 a1 a2 a3 h = absurd (omega arith)
four_set (x ∷ y ∷ []) zero a0 a1 a2 a3 h = absurd (omega arith)
four_set (x ∷ y ∷ z ∷ []) zero a0 a1 a2 a3 h = absurd (omega arith)
four_set (x ∷ y ∷ z ∷ u ∷ b) zero a0 a1 a2 a3 h = refl
four_set (x ∷ b) (suc i) a0 a1 a2 a3 h = ap (λ (m : List ℕ). x ∷ m) (four_set b i a0 a1 a2 a3 (omega arith))

-- A doubleword pasted in by its bytes.
pub word_pasted : (b : List ℕ) (w x : ℕ) → 4 * w + 4 ≤ length b →
    put_word b w x ≡ take (4 * w) b ++ (x % 2 ^ 8 ∷ x / 2 ^ 8 % 2 ^ 8 ∷ x / 2 ^ 16 % 2 ^ 8 ∷ x / 2 ^ 24 % 2 ^ 8 ∷ drop (4 * w + 4) b)
unfolding put_word
word_pasted b w x h =
    let e1 : 4 * w + 1 ≡ suc (4 * w) = omega arith in
    let e2 : 4 * w + 2 ≡ suc (suc (4 * w)) = omega arith in
    let e3 : 4 * w + 3 ≡ suc (suc (suc (4 * w))) = omega arith in
    let e4 : 4 * w + 4 ≡ suc (suc (suc (suc (4 * w)))) = omega arith in
    rw (e1, e2, e3, e4) (four_set b (4 * w) _ _ _ _ h)

byte_set : (b : List ℕ) (i x : ℕ) → ((k : ℕ) → get_or b k 0 < 256) → x < 256 → (k : ℕ) → get_or (set b i x) k 0 < 256
byte_set [] i x h l k = h k
byte_set (a ∷ b) zero x h l zero = l
byte_set (a ∷ b) zero x h l (suc k) = h (suc k)
byte_set (a ∷ b) (suc i) x h l zero = h zero
byte_set (a ∷ b) (suc i) x h l (suc k) = byte_set b i x (λ j. h (suc j)) l k

-- A list of bytes with a byte stored is one of bytes.
pub bytes_set : {b : List ℕ} (i : ℕ) {x : ℕ} → Bytes b → x < 256 → Bytes (set b i x)
bytes_set {b} i {x} h l = record { small = byte_set b i x h.small l }

module _ (b : List ℕ) (w x : ℕ) where
  length_put_word : length (put_word b w x) ≡ length b
  unfolding put_word
  length_put_word = simp length-set

  word_other : (w' : ℕ) → w' ≢ w → word_at (put_word b w x) w' ≡ word_at b w'
  unfolding word_at put_word
  word_other w' h =
      rw (
        at (4 * w') (omega arith) (omega arith) (omega arith) (omega arith),
        at (4 * w' + 1) (omega arith) (omega arith) (omega arith) (omega arith),
        at (4 * w' + 2) (omega arith) (omega arith) (omega arith) (omega arith),
        at (4 * w' + 3) (omega arith) (omega arith) (omega arith) (omega arith),
      )
    where
      at : (j : ℕ) → j ≢ 4 * w → j ≢ 4 * w + 1 → j ≢ 4 * w + 2 → j ≢ 4 * w + 3 → get_or (put_word b w x) j 0 ≡ get_or b j 0
      at j h0 h1 h2 h3 = simp get_or-set_other

  word_same : 4 * w + 4 ≤ length b → word_at (put_word b w x) w ≡ x % 2 ^ 32
  unfolding word_at put_word
  word_same h = rw (at0, at1, at2, at3) (by_bytes x)
    where
      at0 : get_or (put_word b w x) (4 * w) 0 ≡ x % 2 ^ 8
      at0 =
          let h1 : 4 * w ≢ 4 * w + 1 = omega arith in
          let h2 : 4 * w ≢ 4 * w + 2 = omega arith in
          let h3 : 4 * w ≢ 4 * w + 3 = omega arith in
          let l : 4 * w < length b = omega arith in
          simp (get_or-set_other, get_or-set_same)

      at1 : get_or (put_word b w x) (4 * w + 1) 0 ≡ x / 2 ^ 8 % 2 ^ 8
      at1 =
          let h2 : 4 * w + 1 ≢ 4 * w + 2 = omega arith in
          let h3 : 4 * w + 1 ≢ 4 * w + 3 = omega arith in
          let l : 4 * w + 1 < length b = omega arith in
          simp (get_or-set_other, get_or-set_same, lt-length-set)

      at2 : get_or (put_word b w x) (4 * w + 2) 0 ≡ x / 2 ^ 16 % 2 ^ 8
      at2 =
          let h3 : 4 * w + 2 ≢ 4 * w + 3 = omega arith in
          let l : 4 * w + 2 < length b = omega arith in
          simp (get_or-set_other, get_or-set_same, lt-length-set)

      at3 : get_or (put_word b w x) (4 * w + 3) 0 ≡ x / 2 ^ 24 % 2 ^ 8
      at3 =
          let l : 4 * w + 3 < length b = omega arith in
          simp (get_or-set_same, lt-length-set)

  bytes_put_word : Bytes b → Bytes (put_word b w x)
  unfolding put_word
  bytes_put_word h =
      bytes_set (4 * w + 3)
      (bytes_set (4 * w + 2) (bytes_set (4 * w + 1) (bytes_set (4 * w) h (byte x)) (byte (x / 2 ^ 8))) (byte (x / 2 ^ 16)))
      (byte (x / 2 ^ 24))
    where
      byte : (y : ℕ) → y % 2 ^ 8 < 256
      byte y = mod-lt y (pow_pos 8)

-- What the tests of two fields say.

module _ (f g : Field) where
  -- Fields that share no bit lie in different doublewords, or one above the other.
  pub apart_true : apart f g ≡ true → (f.word ≢ g.word) ⊎ (f.low + f.width ≤ g.low) ⊎ (g.low + g.width ≤ f.low)
  unfolding apart
  apart_true e =
      ⊎_map (λ n. eqb-false _ _ (not-true _ n)) (λ n. ⊎_map (leb-true _ _) (leb-true _ _) (or_cases _ _ n))
      (or_cases (not (eqb f.word g.word)) (leb (f.low + f.width) g.low || leb (g.low + g.width) f.low) e)

  -- Fields that share one are in the same doubleword, and each begins below the other's end.
  pub apart_false : apart f g ≡ false → (f.word ≡ g.word) × (g.low < f.low + f.width) × (f.low < g.low + g.width)
  unfolding apart
  apart_false e =
      let above = leb (f.low + f.width) g.low in
      let below = leb (g.low + g.width) f.low in
      let w = or_none (not (eqb f.word g.word)) (above || below) e in
      let n = or_none above below w.1 in
      (eqb-true _ _ (not-false _ w.0), leb-false _ _ n.0, leb-false _ _ n.1)

  -- A field that lies in another begins and ends in it.
  pub within_true : within g f ≡ true → (f.word ≡ g.word) × (f.low ≤ g.low) × (g.low + g.width ≤ f.low + f.width)
  unfolding within
  within_true e =
      let n : (leb f.low g.low && leb (g.low + g.width) (f.low + f.width)) ≡ true = and_right (eqb f.word g.word) _ e in
      (eqb-true _ _ (and_left _ _ e), leb-true _ _ (and_left _ _ n), leb-true _ _ (and_right (leb f.low g.low) _ n))

  -- A single bit that is not apart from a field lies in it.
  pub bit_within : g.width ≡ 1 → apart f g ≡ false → within g f ≡ true
  unfolding within
  bit_within e p =
      let s : (f.word ≡ g.word) × (g.low < f.low + f.width) × (f.low < g.low + g.width) = apart_false p in
      let above : f.low ≤ g.low = omega arith in
      let under : g.low + g.width ≤ f.low + f.width = omega arith in
      rw (eq-eqb _ _ s.0, le-leb _ _ above, le-leb _ _ under)

  -- A single bit is apart from a field or lies in it.
  pub bit_cases : g.width ≡ 1 → (apart f g ≡ true) ⊎ (within g f ≡ true)
  bit_cases e = go (apart f g) refl
    where
      go : (t : Bool) → apart f g ≡ t → (apart f g ≡ true) ⊎ (within g f ≡ true)
      go true p = inl p
      go false p = inr (bit_within e p)

-- A field lies in itself.
pub within_self : (f : Field) → within f f ≡ true
unfolding within
within_self f = rw (eq-eqb f.word f.word refl, le-leb f.low f.low (omega arith), le-leb (f.low + f.width) (f.low + f.width) (omega arith))

-- A field written.

module _ (b : List ℕ) (f : Field) (v : ℕ) where
  -- A block keeps its length when a field is written.
  pub length_write_field : length (write_field b f v) ≡ length b
  unfolding write_field
  length_write_field = length_put_word b f.word (with_bits (word_at b f.word) f.low f.width v)

  -- It stays a list of bytes.
  pub bytes_write_field : Bytes b → Bytes (write_field b f v)
  unfolding write_field
  bytes_write_field = bytes_put_word b f.word (with_bits (word_at b f.word) f.low f.width v)

  -- A field of another doubleword reads as before.
  read_other : (g : Field) → f.word ≢ g.word → read_field (write_field b f v) g ≡ read_field b g
  unfolding read_field write_field
  read_other g n =
      let m : g.word ≢ f.word = omega arith in
      rw (word_other b f.word (with_bits (word_at b f.word) f.low f.width v) g.word m)

  module _ (size : length b ≡ 32) (in_f : InBlock f) where
    -- A field of the same doubleword reads as a run of its new bits.
    read_run : (g : Field) → f.word ≡ g.word → g.low + g.width ≤ 32
        → read_field (write_field b f v) g ≡ with_bits (word_at b g.word) f.low f.width v / 2 ^ g.low % 2 ^ g.width
    unfolding read_field write_field
    read_run g e h =
        rw (← e, word_same b f.word (with_bits (word_at b f.word) f.low f.width v) (omega arith))
        (cut_above (with_bits (word_at b f.word) f.low f.width v) 32 g.low g.width h)

    -- A field that shares no bit with the written one reads as before.
    pub read_apart : (g : Field) → InBlock g → apart f g ≡ true → read_field (write_field b f v) g ≡ read_field b g
    unfolding read_field
    read_apart g in_g a = go (ℕ_discrete f.word g.word)
      where
        go : Dec (f.word ≡ g.word) → read_field (write_field b f v) g ≡ read_field b g
        go (no n) = read_other g n
        go (yes e) =
            read_run g e in_g.1
            ∙ ⊎_elim (λ n. absurd (n e))
            (⊎_elim (run_above (word_at b g.word) f.low f.width v g.low g.width) (run_under (word_at b g.word) f.low f.width v g.low g.width))
            (apart_true f g a)

    -- A field that lies in the written one reads as its part of the value.
    pub read_within : (g : Field) → within g f ≡ true → read_field (write_field b f v) g ≡ v / 2 ^ (g.low - f.low) % 2 ^ g.width
    read_within g a =
        let w : (f.word ≡ g.word) × (f.low ≤ g.low) × (g.low + g.width ≤ f.low + f.width) = within_true f g a in
        read_run g w.0 (omega arith) ∙ run_within (word_at b g.word) f.low f.width v g.low g.width w.1 w.2

    -- The written field reads as the low bits of the value, as many as it has.
    pub read_same : read_field (write_field b f v) f ≡ v % 2 ^ f.width
    read_same = read_within f (within_self f) ∙ rw (sub_self f.low, div-one v)

    -- It reads as the value where that has no more.
    pub read_back : v < 2 ^ f.width → read_field (write_field b f v) f ≡ v
    read_back h = read_same ∙ mod-eq_of_lt h

    -- What a field holds that is apart from the written one or lies in it.
    pub read_write : (g : Field) → InBlock g → (apart f g ≡ true) ⊎ (within g f ≡ true) → read_field (write_field b f v) g ≡ read_after f v g (read_field b g)
    unfolding read_after
    read_write g in_g s = go (apart f g) refl s
      where
        go : (t : Bool) → apart f g ≡ t → (apart f g ≡ true) ⊎ (within g f ≡ true)
            → read_field (write_field b f v) g ≡ cond t (read_field b g) (v / 2 ^ (g.low - f.low) % 2 ^ g.width)
        go true e s = read_apart g in_g e
        go false e (inl a) = not_both (apart f g) a e
        go false e (inr a) = read_within g a

    -- What any single bit holds.
    pub bit_write : (g : Field) → InBlock g → g.width ≡ 1 → read_field (write_field b f v) g ≡ read_after f v g (read_field b g)
    bit_write g in_g e = read_write g in_g (bit_cases f g e)

-- Blocks that agree.

-- a doubleword has one set of bytes
four : (a b c d a' b' c' d' : ℕ) → a < 256 → b < 256 → c < 256 → d < 256 → a' < 256 → b' < 256 → c' < 256 → d' < 256
    → a + b * 2 ^ 8 + c * 2 ^ 16 + d * 2 ^ 24 ≡ a' + b' * 2 ^ 8 + c' * 2 ^ 16 + d' * 2 ^ 24
    → (a ≡ a') × (b ≡ b') × (c ≡ c') × (d ≡ d')
four a b c d a' b' c' d' ha hb hc hd ha' hb' hc' hd' e =
    let ed : d ≡ d' = omega arith in
    let ec : c ≡ c' = omega arith in
    let eb : b ≡ b' = omega arith in
    let ea : a ≡ a' = omega arith in
    (ea, eb, ec, ed)

word_small : (b : List ℕ) (w : ℕ) → Bytes b → word_at b w < 2 ^ 32
unfolding word_at
word_small b w h = omega (arith, h.small (4 * w), h.small (4 * w + 1), h.small (4 * w + 2), h.small (4 * w + 3))

module _ (b c : List ℕ) (size-b : length b ≡ 32) (size-c : length c ≡ 32) (bytes-b : Bytes b) (bytes-c : Bytes c) where
  -- Blocks of bytes that agree in every doubleword are equal.
  pub ext_words : ((w : ℕ) → w < 8 → word_at b w ≡ word_at c w) → b ≡ c
  unfolding word_at
  ext_words e = ext_get_or 0 b c (size-b ∙ sym size-c) (λ i l. at (i / 4) (i % 4) i (sym (div-add-mod i 4)) (omega (arith, div-add-mod i 4)) (mod-lt i (lit< tt)))
    where
      word : (w : ℕ) → w < 8
          → (get_or b (4 * w) 0 ≡ get_or c (4 * w) 0) × (get_or b (4 * w + 1) 0 ≡ get_or c (4 * w + 1) 0) × (get_or b (4 * w + 2) 0 ≡ get_or c (4 * w + 2) 0) × (get_or b (4 * w + 3) 0 ≡ get_or c (4 * w + 3) 0)
      word w l =
          four _ _ _ _ _ _ _ _ (bytes-b.small _) (bytes-b.small _) (bytes-b.small _) (bytes-b.small _) (bytes-c.small _) (bytes-c.small _) (bytes-c.small _) (bytes-c.small _) (e w l)

      at : (w r i : ℕ) → i ≡ 4 * w + r → w < 8 → r < 4 → get_or b i 0 ≡ get_or c i 0
      at w zero i q l m = rw (q, add-zero) (word w l).0
      at w (suc zero) i q l m = rw q (word w l).1
      at w (suc (suc zero)) i q l m = rw q (word w l).2
      at w (suc (suc (suc zero))) i q l m = rw q (word w l).3
      at w (suc (suc (suc (suc r)))) i q l m = absurd (omega arith)

  -- Blocks of bytes that agree in every single bit are equal.
  pub ext_bits : ((g : Field) → InBlock g → g.width ≡ 1 → read_field b g ≡ read_field c g) → b ≡ c
  unfolding read_field
  ext_bits e =
      ext_words
      (λ w l. sym (mod-eq_of_lt (word_small b w bytes-b)) ∙ same_bits (word_at b w) (word_at c w) 32 (λ i m. e (record { word = w; low = i; width = 1 }) (l, omega arith) refl) ∙ mod-eq_of_lt (word_small c w bytes-c))

-- Two writes.

-- a field taken anew
after_after : (f g : Field) (v u old : ℕ) → read_after f u g (read_after f v g old) ≡ read_after f u g old
unfolding read_after
after_after f g v u old = go (apart f g)
  where
    go : (t : Bool) → cond t (cond t old (v / 2 ^ (g.low - f.low) % 2 ^ g.width)) (u / 2 ^ (g.low - f.low) % 2 ^ g.width) ≡ cond t old (u / 2 ^ (g.low - f.low) % 2 ^ g.width)
    go true = refl
    go false = refl

-- of two fields that share no bit, one is apart from a given bit
bit_apart : (f g h : Field) → apart f g ≡ true → h.width ≡ 1 → (apart f h ≡ true) ⊎ (apart g h ≡ true)
bit_apart f g h a e = go (apart f h) (apart g h) refl refl
  where
    clash : apart f h ≡ false → apart g h ≡ false → (f.word ≢ g.word) ⊎ (f.low + f.width ≤ g.low) ⊎ (g.low + g.width ≤ f.low) → ⊥
    clash p q s =
        let x : (f.word ≡ h.word) × (h.low < f.low + f.width) × (f.low < h.low + h.width) = apart_false f h p in
        let y : (g.word ≡ h.word) × (h.low < g.low + g.width) × (g.low < h.low + h.width) = apart_false g h q in
        ⊎_elim (λ n. n (x.0 ∙ sym y.0)) (⊎_elim (λ n. omega arith) (λ n. omega arith)) s

    go : (t u : Bool) → apart f h ≡ t → apart g h ≡ u → (apart f h ≡ true) ⊎ (apart g h ≡ true)
    go true u p q = inl p
    go false true p q = inr q
    go false false p q = absurd (clash p q (apart_true f g a))

-- fields that share no bit, taken in either order
after_swap : (f g h : Field) (v u old : ℕ) → (apart f h ≡ true) ⊎ (apart g h ≡ true) → read_after g u h (read_after f v h old) ≡ read_after f v h (read_after g u h old)
unfolding read_after
after_swap f g h v u old (inl a) = rw a
after_swap f g h v u old (inr a) = rw a

module _ (b : List ℕ) (f g : Field) (v u : ℕ) where
  size_two : length b ≡ 32 → length (write_field (write_field b f v) g u) ≡ 32
  size_two size = length_write_field (write_field b f v) g u ∙ length_write_field b f v ∙ size

  bytes_two : Bytes b → Bytes (write_field (write_field b f v) g u)
  bytes_two bytes = bytes_write_field (write_field b f v) g u (bytes_write_field b f v bytes)

  bit_two : length b ≡ 32 → InBlock f → InBlock g → (i : Field) → InBlock i → i.width ≡ 1
      → read_field (write_field (write_field b f v) g u) i ≡ read_after g u i (read_after f v i (read_field b i))
  bit_two size in_f in_g i in-i e =
      bit_write (write_field b f v) g u (length_write_field b f v ∙ size) in_g i in-i e
      ∙ ap (read_after g u i) (bit_write b f v size in_f i in-i e)

-- Of two writes of one field the last counts.
pub write_write_same : (b : List ℕ) (f : Field) (v u : ℕ) → length b ≡ 32 → Bytes b → InBlock f
    → write_field (write_field b f v) f u ≡ write_field b f u
write_write_same b f v u size bytes in_f =
    ext_bits _ _ (size_two b f f v u size) (length_write_field b f u ∙ size) (bytes_two b f f v u bytes) (bytes_write_field b f u bytes)
    (λ i in-i e.
    bit_two b f f v u size in_f in_f i in-i e ∙ after_after f i v u (read_field b i) ∙ sym (bit_write b f u size in_f i in-i e))

-- Writes of fields that share no bit may change places.
pub write_swap : (b : List ℕ) (f g : Field) (v u : ℕ) → length b ≡ 32 → Bytes b → InBlock f → InBlock g → apart f g ≡ true
    → write_field (write_field b f v) g u ≡ write_field (write_field b g u) f v
write_swap b f g v u size bytes in_f in_g a =
    ext_bits _ _ (size_two b f g v u size) (size_two b g f u v size) (bytes_two b f g v u bytes) (bytes_two b g f u v bytes)
    (λ i in-i e.
    bit_two b f g v u size in_f in_g i in-i e
    ∙ after_swap f g i v u (read_field b i) (bit_apart f g i a e)
    ∙ sym (bit_two b g f u v size in_g in_f i in-i e))

module _ (a b : List ℕ) (w : ℕ) (h : 4 * w + 4 ≤ length a) where
  front_word : word_at (a ++ b) w ≡ word_at a w
  unfolding word_at
  front_word =
      rw (
        get_or-append a b 0 (4 * w) (omega arith),
        get_or-append a b 0 (4 * w + 1) (omega arith),
        get_or-append a b 0 (4 * w + 2) (omega arith),
        get_or-append a b 0 (4 * w + 3) (omega arith),
      )

  front_put : (x : ℕ) → put_word (a ++ b) w x ≡ put_word a w x ++ b
  unfolding put_word
  front_put x =
      let h0 : 4 * w < length a = omega arith in
      let h1 : 4 * w + 1 < length a = omega arith in
      let h2 : 4 * w + 2 < length a = omega arith in
      let h3 : 4 * w + 3 < length a = omega arith in
      simp (set-append_left, lt-length-set)

-- A field of a list's front, read in the whole list.
pub read_front : (a b : List ℕ) (f : Field) → 4 * f.word + 4 ≤ length a → read_field (a ++ b) f ≡ read_field a f
unfolding read_field
read_front a b f h = rw (front_word a b f.word h)

-- Written there.
pub write_front :
    (a b : List ℕ) (f : Field) (v : ℕ) → 4 * f.word + 4 ≤ length a → write_field (a ++ b) f v ≡ write_field a f v ++ b
unfolding write_field
write_front a b f v h =
    rw (front_word a b f.word h)
    (front_put a b f.word h (with_bits (word_at a f.word) f.low f.width v))

-- a byte stored beside a doubleword
put_beside :
    (b : List ℕ) (w x j y : ℕ) →
    j ≢ 4 * w →
    j ≢ 4 * w + 1 →
    j ≢ 4 * w + 2 →
    j ≢ 4 * w + 3 →
    put_word (set b j y) w x ≡ set (put_word b w x) j y
unfolding put_word
put_beside b w x j y n0 n1 n2 n3 =
    let b1 = set b (4 * w) (x % 2 ^ 8) in
    let b2 = set b1 (4 * w + 1) (x / 2 ^ 8 % 2 ^ 8) in
    let b3 = set b2 (4 * w + 2) (x / 2 ^ 16 % 2 ^ 8) in
    rw (
      set_comm b j (4 * w) y (x % 2 ^ 8) n0,
      set_comm b1 j (4 * w + 1) y (x / 2 ^ 8 % 2 ^ 8) n1,
      set_comm b2 j (4 * w + 2) y (x / 2 ^ 16 % 2 ^ 8) n2,
      set_comm b3 j (4 * w + 3) y (x / 2 ^ 24 % 2 ^ 8) n3,
    )

put_swap : (b : List ℕ) (w x u y : ℕ) → w ≢ u → put_word (put_word b u y) w x ≡ put_word (put_word b w x) u y
unfolding put_word
put_swap b w x u y h =
    let b1 = set b (4 * u) (y % 2 ^ 8) in
    let b2 = set b1 (4 * u + 1) (y / 2 ^ 8 % 2 ^ 8) in
    let b3 = set b2 (4 * u + 2) (y / 2 ^ 16 % 2 ^ 8) in
    put_beside b3 w x (4 * u + 3) (y / 2 ^ 24 % 2 ^ 8) (omega arith) (omega arith) (omega arith) (omega arith)
    ∙ ap (λ (l : List ℕ). set l (4 * u + 3) (y / 2 ^ 24 % 2 ^ 8))
    (put_beside b2 w x (4 * u + 2) (y / 2 ^ 16 % 2 ^ 8) (omega arith) (omega arith) (omega arith) (omega arith)
    ∙ ap (λ (l : List ℕ). set l (4 * u + 2) (y / 2 ^ 16 % 2 ^ 8))
    (put_beside b1 w x (4 * u + 1) (y / 2 ^ 8 % 2 ^ 8) (omega arith) (omega arith) (omega arith) (omega arith)
    ∙ ap (λ (l : List ℕ). set l (4 * u + 1) (y / 2 ^ 8 % 2 ^ 8))
    (put_beside b w x (4 * u) (y % 2 ^ 8) (omega arith) (omega arith) (omega arith) (omega arith))))

-- Writes of fields of different doublewords may change places.
pub write_words :
    (b : List ℕ) (f g : Field) (v u : ℕ) →
    f.word ≢ g.word →
    write_field (write_field b f v) g u ≡ write_field (write_field b g u) f v
unfolding write_field
write_words b f g v u h =
    let x = with_bits (word_at b f.word) f.low f.width v in
    let y = with_bits (word_at b g.word) g.low g.width u in
    rw (word_other b f.word x g.word (λ e. h (sym e)), word_other b g.word y f.word h)
    (put_swap b g.word y f.word x (λ e. h (sym e)))
