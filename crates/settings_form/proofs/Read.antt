-- A new form read: byte 1 has the count, and each byte of a pair stands across two bytes.
use Prim.Native.Nat.{ℕ, zero, suc, ◌+◌, ◌-◌, ◌*◌, ◌/◌, ◌%◌, ◌≤◌, ◌<◌}
use mathlib.Core.Path.{◌≡◌, refl, sym, ap, ◌∙◌}
use mathlib.Core.Logic.{inl, inr}
use mathlib.Core.Bool.{true, false, ◌&&◌, and-false}
use mathlib.Core.List.{List, [], ◌∷◌, ◌++◌}
use native.Mathlib.Nat.{mod-eq_of_lt}
use native.Mathlib.Decide.{dec_lt}
use native.Mathlib.Omega.{arith}
use borrow.Author.Tests.{eqb-true, eqb-false, eq-eqb, ne_eqb, le-leb, lt-leb}
use lib.Dec.{eqb, leb}
use lib.ListN.{length, get_or, drop, set, drop_of_length-le}
use lib.Seq.{sets}
use Rattle.laws.specs.Bounds.{Below}
use Rattle.laws.proofs.Tests.{and_left}
use Rattle.laws.proofs.Cases.{Decided, decided}
use Rattle.descriptor_list.proofs.Next.{drop_next}
use Rattle.settings_form.specs.Bits.{bits, number_of, all_bits, bytes_from}
use Rattle.settings_form.specs.Form.{value_in, count_in, pairs_in, is_new_form}
use Rattle.settings_form.proofs.Bits.{number_bits, two_six, two_left, six_high}

drop_none : (n : ℕ) → drop {A = ℕ} n [] ≡ []
drop_none zero = refl
drop_none (suc n) = refl

-- bits after whole bytes
drop_byte : (n b : ℕ) (l : List ℕ) → drop (suc (suc (suc (suc (suc (suc (suc (suc n)))))))) (bits 8 b ++ l) ≡ drop n l
unfolding bits
drop_byte n b l = refl

drop_bytes : (k j : ℕ) (l : List ℕ) → drop (8 * k + j) (all_bits l) ≡ drop j (all_bits (drop k l))
unfolding all_bits
drop_bytes zero j l = let e : 8 * 0 + j ≡ j = omega arith in rw e
drop_bytes (suc k) j [] = drop_none (8 * suc k + j) ∙ sym (drop_none j)
drop_bytes (suc k) j (b ∷ l) =
    let e : 8 * suc k + j ≡ suc (suc (suc (suc (suc (suc (suc (suc (8 * k + j)))))))) = omega arith in
    rw e (drop_byte (8 * k + j) b (all_bits l) ∙ drop_bytes k j l)

-- The first two bytes.
pub value_is : (v : ℕ) (l : List ℕ) → value_in (v ∷ l) ≡ v % 256
unfolding value_in all_bits bits
value_is v l = number_bits 8 v

pub count_is : (v b : ℕ) (l : List ℕ) → count_in (v ∷ (b ∷ l)) ≡ b / 4 % 64
unfolding count_in all_bits bits
count_is v b l = six_high b (all_bits l)

-- one byte of a pair
pub pair_byte : (form : List ℕ) (i n : ℕ) → i + 2 < length form →
    bytes_from (suc n) (drop 6 (all_bits (drop (i + 1) form)))
    ≡ (get_or form (i + 1) 0 % 4 * 64 + get_or form (i + 2) 0 / 4 % 64) ∷ bytes_from n (drop 6 (all_bits (drop (i + 2) form)))
unfolding bytes_from all_bits
pair_byte form i n h =
    let e : i + 1 + 1 ≡ i + 2 = omega arith in
    let p : drop (i + 1) form ≡ get_or form (i + 1) 0 ∷ drop (i + 2) form = rw e at (drop_next form (i + 1) (omega arith)) in
    let q : drop (i + 2) form ≡ get_or form (i + 2) 0 ∷ drop (i + 2 + 1) form = drop_next form (i + 2) h in
    rw (p, q, two_six (get_or form (i + 1) 0) (get_or form (i + 2) 0) (all_bits (drop (i + 2 + 1) form)), two_left (get_or form (i + 1) 0) (get_or form (i + 2) 0) (all_bits (drop (i + 2 + 1) form)))

-- The rest after the last pair: two bits of the last byte.
two_low : (b : ℕ) → number_of (drop 6 (all_bits (b ∷ []))) ≡ b % 4
unfolding all_bits bits
two_low b = number_bits 2 b

pub padding_is : (form : List ℕ) (c : ℕ) → length form ≡ 2 * c + 2 →
    number_of (drop (14 + 16 * c) (all_bits form)) ≡ get_or form (length form - 1) 0 % 4
padding_is form c h =
    let e : 14 + 16 * c ≡ 8 * (2 * c + 1) + 6 = omega arith in
    let f : length form - 1 ≡ 2 * c + 1 = omega arith in
    let g : drop (2 * c + 1) form ≡ get_or form (2 * c + 1) 0 ∷ drop (2 * c + 1 + 1) form = drop_next form (2 * c + 1) (omega arith) in
    let m : length form ≤ 2 * c + 1 + 1 = omega arith in
    rw (e, f, drop_bytes (2 * c + 1) 6 form, g, drop_of_length-le form m) (two_low (get_or form (2 * c + 1) 0))

-- The tests of `is_form`.
two_first : (form : List ℕ) → 2 ≤ length form → count_in form ≡ get_or form 1 0 / 4 % 64
two_first [] h = absurd (omega arith)
two_first (v ∷ []) h = absurd (omega arith)
two_first (v ∷ (b ∷ l)) h = count_is v b l

no_count : (form : List ℕ) → length form < 2 → count_in form ≡ 0
unfolding count_in all_bits bits number_of
no_count [] h = refl
no_count (v ∷ []) h = refl
no_count (v ∷ (b ∷ l)) h = absurd (omega arith)

pub form_tests : (form : List ℕ) → Below 256 form →
    is_new_form form
    ≡ ((leb 2 (length form) && eqb (get_or form 1 0 / 4 * 2 + 2) (length form)) && eqb (get_or form (length form - 1) 0 % 4) 0)
unfolding is_new_form
form_tests form small = go (dec_lt (length form) 2)
  where
    short : length form < 2 → eqb (length form) (2 * count_in form + 2) ≡ false
    short h = ne_eqb _ _ (λ e. omega arith)

    counted : 2 ≤ length form → count_in form ≡ get_or form 1 0 / 4
    counted h = two_first form h ∙ mod-eq_of_lt (omega (arith, small 1 (omega arith)))

    go : Dec (length form < 2) →
        (eqb (length form) (2 * count_in form + 2) && eqb (number_of (drop (14 + 16 * count_in form) (all_bits form))) 0)
        ≡ ((leb 2 (length form) && eqb (get_or form 1 0 / 4 * 2 + 2) (length form)) && eqb (get_or form (length form - 1) 0 % 4) 0)
    go (yes h) = rw (short h, lt-leb 2 (length form) h)
    go (no h) = with_count (counted (omega arith)) (decided (eqb (length form) (2 * count_in form + 2)))
      where
        with_count : count_in form ≡ get_or form 1 0 / 4 → Decided (eqb (length form) (2 * count_in form + 2)) →
            (eqb (length form) (2 * count_in form + 2) && eqb (number_of (drop (14 + 16 * count_in form) (all_bits form))) 0)
            ≡ ((leb 2 (length form) && eqb (get_or form 1 0 / 4 * 2 + 2) (length form)) && eqb (get_or form (length form - 1) 0 % 4) 0)
        with_count c (inl t) =
            let e = eqb-true (length form) (2 * count_in form + 2) t in
            let a : get_or form 1 0 / 4 * 2 + 2 ≡ length form = omega arith in
            let b : 2 ≤ length form = omega arith in
            rw (padding_is form (count_in form) e, t, eq-eqb _ _ a, le-leb 2 (length form) b)
        with_count c (inr f) =
            let n = eqb-false (length form) (2 * count_in form + 2) f in
            let a : get_or form 1 0 / 4 * 2 + 2 ≡ length form → ⊥ = λ e. n (omega arith) in
            rw (f, ne_eqb _ _ a, and-false (leb 2 (length form)))

pub bytes_long : (n : ℕ) (l : List ℕ) → length (bytes_from n l) ≡ n
unfolding bytes_from
bytes_long zero l = refl
bytes_long (suc n) l = ap suc (bytes_long n (drop 8 l))

-- The pairs of a new form, turn by turn.
pub form_long : (form : List ℕ) → is_new_form form ≡ true → length form ≡ 2 * count_in form + 2
unfolding is_new_form
form_long form w = eqb-true _ _ (and_left (eqb (length form) (2 * count_in form + 2)) _ w)

pub pairs_long : (form : List ℕ) → is_new_form form ≡ true → length (pairs_in form) ≡ length form - 2
unfolding pairs_in
pairs_long form w = bytes_long (2 * count_in form) _ ∙ omega (arith, form_long form w)

pub pairs_are : (form : List ℕ) → is_new_form form ≡ true → pairs_in form ≡ bytes_from (length form - 2 - 0) (drop 6 (all_bits (drop (0 + 1) form)))
unfolding pairs_in
pairs_are form w =
    let e : length form - 2 - 0 ≡ 2 * count_in form = omega (arith, form_long form w) in
    rw e (ap (bytes_from (2 * count_in form)) (drop_bytes 1 6 form))

module _ (form pairs : List ℕ) (i : ℕ) where
  pub pairs_next : (r : ℕ) → i + 2 < length form → get_or form (i + 2) 0 < 256 →
      r ≡ get_or form (i + 1) 0 % 4 * 64 + get_or form (i + 2) 0 / 4 →
      sets pairs i (bytes_from (length form - 2 - i) (drop 6 (all_bits (drop (i + 1) form))))
      ≡ sets (set pairs i r) (i + 1) (bytes_from (length form - 2 - (i + 1)) (drop 6 (all_bits (drop (i + 1 + 1) form))))
  pairs_next r h b q =
      let e : length form - 2 - i ≡ suc (length form - 2 - (i + 1)) = omega arith in
      let f : i + 1 + 1 ≡ i + 2 = omega arith in
      let g : i + 1 ≡ suc i = omega arith in
      let m : get_or form (i + 2) 0 / 4 % 64 ≡ get_or form (i + 2) 0 / 4 = mod-eq_of_lt (omega arith) in
      rw (f, e, pair_byte form i (length form - 2 - (i + 1)) h, m, ← q, g)

  pub pairs_done : length form ≤ i + 2 → sets pairs i (bytes_from (length form - 2 - i) (drop 6 (all_bits (drop (i + 1) form)))) ≡ pairs
  unfolding bytes_from
  pairs_done h = let e : length form - 2 - i ≡ 0 = omega arith in rw e
