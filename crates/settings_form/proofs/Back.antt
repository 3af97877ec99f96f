-- A new form of pairs gives them back, and pairs of a new form give it back.
use Prim.Native.Nat.{ℕ, zero, suc, ◌+◌, ◌-◌, ◌*◌, ◌/◌, ◌%◌, ◌≤◌, ◌<◌}
use mathlib.Core.Path.{◌≡◌, refl, sym, ap, ◌∙◌}
use mathlib.Core.Bool.{true, false}
use mathlib.Core.List.{List, [], ◌∷◌}
use native.Mathlib.Nat.{mod-lt, mod-eq_of_lt}
use native.Mathlib.Omega.{arith}
use borrow.Author.Tests.{eqb-true, eq-eqb}
use lib.Dec.{eqb, leb}
use lib.ListN.{length, get_or, drop}
use Rattle.laws.specs.Bounds.{Below}
use Rattle.laws.proofs.Tests.{and_right, not_both}
use Rattle.settings_form.specs.Bits.{number_of, all_bits, bytes_from}
use Rattle.settings_form.specs.Form.{new_form, value_in, count_in, pairs_in, is_new_form}
use Rattle.descriptor_list.specs.Lookup.{is_alternate}
use Rattle.std.specs.List.{list_any}
use Rattle.std.proofs.Common.{Option, Some, None}
use Rattle.settings_form.specs.Held.{pairs_held, held_in}
use Rattle.settings_form.specs.Promises.{carried}
use Rattle.settings_form.proofs.Bits.{below_first, below_rest, two_six, two_left, form_is}
use Rattle.settings_form.proofs.Read.{value_is, count_is, padding_is, bytes_long, form_long, pairs_are}

-- a byte of a pair, across two bytes
one_pair : (n x y : ℕ) (l : List ℕ) →
    bytes_from (suc n) (drop 6 (all_bits (x ∷ (y ∷ l)))) ≡ (x % 4 * 64 + y / 4 % 64) ∷ bytes_from n (drop 6 (all_bits (y ∷ l)))
unfolding bytes_from all_bits
one_pair n x y l = rw (two_six x y (all_bits l), two_left x y (all_bits l))

-- What is carried begins with six bits, and is as long.
carried_length : (c : ℕ) (l : List ℕ) → length (carried c l) ≡ suc (length l)
unfolding carried
carried_length c [] = refl
carried_length c (b ∷ l) = ap suc (carried_length (b % 64) l)

carried_last : (c : ℕ) (l : List ℕ) → get_or (carried c l) (length l) 0 % 4 ≡ 0
unfolding carried
carried_last c [] = omega arith
carried_last c (b ∷ l) = carried_last (b % 64) l

-- the pairs of what is carried
nothing_from : (l : List ℕ) → bytes_from 0 l ≡ []
unfolding bytes_from
nothing_from l = refl

byte_back : (c b s : ℕ) → b < 256 → s < 4 → (c * 4 + b / 64) % 4 * 64 + (b % 64 * 4 + s) / 4 % 64 ≡ b
byte_back c b s h g = omega arith

last_back : (c b : ℕ) → b < 256 → (c * 4 + b / 64) % 4 * 64 + b % 64 * 4 / 4 % 64 ≡ b
last_back c b h = omega arith

carried_back : (c : ℕ) (l : List ℕ) → Below 256 l → bytes_from (length l) (drop 6 (all_bits (carried c l))) ≡ l
unfolding carried
carried_back c [] h = nothing_from (drop 6 (all_bits ((c * 4) ∷ [])))
carried_back c (b ∷ []) h =
    let e : (c * 4 + b / 64) % 4 * 64 + b % 64 * 4 / 4 % 64 ≡ b = last_back c b (below_first b 256 [] h) in
    one_pair 0 (c * 4 + b / 64) (b % 64 * 4) [] ∙ rw (e, nothing_from (drop 6 (all_bits ((b % 64 * 4) ∷ []))))
carried_back c (b ∷ (d ∷ l)) h =
    let m = below_rest b 256 (d ∷ l) h in
    let s : d / 64 < 4 = omega (arith, below_first d 256 l m) in
    let e = byte_back c b (d / 64) (below_first b 256 (d ∷ l) h) s in
    one_pair (suc (length l)) (c * 4 + b / 64) (b % 64 * 4 + d / 64) (carried (d % 64) l)
    ∙ rw e (ap (λ (m : List ℕ). b ∷ m) (carried_back (b % 64) (d ∷ l) m))

-- The new form of pairs is one, and says what it was made of.
module _ (value : ℕ) (pairs : List ℕ) (v : value < 256) (few : length pairs ≤ 64) (even : length pairs ≡ 2 * (length pairs / 2)) (small : Below 256 pairs) where
  made : new_form value pairs ≡ value ∷ carried (length pairs / 2) pairs
  made = form_is value pairs v few small

  first_carried : (c : ℕ) (l : List ℕ) → c < 64 → Below 256 l → get_or (carried c l) 0 0 / 4 % 64 ≡ c
  unfolding carried
  first_carried c [] h m = omega arith
  first_carried c (b ∷ l) h m = plain c (b / 64) h (omega (arith, below_first b 256 l m))
    where
      plain : (c s : ℕ) → c < 64 → s < 4 → (c * 4 + s) / 4 % 64 ≡ c
      plain c s h m = omega arith

  second : (form : List ℕ) (x : ℕ) (l : List ℕ) → form ≡ x ∷ l → 0 < length l → count_in form ≡ get_or l 0 0 / 4 % 64
  second form x [] e h = absurd (omega arith)
  second form x (y ∷ l) e h = ap count_in e ∙ count_is x y l

  pub made_value : value_in (new_form value pairs) ≡ value
  made_value = rw made (value_is value _ ∙ mod-eq_of_lt v)

  pub made_count : count_in (new_form value pairs) ≡ length pairs / 2
  made_count =
      second (new_form value pairs) value (carried (length pairs / 2) pairs) made (omega (arith, carried_length (length pairs / 2) pairs))
      ∙ first_carried (length pairs / 2) pairs (omega arith) small

  made_length : length (new_form value pairs) ≡ 2 * (length pairs / 2) + 2
  made_length = ap length made ∙ omega (arith, carried_length (length pairs / 2) pairs)

  pub made_form : is_new_form (new_form value pairs) ≡ true
  unfolding is_new_form
  made_form =
      let p : number_of (drop (14 + 16 * (length pairs / 2)) (all_bits (new_form value pairs))) ≡ 0 =
      padding_is (new_form value pairs) (length pairs / 2) made_length ∙ last in
      rw (made_count, eq-eqb _ _ made_length, p)
    where
      last : get_or (new_form value pairs) (length (new_form value pairs) - 1) 0 % 4 ≡ 0
      last =
          let e : length (value ∷ carried (length pairs / 2) pairs) - 1 ≡ suc (length pairs) =
          omega (arith, carried_length (length pairs / 2) pairs) in
          rw (made, e) (carried_last (length pairs / 2) pairs)

  pub made_pairs : pairs_in (new_form value pairs) ≡ pairs
  made_pairs =
      let e : length (new_form value pairs) - 2 - 0 ≡ length pairs = omega (arith, made_length, even) in
      pairs_are (new_form value pairs) made_form ∙ rw (e, made) (carried_back (length pairs / 2) pairs small)

-- Pairs that are held are even.
pairs_even : (least : ℕ) (words pairs : List ℕ) → pairs_held least words pairs ≡ true → length pairs ≡ 2 * (length pairs / 2)
unfolding pairs_held
pairs_even least words [] h = refl
pairs_even least words (i ∷ []) h = not_both false h refl
pairs_even least words (i ∷ (a ∷ pairs)) h =
    let t = pairs_even (suc i) words pairs (and_right (list_any (is_alternate i a) words) _ (and_right (leb least i) _ h)) in omega arith

pub held_even : (words : Option (List ℕ)) (pairs : List ℕ) → held_in words pairs ≡ true → length pairs ≡ 2 * (length pairs / 2)
unfolding held_in
held_even (Some words) pairs h = pairs_even 0 words pairs h
held_even None pairs h = not_both false h refl

-- Pairs of bytes whose last two bits are 0 are carried to these bytes again.
carried_again : (x : ℕ) (l : List ℕ) → Below 256 (x ∷ l) → get_or (x ∷ l) (length l) 0 % 4 ≡ 0 →
    carried (x / 4) (bytes_from (length l) (drop 6 (all_bits (x ∷ l)))) ≡ x ∷ l
unfolding carried
carried_again x [] h p =
    let e : x / 4 * 4 ≡ x = omega arith in rw (nothing_from (drop 6 (all_bits (x ∷ []))), e)
carried_again x (y ∷ l) h p =
    let a : x < 256 = below_first x 256 (y ∷ l) h in
    let b : y < 256 = below_first y 256 l (below_rest x 256 (y ∷ l) h) in
    let e : x / 4 * 4 + (x % 4 * 64 + y / 4 % 64) / 64 ≡ x = joined_again x (y / 4 % 64) (mod-lt (y / 4) (omega arith)) in
    let f : (x % 4 * 64 + y / 4 % 64) % 64 ≡ y / 4 = low_again (x % 4) (y / 4) (omega arith) in
    rw (one_pair (length l) x y l, e, f)
    (ap (λ (m : List ℕ). x ∷ m) (carried_again y l (below_rest x 256 (y ∷ l) h) p))
  where
    joined_again : (x s : ℕ) → s < 64 → x / 4 * 4 + (x % 4 * 64 + s) / 64 ≡ x
    joined_again x s h = omega arith

    low_again : (t s : ℕ) → s < 64 → (t * 64 + s % 64) % 64 ≡ s
    low_again t s h = omega arith

below_cons : (n x : ℕ) (l : List ℕ) → x < n → Below n l → Below n (x ∷ l)
below_cons n x l h m zero g = h
below_cons n x l h m (suc k) g = m k (omega arith)

-- The pairs of a new form are bytes.
pairs_small : (x : ℕ) (l : List ℕ) → Below 256 (bytes_from (length l) (drop 6 (all_bits (x ∷ l))))
pairs_small x [] = rw (nothing_from (drop 6 (all_bits (x ∷ [])))) (λ k h. absurd (omega arith))
pairs_small x (y ∷ l) =
    let h : x % 4 * 64 + y / 4 % 64 < 256 = omega arith in
    rw (one_pair (length l) x y l) (below_cons 256 (x % 4 * 64 + y / 4 % 64) _ h (pairs_small y l))

padding_zero : (form : List ℕ) → is_new_form form ≡ true → number_of (drop (14 + 16 * count_in form) (all_bits form)) ≡ 0
unfolding is_new_form
padding_zero form w = eqb-true _ 0 (and_right (eqb (length form) (2 * count_in form + 2)) _ w)

-- A new form is the new form of what it says.
pub form_again : (form : List ℕ) → Below 256 form → is_new_form form ≡ true → count_in form ≤ 32 → new_form (value_in form) (pairs_in form) ≡ form
form_again [] small w c = absurd (omega (arith, form_long [] w))
form_again (v ∷ []) small w c = absurd (omega (arith, form_long (v ∷ []) w))
form_again (v ∷ (x ∷ l)) small w c =
    let a : v < 256 = below_first v 256 (x ∷ l) small in
    let b : x < 256 = below_first x 256 l (below_rest v 256 (x ∷ l) small) in
    let n : length l ≡ 2 * count_in (v ∷ (x ∷ l)) = omega (arith, form_long (v ∷ (x ∷ l)) w) in
    let k : count_in (v ∷ (x ∷ l)) ≡ x / 4 = count_is v x l ∙ mod-eq_of_lt (omega arith) in
    let q : pairs_in (v ∷ (x ∷ l)) ≡ bytes_from (length l) (drop 6 (all_bits (x ∷ l))) =
    pairs_are (v ∷ (x ∷ l)) w ∙ ap (λ (m : ℕ). bytes_from m (drop 6 (all_bits (x ∷ l)))) (omega arith) in
    let m : length (pairs_in (v ∷ (x ∷ l))) ≡ length l = ap length q ∙ bytes_long (length l) (drop 6 (all_bits (x ∷ l))) in
    let h : length (pairs_in (v ∷ (x ∷ l))) / 2 ≡ x / 4 = omega arith in
    let u : value_in (v ∷ (x ∷ l)) ≡ v = value_is v (x ∷ l) ∙ mod-eq_of_lt a in
    let p : get_or (x ∷ l) (length l) 0 % 4 ≡ 0 = padding_told v x l n w in
    rw u
    (form_is v (pairs_in (v ∷ (x ∷ l))) a (omega arith) (rw q (pairs_small x l))
    ∙ rw (h, q) (ap (λ (r : List ℕ). v ∷ r) (carried_again x l (below_rest v 256 (x ∷ l) small) p)))
  where
    padding_told : (v x : ℕ) (l : List ℕ) → length l ≡ 2 * count_in (v ∷ (x ∷ l)) → is_new_form (v ∷ (x ∷ l)) ≡ true → get_or (x ∷ l) (length l) 0 % 4 ≡ 0
    padding_told v x l n w =
        let e : length (v ∷ (x ∷ l)) - 1 ≡ suc (length l) = omega arith in
        rw e at (sym (padding_is (v ∷ (x ∷ l)) (count_in (v ∷ (x ∷ l))) (form_long (v ∷ (x ∷ l)) w)) ∙ padding_zero (v ∷ (x ∷ l)) w)
