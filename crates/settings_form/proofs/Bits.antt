-- Bits of bytes: what is carried from one to the next.
use Prim.Native.Nat.{ℕ, zero, suc, ◌+◌, ◌*◌, ◌/◌, ◌%◌, ◌^◌, ◌≤◌, ◌<◌}
use mathlib.Core.Path.{◌≡◌, refl, sym, ap, ◌∙◌}
use mathlib.Core.List.{List, [], ◌∷◌, ◌++◌}
use native.Mathlib.Nat.{mod-one, mod-lt, mod-eq_of_lt}
use native.Mathlib.Numerals.{one-add}
use native.Mathlib.Omega.{arith}
use lib.ListN.{length, get_or, take, drop, set, drop_of_length-le}
use lib.Seq.{sets}
use lib.Pow.{field, mod-mod-pow, mod-pow-add}
use Rattle.laws.proofs.Bits.{cut_above}
use Rattle.descriptor_list.proofs.Next.{drop_next}
use Rattle.settings_form.specs.Form.{new_form}
use Rattle.laws.specs.Bounds.{Below}
use Rattle.settings_form.specs.Promises.{carried, FormPromise}
use Rattle.settings_form.specs.Bits.{bits, number_of, all_bits, bytes_from}

length_bits : (w n : ℕ) → length (bits w n) ≡ w
unfolding bits
length_bits zero n = refl
length_bits (suc w) n = ap suc (length_bits w n)

pub number_bits : (w n : ℕ) → number_of (bits w n) ≡ n % 2 ^ w
unfolding bits number_of
number_bits zero n = sym (mod-one n)
number_bits (suc w) n = rw (length_bits w n, number_bits w n, ← one-add w, mod-pow-add n 1 w)

pub bits_cut : (w k n : ℕ) → w ≤ k → bits w (n % 2 ^ k) ≡ bits w n
unfolding bits
bits_cut zero k n h = refl
bits_cut (suc w) k n h = rw (cut_above n k w 1 (omega arith), bits_cut w k n (omega arith))

-- six bits and two
shift_two : (a b c d e f n p q r : ℕ) → a * 32 + (b * 16 + (c * 8 + (d * 4 + (e * 2 + (f * 1 + 0))))) ≡ n → p * 2 + q ≡ r →
    a * 128 + (b * 64 + (c * 32 + (d * 16 + (e * 8 + (f * 4 + (p * 2 + (q * 1 + 0))))))) ≡ n * 4 + r
shift_two a b c d e f n p q r s t = omega arith

pub six_two : (c p : ℕ) (l : List ℕ) → number_of (take 8 (bits 6 c ++ (bits 8 p ++ l))) ≡ c % 64 * 4 + p / 64 % 4
unfolding bits number_of
six_two c p l = shift_two _ _ _ _ _ _ _ _ _ _ (number_bits 6 c) (omega arith)

-- two and six
shift_six : (a b x y c d e f g h n m : ℕ) → x * 2 + (y * 1 + 0) ≡ n →
    c * 128 + (d * 64 + (e * 32 + (f * 16 + (g * 8 + (h * 4 + (a * 2 + (b * 1 + 0))))))) ≡ m →
    a * 2 + (b * 1 + 0) ≡ m % 4 →
    x * 128 + (y * 64 + (c * 32 + (d * 16 + (e * 8 + (f * 4 + (g * 2 + (h * 1 + 0))))))) ≡ n * 64 + m / 4
shift_six a b x y c d e f g h n m s t u = omega arith

pub two_six : (a b : ℕ) (l : List ℕ) → number_of (take 8 (drop 6 (bits 8 a ++ (bits 8 b ++ l)))) ≡ a % 4 * 64 + b / 4 % 64
unfolding bits number_of
two_six a b l =
    rw (field b 6 2) at
    (shift_six _ _ _ _ _ _ _ _ _ _ _ _ (number_bits 2 a) (number_bits 8 b) (number_bits 2 b ∙ sym (mod-mod-pow b 6 2)))

pub two_left : (a b : ℕ) (l : List ℕ) → drop 8 (drop 6 (bits 8 a ++ (bits 8 b ++ l))) ≡ drop 6 (bits 8 b ++ l)
unfolding bits
two_left a b l = refl

without_two : (a b c d e f g h m : ℕ) →
    c * 128 + (d * 64 + (e * 32 + (f * 16 + (g * 8 + (h * 4 + (a * 2 + (b * 1 + 0))))))) ≡ m →
    a * 2 + (b * 1 + 0) ≡ m % 4 →
    c * 32 + (d * 16 + (e * 8 + (f * 4 + (g * 2 + (h * 1 + 0))))) ≡ m / 4
without_two a b c d e f g h m t u = omega arith

pub six_high : (b : ℕ) (l : List ℕ) → number_of (take 6 (bits 8 b ++ l)) ≡ b / 4 % 64
unfolding bits number_of
six_high b l =
    rw (field b 6 2) at (without_two _ _ _ _ _ _ _ _ _ (number_bits 8 b) (number_bits 2 b ∙ sym (mod-mod-pow b 6 2)))

-- the bits that are left of a byte
six_after : (c b : ℕ) (l : List ℕ) → drop 8 (bits 6 c ++ (bits 8 b ++ l)) ≡ bits 6 b ++ l
unfolding bits
six_after c b l = refl

six_left : (c b : ℕ) (l : List ℕ) → drop 8 (bits 6 c ++ (bits 8 b ++ l)) ≡ bits 6 (b % 64) ++ l
six_left c b l = six_after c b l ∙ ap (λ (m : List ℕ). m ++ l) (sym (bits_cut 6 6 b (omega arith)))

-- the padding
padded : (c : ℕ) → c < 64 → number_of (take 8 (bits 6 c ++ bits 2 0)) ≡ c * 4
unfolding bits number_of
padded c h = let e : c % 64 ≡ c = mod-eq_of_lt h in let f : c % 64 * 4 + 0 ≡ c * 4 = rw e (omega arith) in six_two c 0 [] ∙ f

byte_in_front : (b : ℕ) (l m : List ℕ) → (bits 8 b ++ l) ++ m ≡ bits 8 b ++ (l ++ m)
unfolding bits
byte_in_front b l m = refl

-- a byte's two highest bits
pub two_high : (b : ℕ) → b < 256 → b / 64 % 4 ≡ b / 64
two_high b h = mod-eq_of_lt (omega arith)

pub below_first : (b n : ℕ) (l : List ℕ) → Below n (b ∷ l) → b < n
below_first b n l h = h 0 (omega arith)

pub below_rest : (b n : ℕ) (l : List ℕ) → Below n (b ∷ l) → Below n l
below_rest b n l h k g = h (suc k) (omega arith)

-- The count's six bits, bytes, and two zeros.
form_carried : (c : ℕ) (l : List ℕ) → c < 64 → Below 256 l → bytes_from (suc (length l)) (bits 6 c ++ (all_bits l ++ bits 2 0)) ≡ carried c l
unfolding all_bits bytes_from carried
form_carried c [] h m = rw (padded c h)
form_carried c (b ∷ l) h m =
    let e : c % 64 ≡ c = mod-eq_of_lt h in
    let f : b / 64 % 4 ≡ b / 64 = two_high b (below_first b 256 l m) in
    let t : bytes_from (suc (length l)) (bits 6 (b % 64) ++ (all_bits l ++ bits 2 0)) ≡ carried (b % 64) l =
    form_carried (b % 64) l (mod-lt b (omega arith)) (below_rest b 256 l m) in
    rw (byte_in_front b (all_bits l) (bits 2 0), six_two c b (all_bits l ++ bits 2 0), six_left c b (all_bits l ++ bits 2 0), e, f) (ap (λ (m : List ℕ). (c * 4 + b / 64) ∷ m) t)

-- the first byte is the value
first_byte : (v : ℕ) (l : List ℕ) → v < 256 → number_of (take 8 (bits 8 v ++ l)) ≡ v
unfolding bits
first_byte v l h = number_bits 8 v ∙ mod-eq_of_lt h

after_first : (v : ℕ) (l : List ℕ) → drop 8 (bits 8 v ++ l) ≡ l
unfolding bits
after_first v l = refl

pub form_is : FormPromise
unfolding new_form bytes_from
form_is value pairs h g m =
    let e : length pairs + 2 ≡ suc (suc (length pairs)) = omega arith in
    let t : bytes_from (suc (length pairs)) (bits 6 (length pairs / 2) ++ (all_bits pairs ++ bits 2 0)) ≡ carried (length pairs / 2) pairs =
    form_carried (length pairs / 2) pairs (omega arith) m in
    let rest = bits 6 (length pairs / 2) ++ (all_bits pairs ++ bits 2 0) in
    ap (λ (n : ℕ). bytes_from n (bits 8 value ++ rest)) e ∙ rw (first_byte value rest h, after_first value rest) (ap (λ (m : List ℕ). value ∷ m) t)

-- One turn of the code that writes it, and its end.
pub carried_next : (bytes pairs : List ℕ) (low i r s : ℕ) → i < length pairs → r ≡ low * 4 + get_or pairs i 0 / 64 → s ≡ get_or pairs i 0 % 64 →
    sets bytes (i + 1) (carried low (drop i pairs)) ≡ sets (set bytes (i + 1) r) (i + 1 + 1) (carried s (drop (i + 1) pairs))
unfolding carried
carried_next bytes pairs low i r s h p q =
    let e : i + 1 + 1 ≡ suc (i + 1) = omega arith in rw (drop_next pairs i h, ← p, ← q, e)

pub carried_done : (entry bytes pairs : List ℕ) (value low i : ℕ) → value < 256 → length pairs ≤ 64 → Below 256 pairs → i ≡ length pairs →
    sets (set entry 0 value) 1 (carried (length pairs / 2) pairs) ≡ sets bytes (i + 1) (carried low (drop i pairs)) →
    set bytes (length pairs + 1) (low * 4) ≡ sets entry 0 (new_form value pairs)
unfolding carried
carried_done entry bytes pairs value low i v g m e inv =
    let h : length pairs ≤ length pairs = omega arith in
    rw (form_is value pairs v g m) (sym (rw (e, drop_of_length-le pairs h) at inv))
