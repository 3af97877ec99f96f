-- Sets of addresses as numbers, bit by bit.
use Rattle.std.specs.Prelude.{ℕ, zero, suc, ◌*◌, ◌/◌, ◌%◌, ◌^◌, ◌<◌, ◌≡◌, ◌⊎◌, true, false, ◌&&◌, ◌||◌, eqb, min, max}
use mathlib.Core.Path.{refl, sym, ap, ◌∙◌}
use mathlib.Core.Logic.{inl, inr}
use native.Mathlib.Omega.{arith}
use native.Mathlib.Decide.{ℕ_discrete}
use native.Mathlib.Nat.{pow-suc}
use borrow.Author.Tests.{eqb-false}
use Rattle.std.specs.Int.{bit_at}
use Rattle.std.specs.Int.Bits.{bit_and, bit_or}
use Rattle.std.proofs.lemmas.Nat.{one_shl}
use Rattle.std.proofs.lemmas.Nat.Bits.{bit_at-zero, bit_at-lt, bit_at-suc, bit_at-pow_same, bit_at-pow_other, bit_at_lowest, bit_at_and, bit_at_or}
use Rattle.laws.proofs.Tests.{and_left, and_right, and-true, not_both}
use Rattle.laws.proofs.Cases.{or_cases, or_left, or_right, false_if}
use Rattle.choice_search.specs.Search.{has, Within, OneOf}

least_bit : (x y : ℕ) → x < 2 → y < 2 → eqb (min x y) 1 ≡ (eqb x 1 && eqb y 1)
least_bit zero zero h g = refl
least_bit zero (suc zero) h g = refl
least_bit (suc zero) zero h g = refl
least_bit (suc zero) (suc zero) h g = refl
least_bit (suc (suc x)) y h g = absurd (omega arith)
least_bit zero (suc (suc y)) h g = absurd (omega arith)
least_bit (suc zero) (suc (suc y)) h g = absurd (omega arith)

most_bit : (x y : ℕ) → x < 2 → y < 2 → eqb (max x y) 1 ≡ (eqb x 1 || eqb y 1)
most_bit zero zero h g = refl
most_bit zero (suc zero) h g = refl
most_bit (suc zero) zero h g = refl
most_bit (suc zero) (suc zero) h g = refl
most_bit (suc (suc x)) y h g = absurd (omega arith)
most_bit zero (suc (suc y)) h g = absurd (omega arith)
most_bit (suc zero) (suc (suc y)) h g = absurd (omega arith)

pub has_and : (a b k : ℕ) → has (bit_and a b) k ≡ (has a k && has b k)
unfolding has
has_and a b k = rw (bit_at_and a b k) (least_bit _ _ (bit_at-lt a k) (bit_at-lt b k))

pub has_or : (a b k : ℕ) → has (bit_or a b) k ≡ (has a k || has b k)
unfolding has
has_or a b k = rw (bit_at_or a b k) (most_bit _ _ (bit_at-lt a k) (bit_at-lt b k))

-- The empty set.
pub has_none : (k : ℕ) → has 0 k ≡ false
unfolding has
has_none k = rw (bit_at-zero k) refl

none_zero : (n x : ℕ) → x < 2 ^ n → ((k : ℕ) → has x k ≡ false) → x ≡ 0
unfolding has
none_zero zero x h e = omega arith
none_zero (suc n) x h e =
    let p : 2 ^ suc n ≡ 2 ^ n * 2 = pow-suc 2 n in
    let z = none_zero n (x / 2) (omega arith) (λ k. rw (← bit_at-suc x k) (e (suc k))) in
    let o = eqb-false (bit_at x 0) 1 (e zero) in
    let l = bit_at_lowest x in
    omega (arith, o, l, z)

-- Two that have nothing in common.
pub apart_not : (a b : ℕ) → bit_and a b ≡ 0 → (k : ℕ) → has a k ≡ true → has b k ≡ true → ⊥
apart_not a b e k x y = not_both (has (bit_and a b) k) (has_and a b k ∙ and-true (has a k) (has b k) x y) (ap (λ s. has s k) e ∙ has_none k)

pub not_apart : (n a b : ℕ) → bit_and a b < 2 ^ n → ((k : ℕ) → has a k ≡ true → has b k ≡ true → ⊥) → bit_and a b ≡ 0
not_apart n a b h f = none_zero n (bit_and a b) h (λ k. false_if (has (bit_and a b) k)
    (λ e. let g = sym (has_and a b k) ∙ e in f k (and_left (has a k) (has b k) g) (and_right (has a k) (has b k) g)))

pub within_none : (a : ℕ) → Within 0 a
within_none a k e = not_both (has 0 k) e (has_none k)

pub within_left : (a b c : ℕ) → Within (bit_or a b) c → Within a c
within_left a b c w k e = w k (has_or a b k ∙ or_left (has a k) (has b k) e)

pub within_right : (a b c : ℕ) → Within (bit_or a b) c → Within b c
within_right a b c w k e = w k (has_or a b k ∙ or_right (has a k) (has b k) e)

pub within_or : (a b c : ℕ) → Within a c → Within b c → Within (bit_or a b) c
within_or a b c x y k e = go (or_cases (has a k) (has b k) (sym (has_or a b k) ∙ e))
  where
    go : (has a k ≡ true) ⊎ (has b k ≡ true) → has c k ≡ true
    go (inl h) = x k h
    go (inr h) = y k h

pub within_and : (a b : ℕ) → Within (bit_and a b) b
within_and a b k e = and_right (has a k) (has b k) (sym (has_and a b k) ∙ e)

pub within_join : (a b c : ℕ) → Within a b → Within a (bit_or b c)
within_join a b c w k e = has_or b c k ∙ or_left (has b k) (has c k) (w k e)

-- What is in one of two and not in the second is in the first.
pub within_first : (a b m : ℕ) → Within a (bit_or b m) → bit_and a m ≡ 0 → Within a b
within_first a b m w e k h = go (or_cases (has b k) (has m k) (sym (has_or b m k) ∙ w k h))
  where
    go : (has b k ≡ true) ⊎ (has m k ≡ true) → has b k ≡ true
    go (inl x) = x
    go (inr x) = absurd (apart_not a m e k h x)

-- Of blame within taken and one set, what is taken is enough.
pub within_blame : (blame taken m t : ℕ) → Within blame (bit_or taken m) → Within (bit_and blame taken) t → Within blame (bit_or t m)
within_blame blame taken m t w s k h = has_or t m k ∙ go (or_cases (has taken k) (has m k) (sym (has_or taken m k) ∙ w k h))
  where
    go : (has taken k ≡ true) ⊎ (has m k ≡ true) → (has t k || has m k) ≡ true
    go (inl x) = or_left (has t k) (has m k) (s k (has_and blame taken k ∙ and-true (has blame k) (has taken k) h x))
    go (inr x) = or_right (has t k) (has m k) x

-- A set that meets what is taken in some part meets whatever has that part.
pub meets_too : (n part m taken t : ℕ) → part < 2 ^ n → (part ≡ 0 → ⊥) → Within part (bit_and m taken) → Within part t → bit_and m t ≡ 0 → ⊥
meets_too n part m taken t h some w v e =
    some (none_zero n part h (λ k. false_if (has part k) (λ x. apart_not m t e k (and_left (has m k) (has taken k) (sym (has_and m taken k) ∙ w k x)) (v k x))))

-- A set that adds nothing to another is within it.
pub within_same : (a b : ℕ) → bit_or a b ≡ b → Within a b
within_same a b e k h = ap (λ s. has s k) (sym e) ∙ has_or a b k ∙ or_left (has a k) (has b k) h

-- A single address of a set.
pub one_address : (set k : ℕ) → k < 32 → bit_at set k ≡ 1 → OneOf set (1 * 2 ^ k % 2 ^ 32)
unfolding has
one_address set k h e = rw (one_shl k 32 h) (inside, λ z. omega (arith, bit_at-pow_same k, bit_at-zero k, ap (λ x. bit_at x k) z))
  where
    inside : Within (2 ^ k) set
    inside i x = go (ℕ_discrete i k)
      where
        go : Dec (i ≡ k) → eqb (bit_at set i) 1 ≡ true
        go (yes q) = rw (q, e) refl
        go (no n) = not_both (eqb (bit_at (2 ^ k) i) 1) x (rw (bit_at-pow_other k i n) refl)
