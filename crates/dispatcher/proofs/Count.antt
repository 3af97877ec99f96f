-- How many numbers below a bound pass a test.
use Prim.Native.Nat.{ℕ, zero, suc, ◌<◌, ◌≤◌}
use mathlib.Core.Path.{◌≡◌, refl, sym, ap}
use mathlib.Core.Bool.{Bool, true, false, cond}
use native.Mathlib.Omega.{arith}
use native.Mathlib.Decide.{ℕ_discrete}
use Rattle.dispatcher.specs.Promises.{count_below}

abbrev pub Within : (ℕ → Bool) → (ℕ → Bool) → ℕ → Type 0
Within p q n = (t : ℕ) → t < n → p t ≡ true → q t ≡ true

step_le : (a b : Bool) (m k : ℕ) → (a ≡ true → b ≡ true) → m ≤ k → cond a (suc m) m ≤ cond b (suc k) k
step_le true b m k f h = rw (f refl) (omega arith)
step_le false true m k f h = omega arith
step_le false false m k f h = h

step_lt : (a b : Bool) (m k : ℕ) → (a ≡ true → b ≡ true) → suc m ≤ k → suc (cond a (suc m) m) ≤ cond b (suc k) k
step_lt true b m k f h = rw (f refl) (omega arith)
step_lt false true m k f h = omega arith
step_lt false false m k f h = h

pub count_le : (p q : ℕ → Bool) (n : ℕ) → Within p q n → count_below p n ≤ count_below q n
unfolding count_below
count_le p q zero f = omega arith
count_le p q (suc n) f = step_le (p n) (q n) _ _ (f n (omega arith)) (count_le p q n (λ t h. f t (omega arith)))

-- one is missing
pub count_lt : (p q : ℕ → Bool) (n u : ℕ) → u < n → p u ≡ false → q u ≡ true → Within p q n → suc (count_below p n) ≤ count_below q n
unfolding count_below
count_lt p q zero u h e g f = absurd (omega arith)
count_lt p q (suc n) u h e g f = go (ℕ_discrete u n) (count_le p q n (λ t l. f t (omega arith))) (λ l. count_lt p q n u l e g (λ t k. f t (omega arith)))
  where
    go : Dec (u ≡ n) → count_below p n ≤ count_below q n → (u < n → suc (count_below p n) ≤ count_below q n) →
        suc (cond (p n) (suc (count_below p n)) (count_below p n)) ≤ cond (q n) (suc (count_below q n)) (count_below q n)
    go (yes s) below ih =
        let a : p n ≡ false = rw (← s) e in
        let b : q n ≡ true = rw (← s) g in
        rw (a, b) (omega arith)
    go (no s) below ih = step_lt (p n) (q n) (count_below p n) (count_below q n) (f n (omega arith)) (ih (omega (arith, s)))

-- one may be more
pub count_one : (p q : ℕ → Bool) (n u : ℕ) → ((t : ℕ) → t < n → (t ≡ u → ⊥) → p t ≡ true → q t ≡ true) → count_below p n ≤ suc (count_below q n)
unfolding count_below
count_one p q zero u f = omega arith
count_one p q (suc n) u f =
    go (ℕ_discrete u n) (λ s. count_le p q n (λ t l. f t (omega arith) (λ r. omega (arith, s, r)))) (count_one p q n u (λ t l. f t (omega arith)))
  where
    more : (a b : Bool) (m k : ℕ) → m ≤ k → cond a (suc m) m ≤ suc (cond b (suc k) k)
    more true true m k h = omega arith
    more true false m k h = omega arith
    more false true m k h = omega arith
    more false false m k h = omega arith

    go : Dec (u ≡ n) → (u ≡ n → count_below p n ≤ count_below q n) → count_below p n ≤ suc (count_below q n) →
        cond (p n) (suc (count_below p n)) (count_below p n) ≤ suc (cond (q n) (suc (count_below q n)) (count_below q n))
    go (yes s) below ih = more (p n) (q n) _ _ (below s)
    go (no s) below ih =
        suc_out (q n) (step_le (p n) (q n) (count_below p n) (suc (count_below q n)) (f n (omega arith) (λ r. s (sym r))) ih)
      where
        suc_out : (b : Bool) {m : ℕ} → m ≤ cond b (suc (suc (count_below q n))) (suc (count_below q n)) → m ≤ suc (cond b (suc (count_below q n)) (count_below q n))
        suc_out true h = h
        suc_out false h = h

-- the same, and one more
pub count_same : (p q : ℕ → Bool) (n : ℕ) → ((t : ℕ) → t < n → q t ≡ p t) → count_below q n ≡ count_below p n
unfolding count_below
count_same p q zero f = refl
count_same p q (suc n) f = rw (f n (omega arith), count_same p q n (λ t h. f t (omega arith))) refl

pub count_more : (p q : ℕ → Bool) (n u : ℕ) → u < n → p u ≡ false → q u ≡ true → ((t : ℕ) → t < n → (t ≡ u → ⊥) → q t ≡ p t) →
    count_below q n ≡ suc (count_below p n)
unfolding count_below
count_more p q zero u h e g f = absurd (omega arith)
count_more p q (suc n) u h e g f = go (ℕ_discrete u n) (λ s. count_same p q n (λ t l. f t (omega arith) (λ r. omega (arith, s, r)))) (λ l. count_more p q n u l e g (λ t k. f t (omega arith)))
  where
    step : (b : Bool) (m k : ℕ) → m ≡ suc k → cond b (suc m) m ≡ suc (cond b (suc k) k)
    step true m k e = ap suc e
    step false m k e = e

    go : Dec (u ≡ n) → (u ≡ n → count_below q n ≡ count_below p n) → (u < n → count_below q n ≡ suc (count_below p n)) →
        cond (q n) (suc (count_below q n)) (count_below q n) ≡ suc (cond (p n) (suc (count_below p n)) (count_below p n))
    go (yes s) same ih =
        let a : p n ≡ false = rw (← s) e in
        let b : q n ≡ true = rw (← s) g in
        rw (a, b) (ap suc (same s))
    go (no s) same ih = rw (f n (omega arith) (λ r. s (sym r))) (step (p n) (count_below q n) (count_below p n) (ih (omega (arith, s))))
