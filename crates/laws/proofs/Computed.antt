-- A rule that holds at each number below a bound, from a test that antt computes.
use Prim.Native.Nat.{ℕ, zero, suc, ◌<◌}
use mathlib.Core.Path.{◌≡◌}
use mathlib.Core.Bool.{Bool, true, ◌&&◌}
use native.Mathlib.Omega.{arith}
use native.Mathlib.Decide.{dec_lt}
use Rattle.laws.proofs.Tests.{and_left, and_right}

abbrev pub all : (ℕ → Bool) → ℕ → Bool
all p zero = true
all p (suc n) = p n && all p n

pub all_below : (p : ℕ → Bool) (n : ℕ) → all p n ≡ true → (k : ℕ) → k < n → p k ≡ true
all_below p zero e k h = absurd (omega arith)
all_below p (suc n) e k h = go (all_below p n (and_right (p n) (all p n) e) k) (dec_lt k n)
  where
    go : (k < n → p k ≡ true) → Dec (k < n) → p k ≡ true
    go f (yes l) = f l
    go f (no l) = let s : k ≡ n = omega arith in rw s (and_left (p n) (all p n) e)
