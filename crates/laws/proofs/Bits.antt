-- Runs of bits of a number: `x / 2 ^ low % 2 ^ width`.
use Prim.Native.Nat.{ℕ, zero, suc, ◌+◌, ◌-◌, ◌*◌, ◌/◌, ◌%◌, ◌^◌, ◌<◌, ◌≤◌}
use mathlib.Core.Path.{◌≡◌, sym, ap, ◌∙◌}
use native.Mathlib.Nat.{mod-lt, mod-one}
use native.Mathlib.Numerals.{one-add}
use native.Mathlib.Omega.{arith}
use lib.Pow.{pow_pos, pow_mono, shl_lt, field, mod-mod-pow, mod-pow-add}

-- What is cut off above a run does not change it.
pub cut_above : (x k low width : ℕ) → low + width ≤ k → x % 2 ^ k / 2 ^ low % 2 ^ width ≡ x / 2 ^ low % 2 ^ width
cut_above x k low width h =
    let e : k ≡ (k - width - low) + width + low = omega arith in
    ap (λ (m : ℕ). x % 2 ^ m / 2 ^ low % 2 ^ width) e
    ∙ ap (λ (m : ℕ). m % 2 ^ width) (field x ((k - width - low) + width) low)
    ∙ mod-mod-pow (x / 2 ^ low) (k - width - low) width

-- A run at its place lies below its end.
pub run_below : (x low width k : ℕ) → low + width ≤ k → x % 2 ^ width * 2 ^ low < 2 ^ k
run_below x low width k h =
    omega (arith, shl_lt width low (mod-lt x (pow_pos width)), pow_mono {i = width + low} {j = k} (omega arith))

-- Numbers that agree in each of their low `n` bits agree in these together.
pub same_bits : (x y n : ℕ) → ((k : ℕ) → k < n → x / 2 ^ k % 2 ≡ y / 2 ^ k % 2) → x % 2 ^ n ≡ y % 2 ^ n
same_bits x y zero h = mod-one x ∙ sym (mod-one y)
same_bits x y (suc n) h =
    rw (← one-add n, mod-pow-add x 1 n, mod-pow-add y 1 n, h n (omega arith), same_bits x y n (λ k l. h k (omega arith)))
