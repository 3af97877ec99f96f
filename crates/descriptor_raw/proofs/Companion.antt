-- A companion word is made of its fields, so that its descriptor gives it back.
use Prim.Native.Nat.{ℕ, ◌+◌, ◌*◌, ◌/◌, ◌%◌, ◌^◌, ◌<◌}
use mathlib.Core.Path.{◌≡◌}
use mathlib.Core.Bool.{true}
use native.Mathlib.Omega.{arith}
use borrow.Author.Tests.{eqb-true}
use lib.Pow.{mod-pow-add}
use Rattle.descriptor.specs.Word.{kind, companion_burst, companion_mult, companion_bytes, companion_ok, COMPANION}
use Rattle.descriptor_raw.specs.Words.{companion_word}

-- fields one below the other, with nothing below the last
summed :
    (w k a b c r₃₀ r₂₆ r₂₄ r₈ : ℕ) →
    w ≡ k * 2 ^ 30 + r₃₀ →
    k ≡ 3 →
    r₃₀ ≡ a * 2 ^ 26 + r₂₆ →
    r₂₆ ≡ b * 2 ^ 24 + r₂₄ →
    r₂₄ ≡ c * 2 ^ 8 + r₈ →
    r₈ ≡ 0 →
    3 * 2 ^ 30 + a * 2 ^ 26 + b * 2 ^ 24 + c * 2 ^ 8 ≡ w
summed w k a b c r₃₀ r₂₆ r₂₄ r₈ e₁ e₂ e₃ e₄ e₅ e₆ = omega arith

pub companion_back :
    (w : ℕ) → w < 2 ^ 32 → kind w ≡ COMPANION → companion_ok w ≡ true →
    companion_word (companion_burst w) (companion_mult w) (companion_bytes w) ≡ w
unfolding kind companion_ok companion_word companion_burst companion_mult companion_bytes
companion_back w h k o =
    let low : w % 2 ^ 8 ≡ 0 = eqb-true _ 0 o in
    let top : w ≡ w / 2 ^ 30 % 2 ^ 2 * 2 ^ 30 + w % 2 ^ 30 = omega arith in
    let burst : w / 2 ^ 26 % 2 ^ 4 % 16 ≡ w / 2 ^ 26 % 2 ^ 4 = omega arith in
    let mult : w / 2 ^ 24 % 2 ^ 2 % 4 ≡ w / 2 ^ 24 % 2 ^ 2 = omega arith in
    rw (burst, mult) (summed _ _ _ _ _ _ _ _ _ top k (mod-pow-add w 4 26) (mod-pow-add w 2 24) (mod-pow-add w 16 8) low)
