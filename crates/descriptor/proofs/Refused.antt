-- What an endpoint word is refused for.
use Prim.Native.Nat.{ℕ, ◌/◌, ◌%◌}
use mathlib.Core.Path.{◌≡◌}
use mathlib.Core.Logic.{◌≢◌}
use mathlib.Core.Bool.{true, false, and-false}
use borrow.Author.Tests.{eq-eqb, ne_eqb}
use Rattle.descriptor.specs.Word.{endpoint_number, type_number, endpoint_ok}

module _ (w : ℕ) where
  pub endpoint_number_zero : w / 0x200_0000 % 16 ≡ 0 → endpoint_ok w ≡ false
  unfolding endpoint_ok endpoint_number
  endpoint_number_zero e = rw (eq-eqb _ _ e)

  pub endpoint_type_zero : w / 0x80_0000 % 4 ≡ 0 → endpoint_ok w ≡ false
  unfolding endpoint_ok type_number
  endpoint_type_zero e = rw (eq-eqb _ _ e, and-false)

  pub endpoint_fits : w / 0x200_0000 % 16 ≢ 0 → w / 0x80_0000 % 4 ≢ 0 → endpoint_ok w ≡ true
  unfolding endpoint_ok endpoint_number type_number
  endpoint_fits n t = rw (ne_eqb _ _ n, ne_eqb _ _ t)
