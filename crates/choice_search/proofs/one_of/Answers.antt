use Rattle.std.proofs.Common.{◌<◌, w32}
use native.Mathlib.Omega.{arith}
use Rattle.std.proofs.lemmas.Nat.Bits.{bit_at-trailing_zeros}
use Rattle.choice_search.proofs.Sets.{one_address}
use Rattle.choice_search.proofs.one_of.Goals as goal

pub returns : goal.returns
returns c =
    let z = c.requires in
    let some : 0 < c.args.addresses = omega (arith, z) in
    let b = bit_at-trailing_zeros w32 c.args.addresses some c.ranges.addresses.fits in
    one_address c.args.addresses _ b.0 b.1
