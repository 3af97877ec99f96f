-- A Configure that adds or drops no words.
use Prim.Native.Nat.{ℕ, ◌^◌, ◌<◌}
use mathlib.Core.Path.{refl}
use mathlib.Core.Bool.{false}
use mathlib.Core.List.{[]}
use lib.Dec.{lit<}
use Rattle.laws.proofs.Tests.{not_both}
use Rattle.context_block.specs.Blocks.{some_dci}
use Rattle.context.specs.Promises.{Endpoints}
use Rattle.transfer.specs.Routes.{ring_for}

-- no words
pub no_endpoints_lem : Endpoints []
unfolding some_dci
no_endpoints_lem d e = not_both false e refl

-- no rings
pub no_ring : (d : ℕ) → ring_for d [] 0 < 2 ^ 64
unfolding ring_for
no_ring d = lit< tt
