use mathlib.Core.Path.{refl}
use Rattle.choice_search.proofs.Sets.{within_same}
use Rattle.choice_search.proofs.first_within.Goals as goal

pub returns-then-s-addresses : goal.returns-then-s-addresses
returns-then-s-addresses c = λ n. (c.loop-s.s-index, (refl, within_same _ _ c.if-s-addresses.true))

pub returns : goal.returns
returns c = λ n. absurd (n refl)
