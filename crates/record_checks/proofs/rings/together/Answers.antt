use native.Mathlib.Omega.{arith}
use borrow.Author.Rules.{rules}
use Rattle.record_ring.proofs.Entered.{not_among_short}
use Rattle.record_checks.proofs.Together.{sound_tests}
use Rattle.record_checks.proofs.rings.together.Goals as goal

pub overflow_add-result : goal.overflow_add-result
overflow_add-result c = omega (arith, c.count_not_among.ensures, not_among_short c.args.live.now c.args.kept.now)

pub returns-then-rings_fit-2 : goal.returns-then-rings_fit-2
returns-then-rings_fit-2 c = rw sound_tests (search rules)

pub returns-else-rings_fit-2 : goal.returns-else-rings_fit-2
returns-else-rings_fit-2 c = rw sound_tests (search rules)
