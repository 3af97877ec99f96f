use native.Mathlib.Omega.{arith}
use mathlib.Core.Path.{refl}
use borrow.Author.Rules.{rules}
use Rattle.choice_list.proofs.Grouped.{gather_starts, gather_fits, gather_goes, gather_ends}
use Rattle.choice_list.proofs.chosen.all_candidates.Goals as goal

pub loop-i-init : goal.loop-i-init
loop-i-init c = gather_starts _ _ _ _ _ _ c.requires.1.1.1 refl

pub put_candidates-end-requires : goal.put_candidates-end-requires
put_candidates-end-requires c = (
  c.requires.0,
  (c.loop-i.invariant.room, gather_fits _ _ _ _ _ _ _ _ c.loop-i-test.true c.loop-i.invariant c.requires.0 c.requires.1.1.0),
)

pub loop-i-preserved : goal.loop-i-preserved
loop-i-preserved c =
    gather_goes _ _ _ _ _ _ _ _ c.loop-i-test.true c.loop-i.invariant _ _ _ (omega (arith, c.requires.1.0, c.loop-i-test.true)) (search rules)
    c.put_candidates-end.ensures.0 c.put_candidates-end.ensures.1 refl

pub returns : goal.returns
returns c = gather_ends _ _ _ _ _ _ _ _ c.loop-i-test.false c.loop-i.auto.i-end c.loop-i.invariant
