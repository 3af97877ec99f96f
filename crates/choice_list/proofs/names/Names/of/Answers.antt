use native.Mathlib.Omega.{arith}
use mathlib.Core.Path.{◌≡◌, sym, ◌∙◌}
use lib.ListN.{length}
use borrow.Author.Rules.{rules}
use Rattle.record_ring.proofs.Laws.{any_elem}
use Rattle.choice_list.proofs.Once.{naming_starts, naming_skips, naming_puts, naming_ends}
use Rattle.choice_list.proofs.names.Names.of.Goals.{then-not-contains, else-not-contains}
use Rattle.choice_list.proofs.names.Names.of.Goals as goal

pub loop-name-init : goal.loop-name-init
loop-name-init c = naming_starts _ _

pub loop-name-preserved : goal.loop-name-preserved
loop-name-preserved c =
    elim c.if-not-contains.branch [
      | then-not-contains w ↦ rw (w.once-is, w.count-is) (naming_puts _ _ _ _ c.loop-name-test.true c.loop-name.invariant
          (sym (any_elem _ _) ∙ sym c.contains.ensures.value ∙ w.if-not-contains.true)
          (let e : length c.loop-name.once ≡ 8 = search rules in omega (arith, e, c.requires, c.loop-name-test.true, c.loop-name.invariant.few)))
      | else-not-contains w ↦ rw (w.once-is, w.count-is) (naming_skips _ _ _ _ c.loop-name-test.true c.loop-name.invariant
          (sym (any_elem _ _) ∙ sym c.contains.ensures.value ∙ w.if-not-contains.false))
    ]

pub returns : goal.returns
returns c = naming_ends _ _ _ _ c.loop-name-test.false c.loop-name.invariant
