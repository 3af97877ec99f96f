use native.Mathlib.Omega.{arith}
use mathlib.Core.Path.{refl, sym, ◌∙◌}
use borrow.Author.Rules.{rules}
use Rattle.std.proofs.lemmas.Option.{unwrap_or-slice_get}
use Rattle.descriptor_list.proofs.Joins.{joining_starts, joining_skips, joining_puts, joining_ends}
use Rattle.descriptor_list.proofs.joined.join.Goals.{then-not-is_companion, else-not-is_companion}
use Rattle.descriptor_list.proofs.joined.join.Goals as goal

pub loop-i-init : goal.loop-i-init
loop-i-init c = joining_starts _ _ c.requires.1

pub loop-i-preserved : goal.loop-i-preserved
loop-i-preserved c =
    elim c.if-not-is_companion.branch [
      | then-not-is_companion w ↦ rw (w.words-is, w.count-is)
          (joining_puts _ _ _ _ c.loop-i-test.true c.loop-i.invariant (sym c.is_companion.ensures ∙ w.if-not-is_companion.true)
          c.requires.0 _
          (search (rules, unwrap_or-slice_get)))
      | else-not-is_companion w ↦ rw (w.words-is, w.count-is)
          (joining_skips _ _ _ _ c.loop-i-test.true c.loop-i.invariant (sym c.is_companion.ensures ∙ w.if-not-is_companion.false))
    ]

pub returns : goal.returns
returns c = (omega (arith, c.requires.0, c.loop-i.invariant.inside, c.loop-i.invariant.few), joining_ends _ _ _ _ c.loop-i-test.false c.loop-i.invariant)
