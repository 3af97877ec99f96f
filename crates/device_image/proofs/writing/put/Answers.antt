use borrow.Author.Rules.{rules}
use mathlib.Core.Path.{refl, sym, ◌∙◌}
use native.Mathlib.Omega.{arith}
use lib.ListN.{length-set}
use Rattle.device_image.proofs.Steps.{rest_none, rest_all, length_mapped, put_next}
use Rattle.device_image.proofs.writing.put.Goals as goal

pub loop-i-init : goal.loop-i-init
loop-i-init g c = (c.requires.may, search rules, λ said h. rest_none _ _ _)

pub loop-i-preserved : goal.loop-i-preserved
loop-i-preserved g c =
    let turn = c.loop-i.invariant in (
      search rules,
      simp length-set turn.1,
      λ said h. turn.2 said h
          ∙ put_next c.args.from c.loop-i.i c.loop-i.image said c.args.elements.now c.loop-i-test.true c.index-elements-i.is (h _ _ c.word.ensures),
    )

pub returns : goal.returns
returns g c said h =
    let turn = c.loop-i.invariant in
    sym (turn.2 said h ∙ rest_all _ _ _ _ (omega (arith, c.loop-i-test.false, length_mapped said c.args.elements.now refl)))
