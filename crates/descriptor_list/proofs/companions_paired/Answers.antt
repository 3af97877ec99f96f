use mathlib.Core.Path.{refl, sym, ap, ◌∙◌}
use mathlib.Core.Bool.{not}
use Rattle.descriptor.specs.declared.WordKind.TheVariants.{Endpoint}
use Rattle.descriptor.proofs.Kind.{kind_equal}
use Rattle.descriptor_list.specs.Companions.{paired}
use Rattle.descriptor_list.proofs.Joins.{paired_next, paired_end}
use Rattle.descriptor_list.proofs.companions_paired.Goals as goal

pub loop-w-init : goal.loop-w-init
unfolding paired
loop-w-init c = refl

pub returns-then-not-may_follow : goal.returns-then-not-may_follow
returns-then-not-may_follow c =
    sym (c.loop-w.invariant ∙ paired_next _ _ _ c.loop-w-test.true ∙ rw (← c.may_follow.ensures, c.if-not-may_follow.true))

pub loop-w-preserved : goal.loop-w-preserved
loop-w-preserved c =
    c.loop-w.invariant ∙ paired_next _ _ _ c.loop-w-test.true ∙ rw (← c.may_follow.ensures, c.if-not-may_follow.false)

pub returns : goal.returns
returns c =
    sym (c.loop-w.invariant ∙ paired_end _ _ _ c.loop-w-test.false ∙ ap not (sym (kind_equal _ _ c.word_kind.ensures Endpoint _ refl)) ∙ sym c.ne.ensures)
