use mathlib.Core.Path.{◌≡◌, sym, ◌∙◌}
use mathlib.Core.Logic.{inl, inr}
use native.Mathlib.Omega.{arith}
use Rattle.context_part.specs.Part.{block_place}
use Rattle.context_part.proofs.Laws.{no_spacing, no_dci, at_inside, block_placed}
use Rattle.context_part.proofs.placed_block.Goals as goal
use Rattle.context_part.proofs.placed_block.Goals.{then-dci-lt1-via-then-dci-lt1, then-dci-lt1-via-else-dci-lt1+then-dci-gt31, then-from_output, else-from_output}

pub returns-in_default : goal.returns-in_default
returns-in_default c = no_spacing _ _ _ _ (sym c.spacing_of.ensures ∙ c.in_default.is)

pub returns-then-dci-lt1 : goal.returns-then-dci-lt1
returns-then-dci-lt1 c =
    elim c.then-dci-lt1.branch [
      | then-dci-lt1-via-then-dci-lt1 w ↦ no_dci _ _ _ _ _ (sym c.spacing_of.ensures ∙ c.in-Some.is) (inl w.if-dci-lt1.true)
      | then-dci-lt1-via-else-dci-lt1+then-dci-gt31 w ↦ no_dci _ _ _ _ _ (sym c.spacing_of.ensures ∙ c.in-Some.is) (inr w.if-dci-gt31.true)
    ]

pub overflow_mul-result : goal.overflow_mul-result
overflow_mul-result c =
    let a = c.args in
    let at : c.if-from_output.blocks ≡ block_place a.from_output a.dci = elim c.if-from_output.branch [
      | then-from_output w ↦ w.blocks-is ∙ rw w.if-from_output.true
      | else-from_output w ↦ w.blocks-is ∙ rw w.if-from_output.false
    ] in
    omega (arith, at_inside _ _ _ _ _ (sym c.spacing_of.ensures ∙ c.in-Some.is) c.if-dci-lt1.false c.if-dci-gt31.false _ at)

pub returns : goal.returns
returns c =
    let a = c.args in
    let at : c.if-from_output.blocks ≡ block_place a.from_output a.dci = elim c.if-from_output.branch [
      | then-from_output w ↦ w.blocks-is ∙ rw w.if-from_output.true
      | else-from_output w ↦ w.blocks-is ∙ rw w.if-from_output.false
    ] in
    block_placed _ _ _ _ _ (sym c.spacing_of.ensures ∙ c.in-Some.is) c.if-dci-lt1.false c.if-dci-gt31.false _ at
