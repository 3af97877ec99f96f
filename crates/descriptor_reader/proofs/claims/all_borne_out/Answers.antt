use mathlib.Core.Path.{sym, ◌∙◌}
use Rattle.descriptor_reader.proofs.Judged.{judged_on, judged_end}
use Rattle.descriptor_reader.proofs.claims.all_borne_out.Goals as goal

pub returns-then-not-borne_out : goal.returns-then-not-borne_out
returns-then-not-borne_out c =
    sym (judged_on _ _ _ c.in-Some.ensures.steps.cut_off ∙ rw (← c.borne_out.ensures, c.if-not-borne_out.true)) ∙ c.loop-d.invariant

pub loop-d-preserved : goal.loop-d-preserved
loop-d-preserved c =
    sym (judged_on _ _ _ c.in-Some.ensures.steps.cut_off ∙ rw (← c.borne_out.ensures, c.if-not-borne_out.false)) ∙ c.loop-d.invariant

pub returns : goal.returns
returns c = sym (judged_end _ c.in_default.ensures.steps) ∙ c.loop-d.invariant
