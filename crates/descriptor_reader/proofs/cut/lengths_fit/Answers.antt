use mathlib.Core.Path.{refl, sym, ◌∙◌}
use Rattle.descriptor_reader.proofs.Step.{empty, no_type_refused, past_end_refused, short_refused, whole_passed, none_whole}
use Rattle.descriptor_reader.proofs.cut.lengths_fit.Goals as goal

pub returns-then-n-lt-LEAST : goal.returns-then-n-lt-LEAST
returns-then-n-lt-LEAST c =
    sym (no_type_refused _ _ _ _ c.is_empty.ensures c.loop-rest-test.true refl c.if-n-lt-LEAST.true) ∙ c.loop-rest.invariant

pub returns-then-rest-n : goal.returns-then-rest-n
returns-then-rest-n c =
    sym (past_end_refused _ _ _ _ c.is_empty.ensures c.loop-rest-test.true refl c.if-rest-n.true) ∙ c.loop-rest.invariant

pub returns-then-n-size_of : goal.returns-then-n-size_of
returns-then-n-size_of c =
    sym (short_refused _ _ _ _ c.is_empty.ensures c.loop-rest-test.true refl c.if-n-lt-LEAST.false c.if-rest-n.false (rw (← c.size_of.ensures) c.if-n-size_of.true))
    ∙ c.loop-rest.invariant

pub loop-rest-preserved : goal.loop-rest-preserved
loop-rest-preserved c =
    sym (whole_passed _ _ _ _ c.is_empty.ensures c.loop-rest-test.true refl c.if-n-lt-LEAST.false c.if-rest-n.false _ c.split_at.ensures.back (rw (← c.size_of.ensures) c.if-n-size_of.false))
    ∙ c.loop-rest.invariant

pub returns : goal.returns
returns c = sym (none_whole _ _ (empty _ _ c.is_empty.ensures c.loop-rest-test.false)) ∙ c.loop-rest.invariant
