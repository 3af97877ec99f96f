use Rattle.std.proofs.Common.{rules, refl, ◌∙◌, arith}
use Rattle.course_steps.proofs.Loops.{each_next, each_left, each_end}
use Rattle.course_steps.proofs.send_each.Goals as goal

pub loop-done-preserved : goal.loop-done-preserved
loop-done-preserved g c = (
  search rules,
  λ of ctx f.
      c.loop-done.invariant.1 of ctx f
      ∙ each_next of _ _ _ ctx _ _ _ _ _ (omega arith) (f _ _ (search rules) c.command.ensures) c.send.ensures.0 c.send.ensures.1 c.in-Done.is,
)

pub returns-in_default : goal.returns-in_default
returns-in_default g c = record {
  counts = (omega arith, omega arith, search rules);
  as_sent = λ of ctx f.
      rw (c.loop-done.invariant.1 of ctx f
      ∙ each_left of _ _ _ ctx _ _ _ _ _ (omega arith) (f _ _ (search rules) c.command.ensures) c.send.ensures.0 c.send.ensures.1 c.in_default.not-Done) (record {
        sent = refl;
        active = refl;
        count = refl;
        log = refl;
      });
}

pub returns : goal.returns
returns g c = record {
  counts = (omega arith, omega arith, search rules);
  as_sent = λ of ctx f.
      rw (c.loop-done.invariant.1 of ctx f ∙ each_end of _ _ _ ctx _ _ (omega arith) (omega arith)) (record { sent = refl; active = refl; count = refl; log = refl });
}
