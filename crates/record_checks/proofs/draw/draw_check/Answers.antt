use Rattle.record_checks.proofs.draw.draw_check.Goals as goal

pub returns : goal.returns
returns c = rw c.join-count.ensures.1 at c.check_joined.ensures
