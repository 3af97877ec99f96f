use Rattle.device.specs.Ask.{ask_in}
use Rattle.device.proofs.Laws.{returned}
use Rattle.device.proofs.AskLaws.{ready, ready_to_show, commit_refused, commit_outdated, commit_current}
use Rattle.device.proofs.ask.commit_check.Goals as goal

pub returns-in_err-found : goal.returns-in_err-found
returns-in_err-found c =
    rw (returned _ _ c.from_residual.ensures.1)
    (commit_refused c.args.d.now c.args.l.ctx c.args.l.routes c.args.l.log (ask_in c.args.asked) _ _
    (rw c.in_err-found.was at c.claim_check.ensures))

pub is_current-requires-clause-d_value : goal.is_current-requires-clause-d_value
is_current-requires-clause-d_value c =
    ready_to_show c.args.d.now _ _ _ _ _ (ready c.args.d.now _ _ _ _ _ _ _ c.claim_check.ensures _ c.in_ok-found.was).0

pub returns-then-not-is_current : goal.returns-then-not-is_current
returns-then-not-is_current c =
    commit_outdated c.args.d.now c.args.l.ctx c.args.l.routes c.args.l.log (ask_in c.args.asked) _ _
    (rw c.in_ok-found.was at c.claim_check.ensures) c.is_current.result c.is_current.ensures c.if-not-is_current.true

pub returns : goal.returns
returns c =
    commit_current c.args.d.now c.args.l.ctx c.args.l.routes c.args.l.log (ask_in c.args.asked) _ _
    (rw c.in_ok-found.was at c.claim_check.ensures) c.is_current.result c.is_current.ensures c.if-not-is_current.false
