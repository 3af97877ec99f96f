use mathlib.Core.Path.{◌∙◌}
use native.Mathlib.Omega.{arith}
use Rattle.reason.specs.Reason.{claim_reason}
use Rattle.reason.proofs.Steps.{failed_told, number_told}
use Rattle.reason.proofs.claim_reason.Goals as goal

pub returns-in-0 : goal.returns-in-0
unfolding claim_reason
returns-in-0 c = rw c.in-0.is

pub returns-in-8 : goal.returns-in-8
unfolding claim_reason
returns-in-8 c = rw c.in-8.is

pub returns-in-9 : goal.returns-in-9
unfolding claim_reason
returns-in-9 c = c.owned_reason.ensures ∙ rw c.in-9.is

pub returns-in-21 : goal.returns-in-21
unfolding claim_reason
returns-in-21 c = rw c.in-21.is

pub returns-in-13 : goal.returns-in-13
returns-in-13 c = c.first_failed.ensures ∙ failed_told _ _ _ _ _ _ (omega arith) (omega arith)

pub returns-in_default : goal.returns-in_default
returns-in_default c = number_told _ _ _ _ _ _ (λ e. omega arith) (λ e. omega arith) (λ e. omega arith) (λ e. omega arith) (λ e. omega arith) (λ e. omega arith)

pub returns-in_default-2 : goal.returns-in_default-2
returns-in_default-2 c = number_told _ _ _ _ _ _ (λ e. omega arith) (λ e. omega arith) (λ e. omega arith) (λ e. omega arith) (λ e. omega arith) (λ e. omega arith)
