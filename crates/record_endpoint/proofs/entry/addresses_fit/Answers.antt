use mathlib.Core.Bool.{true}
use mathlib.Core.Path.{sym, ◌∙◌}
use borrow.Author.Tests.{lt-ltb}
use native.Mathlib.Omega.{arith}
use lib.ListN.{length-set}
use borrow.Author.Rules.{rules}
use Rattle.record_endpoint.proofs.Fit.{fit_all, fit_next, fit_none}
use Rattle.record_endpoint.proofs.entry.addresses_fit.Goals as goal

pub loop-e-init : goal.loop-e-init
loop-e-init c = (search rules, fit_all _)

pub returns-in_default : goal.returns-in_default
returns-in_default c = sym (c.loop-e.invariant.1 ∙ fit_next _ _ _ c.loop-e-test.true ∙ rw (← c.in_default.ensures.value))

pub returns-then-taken-place : goal.returns-then-taken-place
returns-then-taken-place c =
    sym
    (c.loop-e.invariant.1
    ∙ fit_next _ _ _ c.loop-e-test.true
    ∙ rw (← c.in-Some.ensures.value, lt-ltb c.in-Some.place 30 c.in-Some.ensures.within, c.if-taken-place.true))

pub loop-e-preserved : goal.loop-e-preserved
loop-e-preserved c = let l = c.loop-e in (
  length-set l.taken c.in-Some.place true ∙ l.invariant.0,
  l.invariant.1
      ∙ fit_next _ _ _ c.loop-e-test.true
      ∙ rw (← c.in-Some.ensures.value, lt-ltb c.in-Some.place 30 c.in-Some.ensures.within, c.if-taken-place.false),
)

pub returns : goal.returns
returns c = sym (c.loop-e.invariant.1 ∙ fit_none _ c.args.eps.now c.loop-e.e-index (omega arith))
