use mathlib.Core.Path.{refl, sym, ◌∙◌}
use borrow.Author.Rules.{rules}
use Rattle.record_endpoint.specs.Endpoint.{padded}
use Rattle.record_checks.proofs.Steps.{enter_all, enter_first, enter_second, quarantined_as}
use Rattle.record_checks.proofs.enter.enter_rings.Goals as goal

pub invariant_of-all : goal.invariant_of-all
unfolding padded
invariant_of-all c = record { fits = search rules; zeros = refl }

pub enter-requires : goal.enter-requires
enter-requires c = let a = c.args in enter_first a.quarantined.now a.live.now a.control c.requires.live_len_bound

pub enter-requires-2 : goal.enter-requires-2
enter-requires-2 c = let a = c.args in rw c.enter.ensures (enter_second a.quarantined.now a.live.now a.control c.requires.live_len_bound)

pub enter-requires-3 : goal.enter-requires-3
enter-requires-3 c = let a = c.args in
    rw (c.enter-2.ensures, c.enter.ensures) (rw (enter_all a.quarantined.now a.live.now a.control) at c.requires.live_len_bound)

pub returns : goal.returns
returns c = let a = c.args in
    quarantined_as _ _
    (c.enter-3.ensures ∙ rw (c.enter-2.ensures, c.enter.ensures) (sym (enter_all a.quarantined.now a.live.now a.control)))
