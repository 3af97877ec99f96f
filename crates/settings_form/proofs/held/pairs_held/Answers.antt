use mathlib.Core.Path.{sym, ◌∙◌}
use native.Mathlib.Omega.{arith}
use Rattle.settings_form.proofs.Words.{not_rising, not_found, pair_held, pairs_end}
use Rattle.settings_form.proofs.held.pairs_held.Goals as goal
use Rattle.settings_form.proofs.held.pairs_held.Goals.{then-interface-least-via-then-interface-least, then-interface-least-via-else-interface-least+then-not-has_alternate}

pub returns-then-interface-least : goal.returns-then-interface-least
returns-then-interface-least c =
    elim c.then-interface-least.branch [
      | then-interface-least-via-then-interface-least w ↦
          sym (not_rising _ _ _ c.in-len2-up.len_at_least w.if-interface-least.true) ∙ c.loop-left.invariant.rest
      | then-interface-least-via-else-interface-least+then-not-has_alternate w ↦
          sym (not_found _ _ _ c.in-len2-up.len_at_least _ w.has_alternate.ensures w.if-not-has_alternate.true) ∙ c.loop-left.invariant.rest
    ]

pub loop-left-preserved : goal.loop-left-preserved
loop-left-preserved c =
    record {
      small = omega (arith, c.type_inv.pairs);
      rest =
          pair_held _ _ _ c.in-len2-up.len_at_least _ c.has_alternate.ensures c.if-interface-least.false c.if-not-has_alternate.false
          ∙ c.loop-left.invariant.rest;
    }

pub returns : goal.returns
returns c = pairs_end _ _ _ c.in_default.len_below _ c.is_empty.ensures ∙ c.loop-left.invariant.rest
