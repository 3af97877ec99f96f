use native.Mathlib.Omega.{arith}
use mathlib.Core.Path.{ap, ◌∙◌}
use Prim.Native.Nat.{◌+◌}
use Rattle.choice_list.proofs.Words.{first_none, first_some, first_few}
use Rattle.choice_list.proofs.candidate.first_length.Goals as goal

pub returns-in_default : goal.returns-in_default
returns-in_default c = first_none _ c.in_default.len_below

pub returns : goal.returns
returns c = ap (λ n. n + 1) c.configuration_length.ensures ∙ first_some _ c.in-len1-up.len_at_least

pub overflow_add-result : goal.overflow_add-result
overflow_add-result c =
    let e = ap (λ n. n + 1) c.configuration_length.ensures ∙ first_some c.args.list.now c.in-len1-up.len_at_least in
    omega (arith, e, first_few c.args.list.now, c.requires)
