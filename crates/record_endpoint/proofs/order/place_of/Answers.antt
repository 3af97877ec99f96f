use mathlib.Core.Path.{sym}
use native.Mathlib.Omega.{arith}
use Rattle.record_endpoint.proofs.Laws.{low_place, high_place, no_place_low, no_place_between, no_place_high}
use Rattle.record_endpoint.proofs.order.place_of.Goals as goal

pub returns-in-1-to-15-clause-value : goal.returns-in-1-to-15-clause-value
returns-in-1-to-15-clause-value c = sym (low_place c.args.address (omega arith) (omega arith))

pub returns-in-129-to-143-clause-value : goal.returns-in-129-to-143-clause-value
returns-in-129-to-143-clause-value c = sym (high_place c.args.address (omega arith) (omega arith))

pub returns-in_default-clause-value : goal.returns-in_default-clause-value
returns-in_default-clause-value c = sym (no_place_low c.args.address (omega arith))

pub returns-in_default-2-clause-value : goal.returns-in_default-2-clause-value
returns-in_default-2-clause-value c = sym (no_place_between c.args.address (omega arith) (omega arith))

pub returns-in_default-3-clause-value : goal.returns-in_default-3-clause-value
returns-in_default-3-clause-value c = sym (no_place_high c.args.address (omega arith))
