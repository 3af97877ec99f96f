use mathlib.Core.Path.{◌≡◌}
use lib.ListN.{length, drop}
use Rattle.record_endpoint.specs.Endpoint.{addresses, addresses_fit}
use Rattle.record_endpoint.proofs.Fit.{fit_from}
use Rattle.record_endpoint.proofs.entry.addresses_fit.Given as goal

abbrev pub invariant-loop-e : goal.invariant-loop-e
invariant-loop-e l =
    (length l.taken ≡ 30) × (addresses_fit (addresses l.eps) ≡ fit_from l.taken (drop l.e-index (addresses l.eps)))
