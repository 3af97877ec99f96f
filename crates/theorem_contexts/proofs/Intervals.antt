-- The interval of an isochronous endpoint at Full speed.
use mathlib.Core.Path.{◌∙◌}
use Rattle.descriptor.specs.Endpoint.{held_exponent, isochronous_interval, xhci_interval}
use Rattle.context_block.specs.Promises.{Holds, endpoint_reads}
use Rattle.context.specs.Place.{read_at}
use Rattle.theorem_contexts.specs.Intervals.{FullIsochronousInterval}

pub full_isochronous_interval : FullIsochronousInterval
unfolding read_at Holds endpoint_reads xhci_interval isochronous_interval held_exponent
full_isochronous_interval s interface alternate dropped added queues dcis was ctx r xs ys w e last iso =
    (r.last xs ys w e last).named.0 ∙ rw iso
