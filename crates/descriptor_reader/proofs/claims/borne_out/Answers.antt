use mathlib.Core.Path.{sym}
use borrow.Author.Tests.{eq-eqb, ne_eqb}
use Rattle.descriptor_raw.specs.Read.{descriptors}
use Rattle.descriptor_reader.proofs.Judged.{configuration_judged, interface_judged, endpoint_judged, other_judged}
use Rattle.descriptor_reader.proofs.claims.borne_out.Goals as goal

pub returns-then-two_bytes-d : goal.returns-then-two_bytes-d
returns-then-two_bytes-d c =
    rw (
      configuration_judged c.args.d.companions _ _ c.kind.ensures c.in-Configuration.is (descriptors c.args.after.bytes.now),
      ← c.two_bytes.ensures,
      ← c.count_bytes.ensures.0,
      eq-eqb _ _ c.if-two_bytes-d.true,
      c.count_interfaces.ensures,
    )

pub returns-else-two_bytes-d : goal.returns-else-two_bytes-d
returns-else-two_bytes-d c =
    rw (
      configuration_judged c.args.d.companions _ _ c.kind.ensures c.in-Configuration.is (descriptors c.args.after.bytes.now),
      ← c.two_bytes.ensures,
      ← c.count_bytes.ensures.0,
      ne_eqb _ _ c.if-two_bytes-d.false,
    )

pub returns-in-Interface : goal.returns-in-Interface
returns-in-Interface c = rw (interface_judged c.args.d.companions _ _ c.kind.ensures c.in-Interface.is (descriptors c.args.after.bytes.now), c.count_endpoints.ensures)

pub returns-in-Endpoint : goal.returns-in-Endpoint
returns-in-Endpoint c = rw (endpoint_judged c.args.d.companions _ _ c.kind.ensures c.in-Endpoint.is (descriptors c.args.after.bytes.now), c.two_bytes-in-Endpoint.ensures)

pub returns-in_default : goal.returns-in_default
returns-in_default c =
    sym (other_judged c.args.d.companions _ _ c.kind.ensures c.in_default.not-Configuration c.in_default.not-Interface c.in_default.not-Endpoint _)
