use mathlib.Core.Path.{refl}
use Rattle.descriptor.specs.declared.WordKind.TheVariants.{Configuration, Alternate, Endpoint}
use Rattle.descriptor.proofs.Kind.{kind_in, kind_none}
use Rattle.descriptor_writer.proofs.Claiming.{companion_left}
use Rattle.descriptor_writer.proofs.Placed.{put_configuration, put_interface, put_endpoint, put_companion, endpoints_small, packets_some}
use Rattle.descriptor_writer.proofs.put.put_descriptor.Goals as goal

pub interface_descriptor-d-requires : goal.interface_descriptor-d-requires
interface_descriptor-d-requires c = endpoints_small _ _ _ _ c.requires c.count_endpoints.ensures.1

pub endpoint_of-requires : goal.endpoint_of-requires
endpoint_of-requires c =
    packets_some _ _ _ c.requires (kind_in _ _ c.word_kind.ensures c.in-Some-Endpoint.is c.in-Some-Endpoint.field-0-is)

pub returns-in-Some-Configuration : goal.returns-in-Some-Configuration
returns-in-Some-Configuration c =
    rw c.copy_from_slice.ensures.after
    (put_configuration _ _ _ c.requires _ _ refl
    (kind_in _ _ c.word_kind.ensures c.in-Some-Configuration.is c.in-Some-Configuration.field-0-is)
    _ c.claims_after-c.ensures _ c.configuration_value-value.ensures c.configuration_descriptor-d.ensures)

pub returns-in-Some-Alternate : goal.returns-in-Some-Alternate
returns-in-Some-Alternate c =
    rw c.copy_from_slice-in-Some-Alternate.ensures.after
    (put_interface _ _ _ c.requires _ _ refl
    (kind_in _ _ c.word_kind.ensures c.in-Some-Alternate.is c.in-Some-Alternate.field-0-is)
    _ _ _ c.count_endpoints.ensures.0 c.interface_number-interface.ensures c.alternate_setting-alternate.ensures c.interface_descriptor-d.ensures)

pub returns-in-Some-Endpoint : goal.returns-in-Some-Endpoint
returns-in-Some-Endpoint c =
    rw c.copy_from_slice-in-Some-Endpoint.ensures.after
    (put_endpoint _ _ _ c.requires _ _ refl
    (kind_in _ _ c.word_kind.ensures c.in-Some-Endpoint.is c.in-Some-Endpoint.field-0-is)
    c.endpoint_of.ensures)

pub returns-in-None : goal.returns-in-None
returns-in-None c =
    let other = kind_none _ _ c.word_kind.ensures c.in-None.is in
    rw c.copy_from_slice-in-None.ensures.after
    (put_companion _ _ _ c.requires _ _ refl (companion_left _ (other Configuration) (other Alternate) (other Endpoint)) c.companion_of.ensures)
