use mathlib.Core.Path.{refl}
use Rattle.record_endpoint.specs.EndpointMap.{no_endpoints}
use Rattle.record_endpoint.proofs.endpoint_map.no_endpoints.Goals as goal

pub returns : goal.returns
unfolding no_endpoints
returns c = refl
