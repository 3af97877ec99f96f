use Rattle.std.proofs.Common.{rules, ◌≡◌, ◌+◌, length, arith, refl, get_or, zero-add}
use lib.Dec.{eqb}
use Rattle.record_endpoint.specs.EndpointMap.{handle_of}
use Rattle.record_endpoint.specs.Order.{PLACES}
use Rattle.record_endpoint.specs.Endpoint.{blank}
use Rattle.device_image.specs.Layout.{EP-ADDRESSES, EP-RINGS, EP-REVOKED, EP-INTERFACES, WORDS}
use Rattle.device_image.specs.Image.{endpoints_in, endpoint_in, number_at}
use Rattle.device_image.proofs.Steps.{image_length, image_byte, callable, made, handle_is}
use Rattle.device_image.proofs.reading.endpoints_in.Goals as goal

pub from_fn-requires : goal.from_fn-requires
from_fn-requires c =
    let size : length c.args.image.now ≡ WORDS = image_length _ c.requires in (
      omega arith,
      callable _ _ PLACES (λ i y q k. search rules) (λ i h.
          let byte = image_byte _ c.requires (EP-ADDRESSES + i) (omega arith) (omega arith) in search rules),
    )

pub from_fn-requires-2 : goal.from_fn-requires-2
from_fn-requires-2 c =
    let size : length c.args.image.now ≡ WORDS = image_length _ c.requires in (
      omega arith,
      callable _ _ PLACES (λ i y q k. search rules) (λ i h.
          let byte = image_byte _ c.requires (EP-INTERFACES + i) (omega arith) (omega arith) in search rules),
    )

pub bounds-image-419 : goal.bounds-image-419
bounds-image-419 c = omega (arith, image_length _ c.requires)

pub returns : goal.returns
unfolding endpoints_in endpoint_in number_at
returns c =
    let image = c.args.image.now in
    let eps = made _ _ PLACES (endpoint_in image) 0 (λ i y q k.
    let e : y ≡ record { address = get_or image (EP-ADDRESSES + i) 0; ring = get_or image (EP-RINGS + i) 0; handle = handle_of (eqb (get_or image (EP-REVOKED + i) 0) 0) } = search rules in
    (search rules, rw (e, zero-add, handle_is) refl)) c.from_fn.result c.from_fn.ensures.items blank in
    let owners = made _ _ PLACES (number_at image) EP-INTERFACES (λ i y q k. search rules) c.from_fn-2.result c.from_fn-2.ensures.items 0 in
    rw (eps, owners) refl
