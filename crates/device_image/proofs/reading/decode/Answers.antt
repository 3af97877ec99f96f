use mathlib.Core.Path.{◌≡◌, refl, sym, ap, ◌∙◌}
use mathlib.Core.Bool.{Bool, false, cond}
use mathlib.Core.List.{List, []}
use Prim.Native.Nat.{ℕ, ◌+◌}
use native.Mathlib.Omega.{arith}
use borrow.Author.Rules.{rules}
use lib.ListN.{length}
use Rattle.record_endpoint.specs.EndpointMap.{tabulated}
use Rattle.device.specs.Device.{rebuilt, no_device}
use Rattle.descriptor_list.specs.Valid.{LIST-ROOM}
use Rattle.record_ring.specs.Rings.{RING-ROOM}
use Rattle.record_ring.specs.Store.{GIVEN-ROOM}
use Rattle.record_settings.specs.Held.{HELD-ROOM}
use Rattle.device_image.specs.Layout.{SLOT, MAX-SLOTS, PORT-SPEED, CURRENT-CONFIG-VALUE, INTERFACES, ALTERNATES, LIST, QUARANTINED, GIVEN, WORDS}
use Rattle.device_image.specs.Image.{is_set, handle_in, number_at, endpoint_in, read, is_image, decode}
use Rattle.device_image.proofs.Steps.{image_length, image_byte, image_word, callable, made, handle_is, read_of}
use Rattle.device_image.proofs.reading.decode.Goals as goal

zeros : no_device ≡ read []
unfolding no_device read is_set handle_in number_at endpoint_in tabulated
zeros = refl

none : (l : List ℕ) → is_image l ≡ false → no_device ≡ decode l
unfolding decode
none l e = zeros ∙ ap (λ (b : Bool). read (cond b l [])) (sym e)

pub returns-then-not-is_image : goal.returns-then-not-is_image
returns-then-not-is_image c =
    c.no_device.ensures
    ∙ none _ (sym c.is_image.ensures ∙ c.if-not-is_image.true)

pub overflow_cast-result : goal.overflow_cast-result
overflow_cast-result c = omega (arith, image_byte _ (sym c.is_image.ensures ∙ c.if-not-is_image.false) SLOT (omega arith) (omega arith))

pub overflow_cast-result-2 : goal.overflow_cast-result-2
overflow_cast-result-2 c = omega (arith, image_byte _ (sym c.is_image.ensures ∙ c.if-not-is_image.false) MAX-SLOTS (omega arith) (omega arith))

pub overflow_cast-result-3 : goal.overflow_cast-result-3
overflow_cast-result-3 c = omega (arith, image_byte _ (sym c.is_image.ensures ∙ c.if-not-is_image.false) PORT-SPEED (omega arith) (omega arith))

pub overflow_cast-result-4 : goal.overflow_cast-result-4
overflow_cast-result-4 c = omega (arith, image_byte _ (sym c.is_image.ensures ∙ c.if-not-is_image.false) CURRENT-CONFIG-VALUE (omega arith) (omega arith))

pub from_fn-requires : goal.from_fn-requires
from_fn-requires c =
    let size : length c.args.image.now ≡ WORDS = image_length _ (sym c.is_image.ensures ∙ c.if-not-is_image.false) in (
      omega arith,
      callable _ _ LIST-ROOM (λ i y q k. search rules) (λ i h.
          let fits = image_word _ (sym c.is_image.ensures ∙ c.if-not-is_image.false) (LIST + i) (omega arith) (omega arith) in search rules),
    )

pub from_fn-requires-2 : goal.from_fn-requires-2
from_fn-requires-2 c =
    let size : length c.args.image.now ≡ WORDS = image_length _ (sym c.is_image.ensures ∙ c.if-not-is_image.false) in (
      omega arith,
      callable _ _ HELD-ROOM (λ i y q k. search rules) (λ i h.
          let fits = image_byte _ (sym c.is_image.ensures ∙ c.if-not-is_image.false) (INTERFACES + i) (omega arith) (omega arith) in search rules),
    )

pub from_fn-requires-3 : goal.from_fn-requires-3
from_fn-requires-3 c =
    let size : length c.args.image.now ≡ WORDS = image_length _ (sym c.is_image.ensures ∙ c.if-not-is_image.false) in (
      omega arith,
      callable _ _ HELD-ROOM (λ i y q k. search rules) (λ i h.
          let fits = image_byte _ (sym c.is_image.ensures ∙ c.if-not-is_image.false) (ALTERNATES + i) (omega arith) (omega arith) in search rules),
    )

pub from_fn-requires-4 : goal.from_fn-requires-4
from_fn-requires-4 c =
    let size : length c.args.image.now ≡ WORDS = image_length _ (sym c.is_image.ensures ∙ c.if-not-is_image.false) in (
      omega arith,
      callable _ _ RING-ROOM (λ i y q k. search rules) (λ i h.
          search rules),
    )

pub from_fn-requires-5 : goal.from_fn-requires-5
from_fn-requires-5 c =
    let size : length c.args.image.now ≡ WORDS = image_length _ (sym c.is_image.ensures ∙ c.if-not-is_image.false) in (
      omega arith,
      callable _ _ GIVEN-ROOM (λ i y q k. search rules) (λ i h.
          search rules),
    )

pub returns : goal.returns
unfolding rebuilt is_set handle_in number_at
returns c =
    let image = sym c.is_image.ensures ∙ c.if-not-is_image.false in
    let said = number_at c.args.image.now in
    read_of c.args.image.now
    (made _ _ LIST-ROOM said LIST (λ i y q k. search rules) _ c.from_fn.ensures.items 0)
    c.endpoints_in-count.ensures
    (made _ _ HELD-ROOM said INTERFACES (λ i y q k. search rules) _ c.from_fn-2.ensures.items 0)
    (made _ _ HELD-ROOM said ALTERNATES (λ i y q k. search rules) _ c.from_fn-3.ensures.items 0)
    (c.from.ensures ∙ handle_is _)
    (made _ _ RING-ROOM said QUARANTINED (λ i y q k. search rules) _ c.from_fn-4.ensures.items 0)
    (made _ _ GIVEN-ROOM said GIVEN (λ i y q k. search rules) _ c.from_fn-5.ensures.items 0) image
