use Prim.Native.Nat.{ℕ, ◌^◌}
use mathlib.Core.Path.{◌≡◌, refl}
use mathlib.Core.List.{List}
use lib.ListN.{get_or}
use mir.Syntax.{Width, w8, w32}
use mir.Val.{Fits as Fits', bits}
use borrow.Author.Rules.{rules}
use borrow.Author.Tests.{ne_eqb}
use Rattle.laws.specs.Bounds.{Below}
use Rattle.device_image.specs.Image.{stored}
use Rattle.device_image.specs.Fits.{Fits}
use Rattle.device_image.proofs.Laws.{updated}
use Rattle.device_image.proofs.Steps.{endpoints_known, part_written, handle_tag}
use Rattle.std.proofs.lemmas.List.{map-id}
use Rattle.record_ring.specs.Rings.{RING-ROOM}
use Rattle.device_image.specs.Layout.{QUARANTINED, WORDS}
use native.Mathlib.Omega.{arith}
use lib.ListN.{length}
use Rattle.device_image.proofs.writing.update.Goals as goal

below_of : (l : List ℕ) (w : Width) → ((i : ℕ) → Fits' w (get_or l i 0)) → Below (2 ^ bits w) l
below_of l w f i h = (f i).fits

pub returns-then-image-ne-WORDS : goal.returns-then-image-ne-WORDS
unfolding stored
returns-then-image-ne-WORDS c = (λ h. rw (ne_eqb _ _ c.if-image-ne-WORDS.true) refl, λ e. absurd (c.if-image-ne-WORDS.true e))

pub returns : goal.returns
returns c =
    let fits : Fits c.args.d = record {
      slot = search rules;
      max_slots = search rules;
      speed = search rules;
      value = search rules;
      list = (search rules, below_of c.args.d.list w32 (λ i. search rules));
      eps = (search rules, let owned = c.well_formed.0.1.1.1.1.1.1.1.1.1.1.1.1.0 in endpoints_known c.args.d.eps _ owned.1.1);
      owners = (search rules, below_of c.args.d.ep_interfaces w8 (λ i. search rules));
      interfaces = (search rules, below_of c.args.d.interfaces w8 (λ i. search rules));
      alternates = (search rules, below_of c.args.d.alternates w8 (λ i. search rules));
      quarantined = search rules;
      given = search rules;
    } in
    let a = c.put.ensures (λ n. n) (λ n w p. search rules) in
    let b = c.put-2.ensures (λ n. n) (λ n w p. search rules) in
    let size : length c.put-2.new.image ≡ WORDS = omega (arith, c.put_endpoints.auto.image, c.put.auto.image, c.put-2.auto.image, c.if-image-ne-WORDS.false) in (
      λ s. updated c.args.d fits c.args.image.now c.if-image-ne-WORDS.false s c.put_endpoints.ensures (rw map-id at a) (rw map-id at b)
          (part_written QUARANTINED RING-ROOM _ _ c.args.d.quarantined c.copy_from_slice.ensures.after fits.quarantined (omega arith)) (handle_tag c.args.d.control_handle),
      λ e. fits,
    )
