use mathlib.Core.Path.{◌≡◌, refl, ◌∙◌}
use native.Mathlib.Omega.{arith}
use lib.ListN.{length}
use borrow.Author.Rules.{rules}
use borrow.Author.Tests.{ne_eqb}
use Rattle.device_image.specs.Layout.{GIVEN, WORDS}
use Rattle.device_image.specs.Image.{stored}
use Rattle.device_image.proofs.Laws.{encoded}
use Rattle.device_image.proofs.Steps.{part_written}
use Rattle.std.proofs.lemmas.List.{map-id}
use Rattle.record_ring.specs.Store.{GIVEN-ROOM}
use borrow.Rule.Slice.PartMut.{put_mid}
use lib.Seq.{length-sets}
use Rattle.device_image.proofs.writing.encode.Goals as goal

pub returns-then-image-ne-WORDS : goal.returns-then-image-ne-WORDS
unfolding stored
returns-then-image-ne-WORDS c = (rw (ne_eqb _ _ c.if-image-ne-WORDS.true) refl, λ e. absurd (c.if-image-ne-WORDS.true e))

pub returns : goal.returns
returns c =
    let list = c.put.ensures (λ n. n) (λ n w p. search rules) in
    let whole : length c.put.new.image ≡ WORDS = omega (arith, c.put.auto.image, c.if-image-ne-WORDS.false) in
    let given = part_written GIVEN GIVEN-ROOM c.put.new.image c.copy_from_slice.new.self c.args.d.given c.copy_from_slice.ensures.after (search rules) (omega arith) in
    let size : length (put_mid GIVEN GIVEN-ROOM c.put.new.image c.copy_from_slice.new.self) ≡ WORDS = rw given (length-sets c.put.new.image GIVEN c.args.d.given ∙ whole) in
    let f = c.update.ensures.1 size in
    (encoded c.args.d f c.args.image.now c.if-image-ne-WORDS.false (rw map-id at list) given size c.update.ensures.0, λ e. f)
