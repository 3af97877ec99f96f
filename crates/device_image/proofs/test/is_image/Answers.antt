use borrow.Author.Rules.{rules}
use borrow.Author.Tests.{ne_eqb}
use Rattle.device_image.specs.Image.{is_image}
use Rattle.device_image.proofs.Bits.{image_tested}
use Rattle.device_image.proofs.test.is_image.Goals as goal

pub returns-then-image-ne-WORDS : goal.returns-then-image-ne-WORDS
unfolding is_image
returns-then-image-ne-WORDS c = rw (ne_eqb _ _ c.if-image-ne-WORDS.true)

pub returns-then-words-lt4294967296 : goal.returns-then-words-lt4294967296
returns-then-words-lt4294967296 c =
    rw (← image_tested c.args.image.now _ _ _ c.if-image-ne-WORDS.false c.bits_of-flags.ensures c.bits_of-bytes.ensures c.bits_of-words.ensures) (search rules)

pub returns-else-words-lt4294967296 : goal.returns-else-words-lt4294967296
returns-else-words-lt4294967296 c =
    rw (← image_tested c.args.image.now _ _ _ c.if-image-ne-WORDS.false c.bits_of-flags.ensures c.bits_of-bytes.ensures c.bits_of-words.ensures) (search rules)
