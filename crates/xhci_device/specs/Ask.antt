-- An ask across the C boundary: it reads the image, and its rings go to lent words.
use Rattle.std.specs.Prelude.{ℕ, cond, List, ◌++◌, ltb, length, drop}
use Rattle.answer.specs.declared.Answer.{Answer}
use Rattle.answer.specs.declared.Answer.TheVariants.{Unusable}
use Rattle.answer.specs.Answer.{number}
use Rattle.device.specs.Ask.{Ask, no_ask, ask}
use Rattle.device_image.specs.Image.{decode, is_image}
use Rattle.xhci_device.specs.declared.ask.Shown.{Shown}

-- How many words are lent for rings, at least.
abbrev pub ASK-RINGS : ℕ
ASK-RINGS = 30

-- Fewer get 3 where it stands among the checks, as too short a log does.
unfoldable pub log_room : ℕ → ℕ → ℕ
log_room log words = cond (ltb words ASK-RINGS) 0 log

-- Where the buffer holds no record, 12; else what the record's ask returns.
unfoldable pub asked_in : List ℕ → ℕ → ℕ → ℕ → ℕ → ℕ → ℕ → Answer × Ask
asked_in image ctx routes log interface alternate words =
    cond (is_image image) (ask (decode image) ctx routes (log_room log words) interface alternate) (Unusable, no_ask)

unfoldable pub shown_of : Answer × Ask → Shown
shown_of x =
    record {
      answer = number x.0;
      interface = x.1.interface;
      alternate = x.1.alternate;
      drops = x.1.drops;
      adds = x.1.adds;
      count = length x.1.rings;
    }

-- Lent words with rings in front: what is past them stays.
unfoldable pub in_front : List ℕ → List ℕ → List ℕ
in_front rings words = rings ++ drop (length rings) words
