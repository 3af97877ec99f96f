-- A call across the C boundary: the record comes in a lent buffer as an image, and goes back in it.
use Rattle.std.specs.Prelude.{ℕ, ◌≡◌, Bool, true, false, List}
use Rattle.answer.specs.declared.Answer.TheVariants.{Unusable}
use Rattle.answer.specs.Answered.{answered_of}
use Rattle.device.specs.Left.{Left}
use Rattle.device_image.specs.Image.{encode}
use Rattle.device_image.specs.Fits.{Fits}
use Rattle.answer.specs.declared.Answered.{Answered}

-- What a function returns, and leaves in the four buffers.
pub record Crossed : Type 0 where
  pub answered : Answered
  pub image : List ℕ
  pub ctx : List ℕ
  pub routes : List ℕ
  pub log : List ℕ

abbrev pub crosses : Answered → List ℕ → List ℕ → List ℕ → List ℕ → Crossed
crosses r image ctx routes log = record { answered = r; image = image; ctx = ctx; routes = routes; log = log }

-- Where the buffer holds no record, 12 and nothing changed; else what the call leaves.
unfoldable pub crossed : Bool → Left → List ℕ → List ℕ → List ℕ → List ℕ → Crossed
crossed true left image ctx routes log =
    record {
      answered = answered_of left.answer left.count;
      image = encode left.device;
      ctx = left.ctx;
      routes = left.routes;
      log = left.log;
    }
crossed false left image ctx routes log =
    record { answered = answered_of Unusable 0; image = image; ctx = ctx; routes = routes; log = log }

-- A call across the boundary is what the definition says, and where there was a record, the one left fits its image: the next call reads it back.
pub record CrossedAs (x : Crossed) (ok : Bool) (left : Left) (image ctx routes log : List ℕ) : Type 0 where
  pub equal : x ≡ crossed ok left image ctx routes log
  pub fits : ok ≡ true → Fits left.device
