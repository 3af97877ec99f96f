-- The rings that a slot's controller may hold, over lists of calls of the exported functions.
use Rattle.std.specs.Prelude.{ℕ, ◌≡◌, Bool, true, false, List, ◌∷◌, length}
use Rattle.laws.specs.Distinct.{elem}
use Rattle.answer.specs.declared.Answer.TheVariants as answer
use Rattle.course_init.specs.Reading.{BringUp}
use Rattle.device.specs.Device.{free_of}
use Rattle.device_image.specs.Image.{decode}
use Rattle.device_image.specs.Layout.{WORDS}
use Rattle.xhci_device.specs.Crossed.{Crossed}
use Rattle.theorem_slot.specs.Answers.{is_bring_up}
use Rattle.theorem_slot.specs.Call.{Buffers, Asked, left}
use Rattle.theorem_slot.specs.Rings.{first}
use Rattle.theorem_slot.specs.Theorem.{Between}
use Rattle.theorem_doubt.specs.Doubt.{Watched, watched_after, unborn, AllGiven64, RoutesHeld}
use Rattle.theorem_library.specs.Library.{Exchange, Meets, Exchanges, image_end, table_end, turns_of, brings}

-- No ring that the controller may hold is free, in the groups that the plain slot works out from the calls, nor, while the record that
-- the caller has is up, in its own; while it is usable, nothing is in doubt; and no call on what he has is answered with 18.
pub record DoubtAcross (slot : ℕ) (image routes : List ℕ) (w : Watched) : Type 0 where
  pub free : (d : ℕ) → (w.rings d ≡ 0 → ⊥) → w.state.plain.groups.free (w.rings d) ≡ false
  pub drawn : (decode image).up ≡ true → (d : ℕ) → (w.rings d ≡ 0 → ⊥) → elem (w.rings d) (free_of (decode image)) ≡ false
  pub held : (decode image).usable ≡ true → RoutesHeld w
  pub matched :
      (asked : Asked) (l : Buffers) (still : ℕ → Bool) (table : List ℕ) → is_bring_up asked ≡ false → Between slot still routes table →
      (left asked l (decode image) table).answer ≡ answer.InvalidEndpoint → ⊥

-- A bring-up, whatever it answers, on a slot whose controller holds no ring, whatever its words hold; whatever calls follow; and every
-- choice of the unanswered commands that acted.
abbrev pub LibraryDoubt : Type 0
LibraryDoubt =
    (b : BringUp) (l : Buffers) (image routes : List ℕ) (x : Crossed) (still took : ℕ → Bool) (es : List Exchange) →
    AllGiven64 (first b l routes ∷ turns_of es) →
    length image ≡ WORDS →
    Meets (brings b l image routes x) →
    Exchanges b.slot still x.image x.routes es →
    DoubtAcross b.slot (image_end x.image es) (table_end x.routes es) (watched_after took (unborn routes) (first b l routes ∷ turns_of es))
