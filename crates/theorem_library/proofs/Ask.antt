-- Ask and commit through the exported functions.
use Prim.Native.Nat.{ℕ, ◌≤◌, ◌<◌}
use mathlib.Core.Path.{◌≡◌, refl, sym, ap, ◌∙◌}
use mathlib.Core.Logic.{inl, inr}
use mathlib.Core.Bool.{true, false}
use mathlib.Core.List.{List, [], ◌∷◌, ◌++◌}
use native.Mathlib.Omega.{arith}
use borrow.Author.Tests.{ne_eqb, ltb-true}
use lib.Dec.{ltb}
use lib.ListN.{length, take, drop}
use Rattle.laws.proofs.Cases.{Decided, decided, false_if}
use Rattle.answer.specs.declared.Answer.{Answer}
use Rattle.answer.specs.declared.Answer.TheVariants as answer
use Rattle.answer.specs.Answer.{number, is_accepted}
use Rattle.answer.specs.Answered.{answered_of}
use Rattle.device.specs.declared.record.Device.{Device}
use Rattle.device.specs.Left.{Left, refused}
use Rattle.device.specs.Claim.{claim}
use Rattle.device.specs.Ask.{Ask, asking, no_ask, ask, commit}
use Rattle.device_image.specs.Image.{decode, is_image}
use Rattle.device_image.specs.Fits.{Fits}
use Rattle.device_image.proofs.Laws.{image_encode, decode_encode}
use Rattle.xhci_device.specs.declared.ask.Shown.{Shown}
use Rattle.xhci_device.specs.Ask.{log_room, asked_in, shown_of, in_front}
use Rattle.xhci_device.specs.Crossed.{Crossed, crossed, CrossedAs}
use Rattle.theorem_slot.specs.Call.{Buffers}
use Rattle.theorem_ask.proofs.Promises.{ask_promise}
use Rattle.theorem_checks.proofs.Checks.{ask_zero}
use Rattle.theorem_library.specs.Ask.{Asks, Commits, Claims, Untouched, ShownTells, LibraryAsk}

front_of : (rings rest : List ℕ) → take (length rings) (rings ++ rest) ≡ rings
front_of [] rest = refl
front_of (r ∷ rings) rest = ap (λ (t : List ℕ). r ∷ t) (front_of rings rest)

enough : (n : ℕ) → 30 ≤ n → ltb n 30 ≡ false
enough n h = false_if (ltb n 30) (λ e. let l : n < 30 = ltb-true n 30 e in omega arith)

-- What a refused call leaves across the boundary.
module _ (image : List ℕ) (b : Buffers) (routes : List ℕ) (y : Crossed) where
  pub refused_there : (z : Answer) (l : Left) → is_image image ≡ true → l ≡ refused (decode image) z b.ctx routes b.log →
      CrossedAs y (is_image image) l image b.ctx routes b.log → Untouched image b routes (number z) y
  unfolding crossed answered_of refused
  refused_there z l e same k =
      let left = refused (decode image) z b.ctx routes b.log in
      let is : y ≡ crossed true left image b.ctx routes b.log =
      k.equal ∙ ap (λ c. crossed c l image b.ctx routes b.log) e ∙ ap (λ (m : Left). crossed true m image b.ctx routes b.log) same in
      let fits : Fits (decode image) = rw same at (k.fits e) in
      record {
        answer = ap (λ (x : Crossed). x.answered.answer) is;
        count = ap (λ (x : Crossed). x.answered.count) is;
        image_stays = e ∙ sym (ap (λ (x : Crossed). is_image x.image) is ∙ image_encode (decode image) fits);
        device = ap (λ (x : Crossed). decode x.image) is ∙ decode_encode (decode image) fits;
        ctx = ap (λ (x : Crossed). x.ctx) is;
        routes_stay = ap (λ (x : Crossed). x.routes) is;
        log = ap (λ (x : Crossed). x.log) is;
      }

  refused_nowhere : (l : Left) → is_image image ≡ false → CrossedAs y (is_image image) l image b.ctx routes b.log →
      Untouched image b routes (number answer.Unusable) y
  unfolding crossed answered_of
  refused_nowhere l e k =
      let is : y ≡ crossed false l image b.ctx routes b.log = k.equal ∙ ap (λ c. crossed c l image b.ctx routes b.log) e in
      record {
        answer = ap (λ (x : Crossed). x.answered.answer) is;
        count = ap (λ (x : Crossed). x.answered.count) is;
        image_stays = sym (ap (λ (x : Crossed). is_image x.image) is);
        device = ap (λ (x : Crossed). decode x.image) is;
        ctx = ap (λ (x : Crossed). x.ctx) is;
        routes_stay = ap (λ (x : Crossed). x.routes) is;
        log = ap (λ (x : Crossed). x.log) is;
      }

module _ (image : List ℕ) (b : Buffers) (routes : List ℕ) (i a : ℕ) (lent : List ℕ) (shown : Shown) (rings : List ℕ)
    (room : 30 ≤ length lent) (asks : Asks image (length b.ctx) (length routes) (length b.log) i a lent shown rings) where
  abbrev d : Device
  d = decode image

  abbrev r : Answer × Ask
  r = ask d (length b.ctx) (length routes) (length b.log) i a

  -- What was asked, of a buffer that holds a record and of one that holds none.
  there : is_image image ≡ true → asked_in image (length b.ctx) (length routes) (length b.log) i a (length lent) ≡ r
  unfolding asked_in log_room
  there e = rw (e, enough (length lent) room)

  nowhere : is_image image ≡ false → asked_in image (length b.ctx) (length routes) (length b.log) i a (length lent) ≡ (answer.Unusable, no_ask)
  unfolding asked_in
  nowhere e = rw e

  -- What is shown with a record is the ask.
  answer_there : is_image image ≡ true → shown.answer ≡ number r.0
  unfolding shown_of
  answer_there e = ap (λ (s : Shown). s.answer) asks.returned ∙ ap (λ (x : Answer × Ask). number x.0) (there e)

  shown_there : is_image image ≡ true → asking shown.interface shown.alternate shown.drops shown.adds (take shown.count rings) ≡ r.1
  unfolding shown_of in_front
  shown_there e =
      rw (asks.returned, asks.written, there e)
      (ap (λ (l : List ℕ). asking r.1.interface r.1.alternate r.1.drops r.1.adds l) (front_of r.1.rings (drop (length r.1.rings) lent)))

  same_there : is_image image ≡ true → (x y : Crossed) → shown.answer ≡ 0 → Commits image b routes shown rings x → Claims image b routes i a y → x ≡ y
  same_there e x y z c k =
      let accepted = ask_zero d (length b.ctx) (length routes) (length b.log) i a (sym (answer_there e) ∙ z) in
      let same : commit d b.ctx routes b.log b.outcomes r.1 ≡ claim d b.ctx routes b.log b.outcomes i a =
      (ask_promise d b.ctx routes b.log b.outcomes i a).accepted accepted in
      c.equal
      ∙ ap (λ (l : Left). crossed (is_image image) l image b.ctx routes b.log)
      (ap (λ p. commit d b.ctx routes b.log b.outcomes p) (shown_there e) ∙ same)
      ∙ sym k.equal

  answer_nowhere : is_image image ≡ false → shown.answer ≡ number answer.Unusable
  unfolding shown_of
  answer_nowhere e = ap (λ (s : Shown). s.answer) asks.returned ∙ ap (λ (x : Answer × Ask). number x.0) (nowhere e)

  same_either : Decided (is_image image) → (x y : Crossed) → shown.answer ≡ 0 → Commits image b routes shown rings x → Claims image b routes i a y → x ≡ y
  unfolding number
  same_either (inl e) x y z c k = same_there e x y z c k
  same_either (inr e) x y z c k = absurd (omega (arith, z, answer_nowhere e))

  refused_either : Decided (is_image image) → (y : Crossed) → (shown.answer ≡ 0 → ⊥) → Claims image b routes i a y → Untouched image b routes shown.answer y
  refused_either (inl e) y n k =
      let not_zero : is_accepted r.0 ≡ false = ne_eqb (number r.0) 0 (λ z. n (answer_there e ∙ z)) in
      rw (answer_there e) (refused_there image b routes y r.0 _ e ((ask_promise d b.ctx routes b.log b.outcomes i a).claims not_zero) k)
  refused_either (inr e) y n k = rw (answer_nowhere e) (refused_nowhere image b routes y _ e k)

  shown_tells : ShownTells image b routes i a shown rings
  shown_tells = record { same = same_either (decided (is_image image)); refused = refused_either (decided (is_image image)) }

pub library_ask : LibraryAsk
library_ask image b routes i a lent shown rings room asks = shown_tells image b routes i a lent shown rings room asks
