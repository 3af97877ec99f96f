-- The ends of a call across the boundary.
use Prim.Native.Nat.{ℕ}
use mathlib.Core.Path.{◌≡◌, refl, sym, ap, subst, ◌∙◌}
use mathlib.Core.Bool.{Bool, true, false, cond, ◌&&◌}
use mathlib.Core.List.{List, []}
use lib.Dec.{eqb}
use lib.ListN.{length}
use borrow.Author.Tests.{eq-eqb, ne_eqb, eqb-true}
use Rattle.laws.proofs.Tests.{not_both}
use Rattle.answer.specs.declared.Answer.{Answer}
use Rattle.answer.specs.declared.Answer.TheVariants.{Unusable}
use Rattle.std.specs.Prelude.{Ok, Err}
use Rattle.answer.specs.Check.{Check, Refuse}
use Rattle.answer.specs.Answer.{is_accepted, is_broken, is_lost}
use Rattle.course_steps.specs.End.{End}
use Rattle.device.specs.declared.record.Device.{Device}
use Rattle.device.specs.declared.record.Called.{Called}
use Rattle.device.specs.Device.{with_endpoints, with_held, with_configuration, with_quarantined, quarantines, unusable}
use Rattle.device.specs.Sound.{slot_sound, sound}
use Rattle.device.specs.Check.{record_check, disconnect_check}
use Rattle.device.specs.Left.{Left, leaves, refused, marked, ended}
use Rattle.device.specs.Calls.{on_check, hub_left, hub_update}
use Rattle.device.specs.Claim.{drawn, claim_record, claim}
use Rattle.device.specs.Ask.{Ask, ask_check, commit}
use Rattle.device.specs.Release.{release_record, release}
use Rattle.device.specs.SetConfiguration.{bare, ended_by, set_record, set_configuration}
use Rattle.device.specs.Disconnect.{all_revoked, unplugged, disconnect_record, disconnect}
use Rattle.device.proofs.Unsent.{claim_unsent, commit_unsent, release_unsent, set_unsent, hub_unsent, disconnect_unsent}
use Rattle.device_image.specs.Layout.{WORDS}
use Rattle.device_image.specs.Image.{encode, FixedIn, stored, is_set, read, is_image, decode}
use Rattle.device_image.specs.Fits.{Fits}
use Rattle.device_image.proofs.Laws.{image_length, encode_decode, fits_decode}
use Rattle.answer.specs.declared.Answered.{Answered}
use Rattle.answer.specs.Answered.{answered_of}
use Rattle.xhci_device.specs.Crossed.{Crossed, crosses, crossed, CrossedAs}

-- A test that fails on a record of zeros holds of images only.
pub only_image : (f : Device → Bool) → f (read []) ≡ false → (l : List ℕ) → f (decode l) ≡ (is_image l && f (decode l))
unfolding decode
only_image f e l = go (is_image l)
  where
    go : (b : Bool) → f (read (cond b l [])) ≡ (b && f (read (cond b l [])))
    go true = refl
    go false = e

pub zeros_unusable : (read []).usable ≡ false
unfolding read is_set
zeros_unusable = refl

pub zeros_not_up : (read []).up ≡ false
unfolding read is_set
zeros_not_up = refl

pub zeros_unsound : sound (read []) ≡ false
unfolding read sound slot_sound
zeros_unsound = refl

pub zeros_slot : (l : List ℕ) → is_image l ≡ false → (decode l).slot.0 ≡ 0
unfolding decode read
zeros_slot l e = rw e

-- The slot, the list and the given rings, which no call changes.
abbrev fixed : Device → ℕ × List ℕ × List ℕ
fixed d = (d.slot.0, d.list, d.given)

-- A call keeps these, and the whole record where it logs no word; it refuses a record of slot 0.
pub record Keeps (d : Device) (ctx routes log : List ℕ) (left : Left) : Type 0 where
  pub same : fixed left.device ≡ fixed d
  pub unsent : left.count ≡ 0 → left.device ≡ d
  pub none : d.slot.0 ≡ 0 → left ≡ refused d Unusable ctx routes log

none_sound : (mark : Bool) (d : Device) → d.slot.0 ≡ 0 → (mark && sound d) ≡ false
unfolding sound slot_sound
none_sound mark d e = rw e (go mark)
  where
    go : (b : Bool) → (b && false) ≡ false
    go true = refl
    go false = refl

pub none_passed : (d : Device) (m n k : ℕ) (next : Check) → d.slot.0 ≡ 0 → record_check d m n k next ≡ Refuse Unusable
unfolding record_check
none_passed d m n k next e = rw (none_sound d.usable d e)

none_disconnected : (d : Device) (m n k : ℕ) → d.slot.0 ≡ 0 → disconnect_check d m n k ≡ Refuse Unusable
unfolding disconnect_check
none_disconnected d m n k e = rw (none_sound d.up d e)

checked :
    (d : Device) (ctx routes log : List ℕ) (c : Check) (left : Left) → (d.slot.0 ≡ 0 → c ≡ Refuse Unusable) → fixed left.device ≡ fixed d →
    ((on_check c left (λ a. refused d a ctx routes log)).count ≡ 0 → (on_check c left (λ a. refused d a ctx routes log)).device ≡ d) →
    Keeps d ctx routes log (on_check c left (λ a. refused d a ctx routes log))
unfolding on_check refused
checked d ctx routes log c left h e u = record { same = go c; unsent = u; none = λ z. rw (h z) refl }
  where
    go : (c : Check) → fixed (on_check c left (λ a. refused d a ctx routes log)).device ≡ fixed d
    go (Ok _) = e
    go (Err a) = refl

marked_fixed : (a : Answer) (d : Device) → fixed (marked a d) ≡ fixed d
unfolding marked unusable
marked_fixed a d = go (is_lost a)
  where
    go : (b : Bool) → fixed (cond b (unusable d) d) ≡ fixed d
    go true = refl
    go false = refl

cond_fixed :
    (b : Bool) (x y d : Device) → fixed x ≡ fixed d → fixed y ≡ fixed d → fixed (cond b x y) ≡ fixed d
cond_fixed true x y d e f = e
cond_fixed false x y d e f = f

claim_fixed : (d : Device) (i a : ℕ) (rings : List ℕ) (e : End) → fixed (claim_record d i a rings e) ≡ fixed d
unfolding claim_record quarantines with_held with_endpoints with_quarantined
claim_fixed d i a rings e =
    marked_fixed e.answer _ ∙ cond_fixed e.moved _ _ d refl (cond_fixed (e.doubted && is_lost e.answer) _ _ d refl refl)

release_fixed : (d : Device) (i : ℕ) (e : End) → fixed (release_record d i e) ≡ fixed d
unfolding release_record with_held with_endpoints
release_fixed d i e = marked_fixed e.answer _ ∙ cond_fixed e.moved _ _ d refl refl

set_fixed : (d : Device) (value : ℕ) (e : End) → fixed (set_record d value e) ≡ fixed d
unfolding set_record bare ended_by quarantines with_configuration with_held with_endpoints with_quarantined
set_fixed d value e =
    marked_fixed e.answer _
    ∙ cond_fixed e.moved _ _ d (cond_fixed (is_accepted e.answer) _ _ d refl (cond_fixed (is_lost e.answer) _ _ d refl refl)) refl

disconnect_fixed : (d : Device) (e : End) → fixed (disconnect_record d e) ≡ fixed d
unfolding disconnect_record unplugged quarantines with_quarantined all_revoked
disconnect_fixed d e =
    cond_fixed e.moved _ _ d refl (marked_fixed e.answer _ ∙ cond_fixed (is_broken e.answer) _ _ d refl refl)

module _ (d : Device) (ctx routes log outcomes : List ℕ) where
  pub claim_keeps : (i a : ℕ) → Keeps d ctx routes log (claim d ctx routes log outcomes i a)
  unfolding claim ended
  claim_keeps i a = checked d ctx routes log _ _ (none_passed d _ _ _ _) (claim_fixed d i a (drawn d i a) _) (claim_unsent d ctx routes log outcomes i a)

  pub commit_keeps : (p : Ask) → Keeps d ctx routes log (commit d ctx routes log outcomes p)
  unfolding commit ask_check ended
  commit_keeps p =
      checked d ctx routes log _ _ (none_passed d _ _ _ _) (claim_fixed d p.interface p.alternate (drawn d p.interface p.alternate) _)
      (commit_unsent d ctx routes log outcomes p)

  pub release_keeps : (i : ℕ) → Keeps d ctx routes log (release d ctx routes log outcomes i)
  unfolding release ended
  release_keeps i = checked d ctx routes log _ _ (none_passed d _ _ _ _) (release_fixed d i _) (release_unsent d ctx routes log outcomes i)

  pub set_keeps : (value : ℕ) → Keeps d ctx routes log (set_configuration d ctx routes log outcomes value)
  unfolding set_configuration ended
  set_keeps value = checked d ctx routes log _ _ (none_passed d _ _ _ _) (set_fixed d value _) (set_unsent d ctx routes log outcomes value)

  pub hub_keeps : (ports : ℕ) (multi : Bool) (ns : ℕ) → Keeps d ctx routes log (hub_update d ctx routes log outcomes ports multi ns)
  unfolding hub_update hub_left
  hub_keeps ports multi ns = checked d ctx routes log _ _ (none_passed d _ _ _ _) (marked_fixed _ d) (hub_unsent d ctx routes log outcomes ports multi ns)

  pub disconnect_keeps : Keeps d ctx routes log (disconnect d ctx routes log outcomes)
  unfolding disconnect ended
  disconnect_keeps = checked d ctx routes log _ _ (none_disconnected d _ _ _) (disconnect_fixed d _) (disconnect_unsent d ctx routes log outcomes)

-- What a call leaves, beside an image.
abbrev beside : Left → List ℕ → Crossed
beside l image =
    record { answered = answered_of l.answer l.count; image = image; ctx = l.ctx; routes = l.routes; log = l.log }

-- A call on a record.
module _ (d : Device) (image ctx routes log : List ℕ) (left : Left) (e : d ≡ decode image) (k : Keeps d ctx routes log left) where
  no_slot : is_image image ≡ false → left ≡ refused d Unusable ctx routes log
  no_slot i = k.none (ap (λ (c : Device). c.slot.0) e ∙ zeros_slot image i)

  unsent : left.count ≡ 0 → (b : Bool) → is_image image ≡ b → CrossedAs (beside left image) b left image ctx routes log
  unfolding crossed refused
  unsent z true i =
      let same : left.device ≡ decode image = k.unsent z ∙ e in
      record {
        equal = ap (beside left) (sym (ap encode same ∙ encode_decode image i));
        fits = λ t. rw same (fits_decode image);
      }
  unsent z false i = record { equal = rw (no_slot i) refl; fits = λ t. not_both true refl (sym t) }

  -- Where a word was logged, the buffer held a record.
  is_image_lem : eqb left.count 0 ≡ false → (b : Bool) → is_image image ≡ b → b ≡ true
  unfolding refused
  is_image_lem z true i = refl
  is_image_lem z false i = not_both (eqb left.count 0) (eq-eqb left.count 0 (ap (λ (l : Left). l.count) (no_slot i))) z

  fixed_in : is_image image ≡ true → FixedIn left.device image
  unfolding decode
  fixed_in i =
      let same : fixed left.device ≡ fixed (read image) =
      k.same ∙ ap fixed e ∙ ap (λ (b : Bool). fixed (read (cond b image []))) i in
      record { list = ap (λ s. s.1) same; given = ap (λ s. s.2) same }

  write :
      is_image image ≡ true → (length image ≡ WORDS → Fits left.device) →
      CrossedAs (beside left (stored left.device image)) (is_image image) left image ctx routes log
  unfolding crossed stored
  write i f =
      let size = image_length image i in
      record { equal = rw (i, eq-eqb (length image) WORDS size) refl; fits = λ t. f size }

  after :
      (b : Bool) → eqb left.count 0 ≡ b → (b ≡ false → length image ≡ WORDS → Fits left.device) →
      CrossedAs (beside left (cond b image (stored left.device image))) (is_image image) left image ctx routes log
  after true z f = unsent (eqb-true left.count 0 z) (is_image image) refl
  after false z f = write (is_image_lem z (is_image image) refl) (f refl)

  pub cross :
      (called : Called) (r : Answered) (image' ctx' routes' log' : List ℕ) → leaves called ctx' routes' log' ≡ left →
      r ≡ answered_of called.answer called.count →
      ((eqb called.count 0 ≡ false → FixedIn called.device image) →
      image' ≡ cond (eqb called.count 0) image (stored called.device image)) →
      (eqb called.count 0 ≡ false → length image ≡ WORDS → Fits called.device) →
      CrossedAs (crosses r image' ctx' routes' log') (is_image image) left image ctx routes log
  cross called r image' ctx' routes' log' q a i f =
      let same : called.device ≡ left.device = ap (λ (l : Left). l.device) q in
      let count : called.count ≡ left.count = ap (λ (l : Left). l.count) q in
      let kept : eqb called.count 0 ≡ false → FixedIn called.device image =
      λ z. rw same (fixed_in (is_image_lem (ap (λ (n : ℕ). eqb n 0) (sym count) ∙ z) (is_image image) refl)) in
      let g : eqb left.count 0 ≡ false → length image ≡ WORDS → Fits left.device =
      λ z h. subst Fits same (f (ap (λ (n : ℕ). eqb n 0) count ∙ z) h) in
      let new : image' ≡ cond (eqb left.count 0) image (stored left.device image) =
      i kept ∙ ap (λ (c : Device). cond (eqb called.count 0) image (stored c image)) same
      ∙ ap (λ (n : ℕ). cond (eqb n 0) image (stored left.device image)) count in
      let whole : crosses r image' ctx' routes' log' ≡ beside left (cond (eqb left.count 0) image (stored left.device image)) =
      rw (a, new) (ap (λ (l : Left). beside l (cond (eqb left.count 0) image (stored left.device image))) q) in
      subst (λ (x : Crossed). CrossedAs x (is_image image) left image ctx routes log) (sym whole)
      (after (eqb left.count 0) refl g)

-- A bring-up, which asks for the words of an image only.
module _ (left : Left) (image ctx routes log : List ℕ) where
  pub made_none :
      (r : Answered) → (length image ≡ WORDS → ⊥) → r ≡ answered_of Unusable 0 →
      CrossedAs (crosses r image ctx routes log) (eqb (length image) WORDS) left image ctx routes log
  unfolding crossed
  made_none r e q =
      let none : eqb (length image) WORDS ≡ false = ne_eqb (length image) WORDS e in
      record { equal = rw (none, q) refl; fits = λ t. not_both (eqb (length image) WORDS) t none }

  pub made :
      (called : Called) (r : Answered) (image' ctx' routes' log' : List ℕ) → length image ≡ WORDS →
      leaves called ctx' routes' log' ≡ left → r ≡ answered_of called.answer called.count →
      (image' ≡ stored called.device image) × (length image ≡ WORDS → Fits called.device) →
      CrossedAs (crosses r image' ctx' routes' log') (eqb (length image) WORDS) left image ctx routes log
  unfolding crossed stored
  made called r image' ctx' routes' log' e q a i =
      let ok : eqb (length image) WORDS ≡ true = eq-eqb (length image) WORDS e in
      let new : image' ≡ encode called.device = i.0 ∙ ap (λ (b : Bool). cond b (encode called.device) image) ok in
      record { equal = rw (ok, ← q, a, new) refl; fits = λ t. subst (λ (l : Left). Fits l.device) q (i.1 e) }
