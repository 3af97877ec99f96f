-- Demand 3 of the linked library, and the groups of its rings.
use Prim.Native.Nat.{ℕ, ◌≤◌}
use mathlib.Core.Path.{◌≡◌, refl, sym, ap, subst, ◌∙◌}
use mathlib.Core.Bool.{Bool, true, false, not, cond, ◌&&◌}
use mathlib.Core.List.{List, [], ◌∷◌}
use borrow.Author.Tests.{eq-eqb}
use lib.Dec.{eqb}
use lib.ListN.{length}
use Rattle.answer.specs.Answer.{number, is_accepted}
use Rattle.device.specs.declared.record.Device.{Device}
use Rattle.device.specs.Left.{Left}
use Rattle.course_init.specs.Reading.{BringUp}
use Rattle.device.specs.Ask.{Ask}
use Rattle.device_bring_up.specs.BringUp.{bring_up}
use Rattle.device_image.specs.Image.{decode, is_image}
use Rattle.device_image.specs.Layout.{WORDS}
use Rattle.device_image.specs.Fits.{Fits}
use Rattle.device_image.proofs.Laws.{image_encode, decode_encode}
use Rattle.answer.specs.Answered.{answered_of}
use Rattle.xhci_device.specs.Crossed.{Crossed, crossed, CrossedAs}
use Rattle.theorem_slot.specs.Call.{Buffers, Asked, brings_up, claims, commits, releases, configures, updates_hub, disconnects, left}
use Rattle.theorem_slot.specs.Rings.{first}
use Rattle.theorem_slot.specs.Theorem.{State, record_after, called, after, Turns, start}
use Rattle.theorem_slot.proofs.Demand3.{kept_by_number}
use Rattle.theorem_slot.proofs.Rings.{given_parted, records_groups}
use Rattle.theorem_library.specs.Library.{Exchange, reads, GivenImage, image_after, image_then, Exchanges, image_end, table_end, turns_of, LibraryDemand3, LibraryGroups}

-- What a call that reads its image leaves.
pub record Leaves (x : Crossed) (l : Left) : Type 0 where
  pub image : is_image x.image ≡ true
  pub device : decode x.image ≡ l.device
  pub routes : x.routes ≡ l.routes
  pub answer : x.answered.answer ≡ number l.answer
  pub count : x.answered.count ≡ l.count

pub leaves : (x : Crossed) (l : Left) (ok : Bool) (image ctx routes log : List ℕ) → ok ≡ true → CrossedAs x ok l image ctx routes log → Leaves x l
unfolding crossed answered_of
leaves x l ok image ctx routes log t c =
    let e : x ≡ crossed true l image ctx routes log = c.equal ∙ ap (λ b. crossed b l image ctx routes log) t in
    let f : Fits l.device = c.fits t in
    record {
      image = ap (λ (y : Crossed). is_image y.image) e ∙ image_encode l.device f;
      device = ap (λ (y : Crossed). decode y.image) e ∙ decode_encode l.device f;
      routes = ap (λ (y : Crossed). y.routes) e;
      answer = ap (λ (y : Crossed). y.answered.answer) e;
      count = ap (λ (y : Crossed). y.answered.count) e;
    }

-- A call that sends no command and leaves the table does so across the boundary, whatever it is lent as its image.
untouched :
    (x : Crossed) (l : Left) (ok : Bool) (image ctx routes log : List ℕ) → CrossedAs x ok l image ctx routes log →
    (l.count ≡ 0) × (l.routes ≡ routes) → (x.answered.count ≡ 0) × (x.routes ≡ routes)
unfolding crossed answered_of
untouched x l true image ctx routes log c h =
    (ap (λ (y : Crossed). y.answered.count) c.equal ∙ h.0, ap (λ (y : Crossed). y.routes) c.equal ∙ h.1)
untouched x l false image ctx routes log c h = (ap (λ (y : Crossed). y.answered.count) c.equal, ap (λ (y : Crossed). y.routes) c.equal)

-- The caller's image, and the record and table of a state.
pub record Has (image routes : List ℕ) (s : State) : Type 0 where
  pub there : is_image image ≡ true
  pub device : decode image ≡ s.device
  pub table : routes ≡ s.routes

module _ (image routes : List ℕ) (s : State) (h : Has image routes s) where
  -- a call on the record is lent what the caller has
  on_record :
      (asked : Asked) (buffers : Buffers) (given table : List ℕ) (x : Crossed) (plain : State) → given ≡ image →
      (is_image given ≡ true → Leaves x (left asked buffers (decode given) table)) →
      plain.device ≡ (left asked buffers s.device table).device → plain.routes ≡ (left asked buffers s.device table).routes →
      Has x.image x.routes plain
  on_record asked buffers given table x plain same v d r =
      let w = v (ap is_image same ∙ h.there) in
      let e : left asked buffers (decode given) table ≡ left asked buffers s.device table =
      ap (λ y. left asked buffers y table) (ap decode same ∙ h.device) in
      record {
        there = w.image;
        device = w.device ∙ ap (λ (y : Left). y.device) e ∙ sym d;
        table = w.routes ∙ ap (λ (y : Left). y.routes) e ∙ sym r;
      }

  -- a bring-up leaves a record, and the caller has it or keeps his
  kept_or_new :
      (l : Left) (x : Crossed) (keeps : Bool) → Leaves x l → (plain : State) →
      plain.device ≡ cond (keeps && not (is_accepted l.answer)) s.device l.device → plain.routes ≡ l.routes →
      Has (cond (keeps && not (eqb x.answered.answer 0)) image x.image) x.routes plain
  kept_or_new l x keeps v plain d r = rw v.answer (go (keeps && not (is_accepted l.answer)) d)
    where
      go :
          (b : Bool) → plain.device ≡ cond b s.device l.device →
          Has (cond b image x.image) x.routes plain
      go true e = record { there = h.there; device = h.device ∙ sym e; table = v.routes ∙ sym r }
      go false e = record { there = v.image; device = v.device ∙ sym e; table = v.routes ∙ sym r }

  -- what a call leaves, by call
  abbrev One : Asked → Type 0
  One asked =
      (buffers : Buffers) (given table : List ℕ) (x : Crossed) (keeps : Bool) → GivenImage asked image given →
      CrossedAs x (reads asked given) (left asked buffers (decode given) table) given buffers.ctx table buffers.log →
      Has (image_after asked keeps x.answered.answer image x.image) x.routes
      (called s (record { call = record { asked = asked; buffers = buffers }; table = table; keeps = keeps }))

  bring_up_left : (a : BringUp) → One (brings_up a)
  unfolding GivenImage reads image_after called record_after left
  bring_up_left a buffers given table x keeps n c =
      kept_or_new (left (brings_up a) buffers s.device table) x keeps (leaves x _ _ given _ table _ (eq-eqb (length given) WORDS n) c) _ refl refl

  claim_left : (i a : ℕ) → One (claims i a)
  unfolding GivenImage reads image_after called record_after left
  claim_left i a buffers given table x keeps n c =
      on_record (claims i a) buffers given table x _ n (λ t. leaves x _ _ given _ table _ t c) refl refl

  commit_left : (p : Ask) → One (commits p)
  unfolding GivenImage reads image_after called record_after left
  commit_left p buffers given table x keeps n c =
      on_record (commits p) buffers given table x _ n (λ t. leaves x _ _ given _ table _ t c) refl refl

  release_left : (i : ℕ) → One (releases i)
  unfolding GivenImage reads image_after called record_after left
  release_left i buffers given table x keeps n c =
      on_record (releases i) buffers given table x _ n (λ t. leaves x _ _ given _ table _ t c) refl refl

  set_left : (value : ℕ) → One (configures value)
  unfolding GivenImage reads image_after called record_after left
  set_left value buffers given table x keeps n c =
      on_record (configures value) buffers given table x _ n (λ t. leaves x _ _ given _ table _ t c) refl refl

  hub_left : (ports : ℕ) (multi : Bool) (ns : ℕ) → One (updates_hub ports multi ns)
  unfolding GivenImage reads image_after called record_after left
  hub_left ports multi ns buffers given table x keeps n c =
      on_record (updates_hub ports multi ns) buffers given table x _ n (λ t. leaves x _ _ given _ table _ t c) refl refl

  disconnect_left : One disconnects
  unfolding GivenImage reads image_after called record_after left
  disconnect_left buffers given table x keeps n c =
      on_record disconnects buffers given table x _ n (λ t. leaves x _ _ given _ table _ t c) refl refl

  one : (asked : Asked) → One asked
  one (brings_up a) = bring_up_left a
  one (claims i a) = claim_left i a
  one (commits p) = commit_left p
  one (releases i) = release_left i
  one (configures value) = set_left value
  one (updates_hub ports multi ns) = hub_left ports multi ns
  one disconnects = disconnect_left

-- A list of calls: its turns are those of the theorem, and the caller has the record and the table that they leave.
pub record Went (slot : ℕ) (still : ℕ → Bool) (image routes : List ℕ) (s : State) (es : List Exchange) : Type 0 where
  pub turns : Turns slot still s (turns_of es)
  pub has : Has (image_end image es) (table_end routes es) (after s (turns_of es))

pub went :
    (slot : ℕ) (still : ℕ → Bool) (image routes : List ℕ) (s : State) (es : List Exchange) → Has image routes s →
    Exchanges slot still image routes es → Went slot still image routes s es
unfolding Exchanges Turns turns_of image_end table_end after
went slot still image routes s [] h o = record { turns = tt; has = h }
went slot still image routes s (e ∷ es) h o =
    let n = one image routes s h e.call.asked e.call.buffers e.image e.table e.crossed e.keeps o.0.given o.0.meets in
    let rest = went slot still (image_then image e) e.crossed.routes _ es n o.1 in
    record { turns = (o.0.of_slot, (rw (← h.table) o.0.between, rest.turns)); has = rest.has }

pub library_demand_three : LibraryDemand3
unfolding reads left start
library_demand_three b l image routes x still es empty size meets zero o =
    let up : Left = bring_up b l.ctx routes l.log l.outcomes in
    let v : Leaves x up = leaves x up _ image l.ctx routes l.log (eq-eqb (length image) WORDS size) meets in
    let w = went b.slot still x.image x.routes (start b up) es (record { there = v.image; device = v.device; table = v.routes }) o in
    let kept = kept_by_number b l routes still (turns_of es) empty (sym v.answer ∙ zero) w.turns in
    record {
      kept = kept;
      table = w.has.table;
      record_there = w.has.there;
      device = w.has.device;
      no_other = λ n c m given table y slot same meets.
          untouched y _ (reads (brings_up c) given) given m.ctx table m.log meets (kept.no_other n c m table slot (rw w.has.table at same));
    }

pub library_groups : LibraryGroups
unfolding reads left called record_after
library_groups s b l image routes x still es size meets logged o =
    let up : Left = bring_up b l.ctx routes l.log l.outcomes in
    let v : Leaves x up = leaves x up _ image l.ctx routes l.log (eq-eqb (length image) WORDS size) meets in
    let begins : State = called s (first b l routes) in
    let w = went b.slot still x.image x.routes begins es (record { there = v.image; device = v.device; table = v.routes }) o in
    let count : 1 ≤ up.count = subst (λ n. 1 ≤ n) v.count logged in
    record {
      parted = given_parted s b l routes still (turns_of es) count w.turns;
      own =
          λ u. rw w.has.device
          (records_groups s b l routes still (turns_of es) count w.turns (sym (ap (λ (d : Device). d.up) w.has.device) ∙ u));
    }
