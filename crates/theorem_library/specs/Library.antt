-- Demand 3 of the linked library, and the groups of its rings: lists of calls of the exported functions, which hand the record on as an
-- image in a lent buffer.
use Rattle.std.specs.Prelude.{ℕ, ◌<◌, ◌≤◌, ◌≡◌, Bool, true, false, not, cond, ◌&&◌, List, [], ◌∷◌, eqb, length}
use Rattle.transfer.specs.Routes.{route_of}
use Rattle.course_init.specs.Reading.{BringUp}
use Rattle.device_bring_up.specs.BringUp.{bring_up}
use Rattle.device_image.specs.Image.{decode, is_image}
use Rattle.device_image.specs.Layout.{WORDS}
use Rattle.xhci_device.specs.Crossed.{Crossed, CrossedAs}
use Rattle.theorem_slot.specs.Call.{Buffers, Asked, brings_up, claims, commits, releases, configures, updates_hub, disconnects, Call, left, OfSlot}
use Rattle.theorem_slot.specs.Groups.{Parted}
use Rattle.theorem_slot.specs.Plain.{is_unplugged}
use Rattle.theorem_slot.specs.Rings.{first, OfRecord}
use Rattle.theorem_slot.specs.Theorem.{State, Turn, called, after, Between, start, Kept}

-- A call of an exported function: what is asked, the image and the table that are lent, and what it returns and leaves in the buffers.
pub record Exchange : Type 0 where
  pub call : Call
  pub image : List ℕ
  pub table : List ℕ
  pub crossed : Crossed
  -- whether the caller keeps the image that he had, where it is a bring-up that is not accepted
  pub keeps : Bool

-- Whether a function works on what is lent as its image: a bring-up on anything of the right length, the others on a record.
unfoldable pub reads : Asked → List ℕ → Bool
reads (brings_up a) image = eqb (length image) WORDS
reads (claims interface alternate) image = is_image image
reads (commits p) image = is_image image
reads (releases interface) image = is_image image
reads (configures value) image = is_image image
reads (updates_hub ports multi ns) image = is_image image
reads disconnects image = is_image image

-- The function meets its contract.
abbrev pub Meets : Exchange → Type 0
Meets e =
    let c = e.call in
    CrossedAs e.crossed (reads c.asked e.image) (left c.asked c.buffers (decode e.image) e.table)
    e.image c.buffers.ctx e.table c.buffers.log

-- A bring-up may be lent another buffer; every other call is lent the image that the caller has.
unfoldable pub GivenImage : Asked → List ℕ → List ℕ → Type 0
GivenImage (brings_up a) had given = length given ≡ WORDS
GivenImage (claims interface alternate) had given = given ≡ had
GivenImage (commits p) had given = given ≡ had
GivenImage (releases interface) had given = given ≡ had
GivenImage (configures value) had given = given ≡ had
GivenImage (updates_hub ports multi ns) had given = given ≡ had
GivenImage disconnects had given = given ≡ had

-- The image that the caller has after a call.
unfoldable pub image_after : Asked → Bool → ℕ → List ℕ → List ℕ → List ℕ
image_after (brings_up a) keeps answer had left = cond (keeps && not (eqb answer 0)) had left
image_after (claims interface alternate) keeps answer had left = left
image_after (commits p) keeps answer had left = left
image_after (releases interface) keeps answer had left = left
image_after (configures value) keeps answer had left = left
image_after (updates_hub ports multi ns) keeps answer had left = left
image_after disconnects keeps answer had left = left

abbrev pub image_then : List ℕ → Exchange → List ℕ
image_then had e = image_after e.call.asked e.keeps e.crossed.answered.answer had e.crossed.image

-- One call, by a caller who has this image and for whose slot the last call left this table.
pub record Proper (slot : ℕ) (still : ℕ → Bool) (image routes : List ℕ) (e : Exchange) : Type 0 where
  pub of_slot : OfSlot slot e.call.asked
  pub given : GivenImage e.call.asked image e.image
  pub between : Between slot still routes e.table
  pub meets : Meets e

unfoldable pub Exchanges : ℕ → (ℕ → Bool) → List ℕ → List ℕ → List Exchange → Type 0
Exchanges slot still image routes [] = Unit {0}
Exchanges slot still image routes (e ∷ es) =
    Proper slot still image routes e × Exchanges slot still (image_then image e) e.crossed.routes es

-- The image and the table after them.
unfoldable pub image_end : List ℕ → List Exchange → List ℕ
image_end image [] = image
image_end image (e ∷ es) = image_end (image_then image e) es

unfoldable pub table_end : List ℕ → List Exchange → List ℕ
table_end routes [] = routes
table_end routes (e ∷ es) = table_end e.crossed.routes es

-- The same calls on the record.
unfoldable pub turns_of : List Exchange → List Turn
turns_of [] = []
turns_of (e ∷ es) = record { call = e.call; table = e.table; keeps = e.keeps } ∷ turns_of es

abbrev pub brings : BringUp → Buffers → List ℕ → List ℕ → Crossed → Exchange
brings b l image routes x =
    record { call = record { asked = brings_up b; buffers = l }; image = image; table = routes; crossed = x; keeps = false }

-- What holds of the slot holds of its record and table, and these are what the caller has.
pub record KeptAcross (slot : ℕ) (still : ℕ → Bool) (before image routes : List ℕ) (s : State) : Type 0 where
  pub kept : Kept slot still before s
  pub table : routes ≡ s.routes
  pub record_there : is_image image ≡ true
  pub device : decode image ≡ s.device
  -- until the device is unplugged another bring-up of the slot, whatever it is lent as its image, sends no command and leaves the table
  pub no_other :
      is_unplugged s.plain.phase ≡ false → (b : BringUp) (l : Buffers) (given table : List ℕ) (x : Crossed) →
      b.slot ≡ slot →
      route_of table slot 1 ≡ route_of routes slot 1 →
      Meets (brings b l given table x) →
      (x.answered.count ≡ 0) × (x.routes ≡ table)

-- A bring-up that answers 0, of a slot whose routes were all 0, and whatever calls follow.
abbrev pub LibraryDemand3 : Type 0
LibraryDemand3 =
    (b : BringUp) (l : Buffers) (image routes : List ℕ) (x : Crossed) (still : ℕ → Bool) (es : List Exchange) →
    ((d : ℕ) → d < 32 → route_of routes b.slot d ≡ 0) →
    length image ≡ WORDS →
    Meets (brings b l image routes x) →
    x.answered.answer ≡ 0 →
    Exchanges b.slot still x.image x.routes es →
    KeptAcross b.slot still routes (image_end x.image es) (table_end x.routes es)
    (after (start b (bring_up b l.ctx routes l.log l.outcomes)) (turns_of es))

-- Each given ring is in one group, and while the record that the caller has is up, its own groups are these.
pub record GroupsAcross (image : List ℕ) (s : State) : Type 0 where
  pub parted : Parted s.plain.groups
  pub own : (decode image).up ≡ true → OfRecord (decode image) s.plain.groups

-- A bring-up that logs a word, whatever it answers and whatever was before it, and whatever calls follow.
abbrev pub LibraryGroups : Type 0
LibraryGroups =
    (s : State) (b : BringUp) (l : Buffers) (image routes : List ℕ) (x : Crossed) (still : ℕ → Bool) (es : List Exchange) →
    length image ≡ WORDS →
    Meets (brings b l image routes x) →
    1 ≤ x.answered.count →
    Exchanges b.slot still x.image x.routes es →
    GroupsAcross (image_end x.image es) (after (called s (first b l routes)) (turns_of es))
