-- Ask and commit through the exported functions: what they return and leave in the lent buffers is what the claim does.
use Rattle.std.specs.Prelude.{ℕ, ◌≤◌, ◌≡◌, List, length, take}
use Rattle.device.specs.Claim.{claim}
use Rattle.device.specs.Ask.{asking, commit}
use Rattle.device_image.specs.Image.{decode, is_image}
use Rattle.xhci_device.specs.declared.ask.Shown.{Shown}
use Rattle.xhci_device.specs.Ask.{ASK-RINGS, asked_in, shown_of, in_front}
use Rattle.xhci_device.specs.Crossed.{Crossed, CrossedAs}
use Rattle.theorem_slot.specs.Call.{Buffers}

-- A call of the function that asks, by its contract: what it is lent, what it returns, and what it leaves in the words lent for rings.
pub record Asks (image : List ℕ) (ctx routes log interface alternate : ℕ) (lent : List ℕ) (shown : Shown) (rings : List ℕ) : Type 0 where
  pub returned : shown ≡ shown_of (asked_in image ctx routes log interface alternate (length lent))
  pub written : rings ≡ in_front (asked_in image ctx routes log interface alternate (length lent)).1.rings lent

-- A call of the one that commits what was shown, with the rings that stand in front of these words; and of the one that claims.
abbrev pub Commits : List ℕ → Buffers → List ℕ → Shown → List ℕ → Crossed → Type 0
Commits image b routes shown rings x =
    CrossedAs x (is_image image)
    (commit (decode image) b.ctx routes b.log b.outcomes (asking shown.interface shown.alternate shown.drops shown.adds (take shown.count rings)))
    image b.ctx routes b.log

abbrev pub Claims : List ℕ → Buffers → List ℕ → ℕ → ℕ → Crossed → Type 0
Claims image b routes interface alternate x =
    CrossedAs x (is_image image) (claim (decode image) b.ctx routes b.log b.outcomes interface alternate) image b.ctx routes b.log

-- Changed nothing, and returned this answer with count 0.
pub record Untouched (image : List ℕ) (b : Buffers) (routes : List ℕ) (number : ℕ) (x : Crossed) : Type 0 where
  pub answer : x.answered.answer ≡ number
  pub count : x.answered.count ≡ 0
  pub image_stays : is_image image ≡ is_image x.image
  pub device : decode x.image ≡ decode image
  pub ctx : x.ctx ≡ b.ctx
  pub routes_stay : x.routes ≡ routes
  pub log : x.log ≡ b.log

-- Shown with 0: the commit of it and the claim, lent the same, return and leave the same. Else both are refused with the shown answer.
pub record ShownTells (image : List ℕ) (b : Buffers) (routes : List ℕ) (interface alternate : ℕ) (shown : Shown) (rings : List ℕ) : Type 0 where
  pub same : (x y : Crossed) → shown.answer ≡ 0 → Commits image b routes shown rings x → Claims image b routes interface alternate y → x ≡ y
  pub refused : (y : Crossed) → (shown.answer ≡ 0 → ⊥) → Claims image b routes interface alternate y → Untouched image b routes shown.answer y

abbrev pub LibraryAsk : Type 0
LibraryAsk =
    (image : List ℕ) (b : Buffers) (routes : List ℕ) (interface alternate : ℕ) (lent : List ℕ) (shown : Shown) (rings : List ℕ) →
    ASK-RINGS ≤ length lent →
    Asks image (length b.ctx) (length routes) (length b.log) interface alternate lent shown rings →
    ShownTells image b routes interface alternate shown rings
