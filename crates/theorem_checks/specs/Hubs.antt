-- The chain of hubs above a device, spelled once more: 01, "Hub word". proofs/Hubs.antt proves that the definition is this.
use Rattle.std.specs.Prelude.{ℕ, ◌+◌, ◌-◌, ◌%◌, ◌^◌, ◌<◌, ◌≤◌, ◌≡◌, ◌↔◌, true, List, length, get_or, Option, Some, None, ⊤}
use Rattle.hub.specs.Chain.{chain_ok}
use Rattle.theorem_checks.specs.Descriptors.{bits}

-- The hub at an index: in the list, present, with speed 1 to 5, no unused bit, and this depth plus one.
pub record HubAt (hubs : List ℕ) (at depth_plus_one : ℕ) : Type 0 where
  pub inside : at < length hubs
  pub present : bits 63 1 (get_or hubs at 0) ≡ 1
  pub speed_low : 1 ≤ bits 40 3 (get_or hubs at 0)
  pub speed_high : bits 40 3 (get_or hubs at 0) ≤ 5
  pub depth : bits 43 3 (get_or hubs at 0) ≡ depth_plus_one
  pub unused : get_or hubs at 0 % 2 ^ 31 ≡ 0

-- The parent of the hub at an index.
pub record ParentOf (hubs : List ℕ) (at parent : ℕ) : Type 0 where
  pub has : bits 62 1 (get_or hubs at 0) ≡ 1
  pub parent_is : bits 54 8 (get_or hubs at 0) ≡ parent

-- The way from a hub up to the root: each hub's parent is the next one, its depth one less, down to -1; at most five hubs above the root's.
pub record Chain (hubs : List ℕ) (at : ℕ) : Type 0 where
  pub way : List ℕ
  pub above : ℕ
  pub counted : length way ≡ above + 1
  pub few : above ≤ 5
  pub begins : get_or way 0 0 ≡ at
  pub fit : (j : ℕ) → j ≤ above → HubAt hubs (get_or way j 0) (above - j)
  pub parents : (j : ℕ) → j < above → ParentOf hubs (get_or way j 0) (get_or way (j + 1) 0)

unfoldable pub ParentFits : List ℕ → Option ℕ → Type 0
ParentFits hubs None = ⊤
ParentFits hubs (Some at) = Chain hubs at

pub record ChainFits (hubs : List ℕ) (parent : Option ℕ) : Type 0 where
  pub few : length hubs ≤ 256
  pub chain : ParentFits hubs parent

abbrev pub ChainTells : Type 0
ChainTells = (hubs : List ℕ) (parent : Option ℕ) → (chain_ok hubs parent ≡ true) ↔ ChainFits hubs parent
