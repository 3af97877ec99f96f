-- The hubs from a device up to the root hub, from 01, "address" and "Hub word". A hub's depth plus one is 0 at a root hub (depth -1).
use Rattle.std.specs.Prelude.{ℕ, zero, suc, Bool, ◌&&◌, Option, Some, None, List, eqb, ltb, leb, length}
use Rattle.def.specs.Speed.{speed_known}
use Rattle.hub.specs.HubWord.{hub_at}
use Rattle.hub.specs.declared.hub_word.HubInfo.{HubInfo}

-- A hub that may stand on a chain at a depth plus one.
unfoldable pub hub_fits : HubInfo → ℕ → Bool
hub_fits h d = h.present && (speed_known h.speed && (eqb h.unused 0 && eqb h.depth_plus_one d))

-- The hub at an index is in the list and fits this depth plus one, and so does each parent, one depth less each, down to a root hub.
unfoldable pub chain_from : List ℕ → ℕ → ℕ → Bool
chain_from hubs at zero = ltb at (length hubs) && hub_fits (hub_at hubs at) 0
chain_from hubs at (suc d) =
    (ltb at (length hubs) && hub_fits (hub_at hubs at) (suc d))
    && ((hub_at hubs at).has_parent && chain_from hubs (hub_at hubs at).parent d)

-- Whether the hub list and a device's parent in it are accepted; otherwise the answer is 5.
unfoldable pub chain_ok : List ℕ → Option ℕ → Bool
chain_ok hubs None = leb (length hubs) 256
chain_ok hubs (Some at) =
    leb (length hubs) 256
    && (leb (hub_at hubs at).depth_plus_one 5 && chain_from hubs at (hub_at hubs at).depth_plus_one)
