-- The route string of 01, "address".
use Rattle.std.specs.Prelude.{ℕ, zero, suc, ◌+◌, ◌*◌, ◌^◌, min, Option, Some, None, List, [], ◌∷◌, length}
use Rattle.hub.specs.HubWord.{hub_at}

-- The ports on the way up over d hubs: first `port`, on the hub at an index, then the port of that hub on its parent, and so on.
-- The root hub is none of the d, so the port on it is not among them.
unfoldable pub ports : List ℕ → ℕ → ℕ → ℕ → List ℕ
ports hubs at port zero = []
ports hubs at port (suc d) = port ∷ ports hubs (hub_at hubs at).parent (hub_at hubs at).port_id d

-- A port above 15 enters the route as 15.
unfoldable pub clamp : ℕ → ℕ
clamp p = min p 15

-- The route string of such ports: each in a nibble, shifted by 4 × the depth of the hub that it is on, which is the number of ports after it.
unfoldable pub route_of_ports : List ℕ → ℕ
route_of_ports [] = 0
route_of_ports (p ∷ ps) = clamp p * 16 ^ length ps + route_of_ports ps

-- The Route String of a device on a port of its parent hub; 0 without a parent.
unfoldable pub route_string : List ℕ → Option ℕ → ℕ → ℕ
route_string hubs None port = 0
route_string hubs (Some at) port = route_of_ports (ports hubs at port (hub_at hubs at).depth_plus_one)
