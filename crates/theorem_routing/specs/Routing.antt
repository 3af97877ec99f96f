-- The routes of a slot, told by its endpoints by place.
use Rattle.std.specs.Prelude.{ℕ, ◌+◌, ◌*◌, ◌≤◌, ◌<◌, ◌≡◌, List, length, get_or, Ok}
use Rattle.transfer.specs.Routes.{Queue, route_of, replaced, with_replaced}
use Rattle.record_endpoint.specs.Order.{PLACES, dci_at}
use Rattle.record_endpoint.specs.declared.endpoint_map.EndpointMap.{EndpointMap}

-- The slot's 32 words lie in the table.
abbrev pub InTable : List ℕ → ℕ → Type 0
InTable routes slot = 32 * slot + 32 ≤ length routes

-- The routes of a slot are those of some endpoints: each endpoint's ring at its Dci, 0 at every other Dci from 2 on.
abbrev pub RoutedBy : List ℕ → ℕ → EndpointMap → Type 0
RoutedBy routes slot c = (p : ℕ) → p < PLACES → route_of routes slot (dci_at p) ≡ get_or c.rings p 0

-- Where one of the endpoints is, its ring; the slot's other words may hold anything.
abbrev pub NamedBy : List ℕ → ℕ → EndpointMap → Type 0
NamedBy routes slot c =
    (p : ℕ) → p < PLACES → (get_or c.rings p 0 ≡ 0 → ⊥) → route_of routes slot (dci_at p) ≡ get_or c.rings p 0

-- `replace_queues` finds the old routes right and the new ones free, and leaves the routes of these endpoints.
pub record Rerouted (routes : List ℕ) (slot : ℕ) (old new : List Queue) (c : EndpointMap) : Type 0 where
  pub done : replaced routes slot old new ≡ Ok tt
  pub routed : RoutedBy (with_replaced routes slot old new) slot c
