-- A walk up the hubs: what it stands at, and what a step of it gives.
use Rattle.std.specs.Prelude.{ℕ, ◌≡◌, ◌-◌, ◌<◌, List, Option, MatchOption}
use Rattle.hub.specs.HubWord.{hub_at}
use Rattle.hub.specs.declared.way.Way.{Way}
use Rattle.hub.specs.declared.way.Socket.{Socket}

-- A way stands at a port of the hub at an index, with so many hubs above the root hub still to come.
pub record Stands (w : Way) (hubs : List ℕ) (at port depth_plus_one : ℕ) : Type 0 where
  pub hubs_is : w.hubs.now ≡ hubs
  pub at_is : w.at ≡ at
  pub port_is : w.port ≡ port
  pub depth_is : w.depth_plus_one ≡ depth_plus_one

abbrev pub BeginsAt : Way → List ℕ → ℕ → ℕ → Type 0
BeginsAt w hubs at port = Stands w hubs at port (hub_at hubs at).depth_plus_one

-- A socket is given where a hub is still to come, and the way goes on at the hub's own port on its parent.
pub record Given (old : Way) (s : Socket) (new : Way) : Type 0 where
  pub to_come : 0 < old.depth_plus_one
  pub hub_is : s.hub ≡ hub_at old.hubs.now old.at
  pub port_is : s.port ≡ old.port
  pub depth_is : s.depth ≡ old.depth_plus_one - 1
  pub up : Stands new old.hubs.now s.hub.parent s.hub.port_id (old.depth_plus_one - 1)

abbrev pub GivesSocket : Way → Option Socket → Way → Type 0
GivesSocket old r new = MatchOption r (old.depth_plus_one ≡ 0) (λ s. Given old s new)
