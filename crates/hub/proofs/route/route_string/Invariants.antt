use Prim.Native.Nat.{◌+◌}
use mathlib.Core.Path.{◌≡◌}
use Rattle.hub.specs.Route.{ports, route_of_ports, route_string}
use Rattle.hub.proofs.route.route_string.Given as goal

abbrev pub invariant-loop-socket : goal.invariant-loop-socket
invariant-loop-socket l =
    let w = l.socket-iterator in
    route_string l.hubs l.fn.parent l.port ≡ l.route + route_of_ports (ports w.hubs.now w.at w.port w.depth_plus_one)
