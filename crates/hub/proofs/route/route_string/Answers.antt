use Prim.Native.Nat.{◌^◌}
use mir.Syntax.{w32}
use native.Mathlib.Nat.{zero-add}
use Rattle.hub.specs.Route.{route_string}
use Rattle.hub.proofs.Steps.{route_up, route_room, route_end, route_small}
use borrow.Author.Rules.{Fits-under}
use Rattle.hub.proofs.route.route_string.Goals as goal

pub returns-in_default : goal.returns-in_default
unfolding route_string
returns-in_default c = rw (c.in_default.is)

pub loop-socket-init : goal.loop-socket-init
unfolding route_string
loop-socket-init c =
    let s = c.above-socket-items.ensures in
    rw (c.in-Some.is, c.into_iter-socket-iterator.ensures.into_iter_gives, s.hubs_is, s.at_is, s.port_is, s.depth_is, zero-add)

pub overflow_add-route : goal.overflow_add-route
overflow_add-route c =
    Fits-under w32 _ (16 ^ 7)
    (route_room _ _ _ c.in-Some-socket.ensures.steps _ c.nibble-route.ensures _ _ c.loop-socket.invariant (route_small _ _ _))
    tt

pub loop-socket-preserved : goal.loop-socket-preserved
loop-socket-preserved c = route_up _ _ _ c.in-Some-socket.ensures.steps _ c.nibble-route.ensures _ _ c.loop-socket.invariant

pub returns : goal.returns
returns c = route_end _ _ _ _ c.in-None.ensures.steps _ _ c.loop-socket.invariant
