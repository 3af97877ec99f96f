use mathlib.Core.Path.{◌≡◌}
use Rattle.hub.specs.Chain.{chain_from, chain_ok}
use Rattle.hub.proofs.chain.chain_ok.Given as goal

abbrev pub invariant-loop-socket : goal.invariant-loop-socket
invariant-loop-socket l =
    let w = l.socket-iterator in
    (w.hubs.now ≡ l.hubs) × ((w.at ≡ l.at) × (chain_ok l.hubs l.fn.parent ≡ chain_from w.hubs.now w.at w.depth_plus_one))
