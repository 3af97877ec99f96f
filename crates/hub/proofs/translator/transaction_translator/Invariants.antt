use mathlib.Core.Path.{◌≡◌}
use Rattle.hub.specs.Translator.{nearest_high, translator_of}
use Rattle.hub.proofs.translator.transaction_translator.Given as goal

abbrev pub invariant-loop-socket : goal.invariant-loop-socket
invariant-loop-socket l =
    let w = l.socket-iterator in
    translator_of l.speed l.hubs l.fn.parent l.port ≡ nearest_high w.hubs.now w.at w.port w.depth_plus_one
