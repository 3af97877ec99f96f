use mathlib.Core.Path.{◌≡◌, sym, ◌∙◌}
use Rattle.hub.proofs.Steps.{not_slow, high_here, high_up, high_none}
use mathlib.Core.Bool.{true, ◌||◌}
use lib.Dec.{eqb}
use Rattle.def.specs.Speed.{FULL, LOW}
use Rattle.hub.specs.Translator.{translator_of}
use borrow.Author.Tests.{eq-eqb, ne_eqb}
use Rattle.hub.proofs.translator.transaction_translator.Goals.{else-speed-ne-FULL-via-then-speed-ne-FULL+else-speed-ne-LOW, else-speed-ne-FULL-via-else-speed-ne-FULL}
use Rattle.hub.proofs.translator.transaction_translator.Goals as goal

pub returns-then-speed-ne-LOW : goal.returns-then-speed-ne-LOW
returns-then-speed-ne-LOW c = sym (not_slow _ _ _ _ c.if-speed-ne-FULL.true c.if-speed-ne-LOW.true)

pub returns-in_default : goal.returns-in_default
unfolding translator_of
returns-in_default c = rw (c.in_default.is)

pub loop-socket-init : goal.loop-socket-init
unfolding translator_of
loop-socket-init c =
    let s = c.above-socket-items.ensures in
    let speed = c.args.speed in
    let slow : (eqb speed FULL || eqb speed LOW) ≡ true = elim c.else-speed-ne-FULL.branch [
      | else-speed-ne-FULL-via-then-speed-ne-FULL+else-speed-ne-LOW w ↦ rw (ne_eqb speed FULL w.if-speed-ne-FULL.true, eq-eqb speed LOW w.if-speed-ne-LOW.false)
      | else-speed-ne-FULL-via-else-speed-ne-FULL w ↦ rw (eq-eqb speed FULL w.if-speed-ne-FULL.false)
    ] in
    rw (c.in-Some.is, slow, c.into_iter-socket-iterator.ensures.into_iter_gives, s.hubs_is, s.at_is, s.port_is, s.depth_is)

pub returns-then-h-eq-HIGH : goal.returns-then-h-eq-HIGH
returns-then-h-eq-HIGH c = sym (c.loop-socket.invariant ∙ high_here _ _ _ c.in-Some-socket.ensures.steps c.if-h-eq-HIGH.true)

pub loop-socket-preserved : goal.loop-socket-preserved
loop-socket-preserved c = c.loop-socket.invariant ∙ high_up _ _ _ c.in-Some-socket.ensures.steps c.if-h-eq-HIGH.false

pub returns : goal.returns
returns c = sym (c.loop-socket.invariant ∙ high_none _ _ _ _ c.in-None.ensures.steps)
