use mathlib.Core.Path.{◌≡◌, sym, ◌∙◌}
use lib.ListN.{length}
use borrow.Author.Tests.{le-leb}
use Rattle.std.proofs.Common.{refl}
use Rattle.hub.specs.Chain.{hub_fits, chain_ok}
use Rattle.hub.specs.HubWord.{hub_at}
use Rattle.hub.proofs.Steps.{chain_many, chain_deep, chain_starts, chain_root, chain_unfit, chain_alone, chain_up}
use Rattle.hub.proofs.chain.chain_ok.Goals as goal

pub returns-then-hubs-gt-MAX_HUBS : goal.returns-then-hubs-gt-MAX_HUBS
returns-then-hubs-gt-MAX_HUBS c = sym (chain_many _ _ c.if-hubs-gt-MAX_HUBS.true)

pub returns-in_default : goal.returns-in_default
unfolding chain_ok
returns-in_default c = rw (c.in_default.is, le-leb (length c.args.hubs.now) 256 c.if-hubs-gt-MAX_HUBS.false)

pub returns-then-hub_at-gt-MAX_DEPTH_PLUS_ONE : goal.returns-then-hub_at-gt-MAX_DEPTH_PLUS_ONE
returns-then-hub_at-gt-MAX_DEPTH_PLUS_ONE c = rw (c.in-Some.is) (sym (chain_deep _ _ c.if-hubs-gt-MAX_HUBS.false _ c.hub_at.ensures c.if-hub_at-gt-MAX_DEPTH_PLUS_ONE.true))

pub loop-socket-init : goal.loop-socket-init
loop-socket-init c =
    let s = c.above-socket-items.ensures in
    rw (c.in-Some.is, c.into_iter-socket-iterator.ensures.into_iter_gives, s.hubs_is, s.at_is, s.depth_is, ← c.hub_at.ensures)
    (refl, (refl, chain_starts _ _ c.if-hubs-gt-MAX_HUBS.false _ c.hub_at.ensures c.if-hub_at-gt-MAX_DEPTH_PLUS_ONE.false))

pub returns-then-not-hub_fits : goal.returns-then-not-hub_fits
returns-then-not-hub_fits c = sym (c.loop-socket.invariant.1.1 ∙ chain_unfit _ _ _ c.in-Some-socket.ensures.steps _ c.hub_fits.ensures c.if-not-hub_fits.true)

pub returns-then-not-h : goal.returns-then-not-h
returns-then-not-h c = sym (c.loop-socket.invariant.1.1 ∙ chain_alone _ _ _ c.in-Some-socket.ensures.steps _ c.hub_fits.ensures c.if-not-hub_fits.false c.if-not-h.true)

pub loop-socket-preserved : goal.loop-socket-preserved
loop-socket-preserved c =
    let g = c.in-Some-socket.ensures.steps in
    (g.up.hubs_is ∙ c.loop-socket.invariant.0, (g.up.at_is, c.loop-socket.invariant.1.1 ∙ chain_up _ _ _ g _ c.hub_fits.ensures c.if-not-hub_fits.false c.if-not-h.false))

pub returns : goal.returns
returns c =
    let (i, (at, whole)) = c.loop-socket.invariant in
    let e : hub_fits (hub_at c.args.hubs.now c.loop-socket.at) 0 ≡ chain_ok c.args.hubs.now c.args.parent =
    rw (i, at) at (sym (whole ∙ chain_root _ _ _ c.in-None.ensures.steps)) in
    c.hub_fits-2.ensures ∙ rw (c.hub_at-2.ensures) e
