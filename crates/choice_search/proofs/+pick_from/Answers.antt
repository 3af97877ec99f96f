use Rattle.std.proofs.Common.{rules}
use Rattle.choice_search.proofs.Steps.{search_starts, search_clashes, search_goes_on, search_jumps, search_finds, search_ends, remembers_none, remembers, remembered, blames, picks, picks_none}
use Rattle.choice_search.specs.Search.{PickedAs}
use Rattle.choice_search.proofs.+pick_from.Goals as goal

pub returns-in_default : goal.returns-in_default
returns-in_default t c = picks_none _ _ _ _ c.in_default.len_below

pub loop-c-init : goal.loop-c-init
loop-c-init t c = record { searching = search_starts _ _ _; remembered = remembers_none _ 16 }

pub loop-c-preserved-then-clash-ne0 : goal.loop-c-preserved-then-clash-ne0
loop-c-preserved-then-clash-ne0 t c =
    let i = c.loop-c.invariant in
    record {
      searching = search_clashes _ _ _ _ _ c.loop-c-test.true i.searching _ (search rules) c.one_of-blame.ensures c.if-clash-ne0.true;
      remembered = i.remembered;
    }

pub loop-c-preserved-then-before-ne0 : goal.loop-c-preserved-then-before-ne0
loop-c-preserved-then-before-ne0 t c =
    let i = c.loop-c.invariant in
    let b = remembered _ _ _ _ i.remembered c.first_within-before.ensures c.if-before-ne0.true in
    record { searching = search_goes_on _ _ _ _ _ c.loop-c-test.true i.searching _ b.0 b.1; remembered = i.remembered }

pub returns-in-Ok : goal.returns-in-Ok
unfolding PickedAs
returns-in-Ok t c =
    picks _ _ c.in-len1-up.len_at_least _ c.min-end.ensures _ _ _ (search rules) c.requires
    (search_finds _ _ _ _ _ c.loop-c-test.true c.loop-c.invariant.searching _ c.if-clash-ne0.false c.in-Ok.ensures)

pub returns-then-later-c-eq0 : goal.returns-then-later-c-eq0
unfolding PickedAs
returns-then-later-c-eq0 t c =
    let e = c.in-Err.ensures in
    blames _ _ c.in-len1-up.len_at_least _ c.min-end.ensures _ _
    (search_jumps _ _ _ _ _ c.loop-c-test.true c.loop-c.invariant.searching _ e.0 e.1 c.if-later-c-eq0.true)

pub loop-c-preserved : goal.loop-c-preserved
unfolding PickedAs
loop-c-preserved t c =
    let e = c.in-Err.ensures in
    let i = c.loop-c.invariant in
    record {
      searching = search_goes_on _ _ _ _ _ c.loop-c-test.true i.searching _ e.0 e.1;
      remembered = remembers _ _ _ _ i.remembered e.0;
    }

pub returns : goal.returns
returns t c =
    blames _ _ c.in-len1-up.len_at_least _ c.min-end.ensures _ _ (search_ends _ _ _ _ _ c.loop-c-test.false c.loop-c.invariant.searching)
