use native.Mathlib.Omega.{arith}
use mathlib.Core.Path.{refl, sym, ◌∙◌}
use Rattle.choice_list.proofs.Words.{first_few}
use Rattle.choice_list.proofs.Listed.{Fits, list_starts, list_skips, list_room, list_puts, list_ends}
use Rattle.choice_list.proofs.candidate.put_candidates.Goals.{then-may_choose, else-may_choose}
use Rattle.choice_list.proofs.candidate.put_candidates.Goals as goal

pub loop-place-init : goal.loop-place-init
loop-place-init c =
    rw c.first_length-place-end.ensures (list_starts _ _ _ _ _ _ (record { room = c.requires.1.0; fit = c.requires.1.1 }))

pub may_choose-requires : goal.may_choose-requires
may_choose-requires c = let f = first_few c.args.list.now in omega (arith, f, c.loop-place-test.true, c.first_length-place-end.ensures)

pub overflow_cast-all : goal.overflow_cast-all
overflow_cast-all c = let f = first_few c.args.list.now in omega (arith, f, c.loop-place-test.true, c.first_length-place-end.ensures, c.requires.0)

pub addresses_at-requires : goal.addresses_at-requires
addresses_at-requires c = let f = first_few c.args.list.now in omega (arith, f, c.loop-place-test.true, c.first_length-place-end.ensures)

pub bounds-all-count : goal.bounds-all-count
bounds-all-count c =
    let r =
    list_room _ _ _ _ _ _ _ _ _ _ c.loop-place-test.true c.loop-place.invariant (record { room = c.requires.1.0; fit = c.requires.1.1 })
    (sym c.may_choose.ensures ∙ c.if-may_choose.true) in
    omega (arith, r, c.loop-place.invariant.room)

pub offset_bounds-all-count : goal.offset_bounds-all-count
offset_bounds-all-count c =
    let r =
    list_room _ _ _ _ _ _ _ _ _ _ c.loop-place-test.true c.loop-place.invariant (record { room = c.requires.1.0; fit = c.requires.1.1 })
    (sym c.may_choose.ensures ∙ c.if-may_choose.true) in
    omega (arith, r)

pub loop-place-preserved : goal.loop-place-preserved
loop-place-preserved c =
    elim c.if-may_choose.branch [
      | then-may_choose w ↦
          rw (w.all-is, w.count-is)
          (list_puts _ _ _ _ _ _ _ _ _ _ c.loop-place-test.true c.loop-place.invariant (record { room = c.requires.1.0; fit = c.requires.1.1 })
          (sym c.may_choose.ensures ∙ w.if-may_choose.true) _ (rw w.addresses_at.ensures refl))
      | else-may_choose w ↦
          rw (w.all-is, w.count-is)
          (list_skips _ _ _ _ _ _ _ _ _ _ c.loop-place-test.true c.loop-place.invariant (sym c.may_choose.ensures ∙ w.if-may_choose.false))
    ]

pub returns : goal.returns
returns c =
    list_ends _ _ _ _ _ _ _ _ _ _ c.loop-place-test.false (record { room = c.requires.1.0; fit = c.requires.1.1 }) c.loop-place.invariant
