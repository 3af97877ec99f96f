use mathlib.Core.Path.{◌≡◌}
use mathlib.Core.Bool.{true, false}
use borrow.Author.Tests.{eq-eqb, ne_eqb}
use lib.Dec.{eqb}
use lib.ListN.{get_or}
use Rattle.transfer.specs.Routes.{route_of, with_route, registered, with_registered}
use Rattle.transfer.proofs.register_queue.Goals as goal

pub returns-then-word_at-ne0 : goal.returns-then-word_at-ne0
unfolding route_of registered with_registered
returns-then-word_at-ne0 c =
    let e = c.word_at.ensures in
    let t : eqb (get_or c.args.routes.now c.route_index-i.result 0) 0 ≡ false = rw (← e) (ne_eqb _ _ c.if-word_at-ne0.true) in
    (rw (← c.route_index-i.ensures, t), rw (← c.route_index-i.ensures, t))

pub returns : goal.returns
unfolding route_of with_route registered with_registered
returns c =
    let e = c.word_at.ensures in
    let t : eqb (get_or c.args.routes.now c.route_index-i.result 0) 0 ≡ true = rw (← e) (eq-eqb _ _ c.if-word_at-ne0.false) in
    (rw (← c.route_index-i.ensures, t), rw (← c.route_index-i.ensures, t) c.put_word.ensures)
