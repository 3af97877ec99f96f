use mathlib.Core.Path.{ap, ◌∙◌}
use borrow.Author.Rules.{rules}
use Rattle.record_endpoint.specs.Endpoint.{padded}
use Rattle.record_checks.proofs.Drawn.{drawn_room, drawn_lowest}
use Rattle.record_checks.proofs.draw.drawn_in_order.Goals as goal

pub slice_bounds-padded-end : goal.slice_bounds-padded-end
slice_bounds-padded-end c = drawn_room _ _ c.free_rings-free.result.rings _ c.args.words.now (search rules) c.args.given.few c.free_rings-free.ensures c.requires.1

pub returns : goal.returns
returns c = c.padded.ensures
    ∙ ap (padded 30 0) (drawn_lowest _ _ c.free_rings-free.result.rings _ c.args.words.now (search rules) c.args.given.few c.free_rings-free.ensures c.requires.1)
