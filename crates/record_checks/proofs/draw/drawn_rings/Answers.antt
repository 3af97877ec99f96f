use mathlib.Core.Path.{ap, ◌∙◌}
use borrow.Author.Rules.{rules}
use Rattle.record_endpoint.specs.EndpointMap.{pending_rings}
use Rattle.record_checks.proofs.Drawn.{drawn_room, drawn_lowest}
use Rattle.record_checks.proofs.draw.drawn_rings.Goals as goal

pub slice_bounds-pending_rings-end : goal.slice_bounds-pending_rings-end
slice_bounds-pending_rings-end c = drawn_room _ _ c.free_rings-free.result.rings _ c.args.words.now (search rules) c.args.given.few c.free_rings-free.ensures c.requires

pub returns : goal.returns
returns c = c.pending_rings.ensures
    ∙ ap (pending_rings c.args.words.now) (drawn_lowest _ _ c.free_rings-free.result.rings _ c.args.words.now (search rules) c.args.given.few c.free_rings-free.ensures c.requires)
