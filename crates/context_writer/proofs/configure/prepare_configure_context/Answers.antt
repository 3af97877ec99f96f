use Rattle.context.proofs.Steps.{configure_steps}
use Rattle.context.proofs.Entries.{flagged_after, entries_made}
use mathlib.Core.Path.{◌∙◌}
use Rattle.context_writer.proofs.configure.prepare_configure_context.Goals as goal

pub returns : goal.returns
returns c =
    let begun = c.begin_configure.ensures c.args.spacing in
    let done = c.drop_endpoints.ensures c.args.spacing in
    let flags = flagged_after c.args.spacing c.args.interface c.args.alternate c.args.dropped.now
    c.args.ctx.now _ _ c.requires.spaced begun done in
    let entries = entries_made c.args.dropped.now c.args.dcis.now c.args.added.now _ _
    (c.highest_staying-staying.ensures.1 c.args.dropped.now flags) c.highest_added-entries.ensures in
    c.finish_configure.ensures ∙ rw (configure_steps, entries, c.add_endpoints.ensures, done, begun)
