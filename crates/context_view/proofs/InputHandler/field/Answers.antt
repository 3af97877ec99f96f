use Rattle.std.proofs.Common.{sym, ◌∙◌}
use Rattle.context_view.proofs.Laws.{in_context}
use Rattle.context_view.proofs.InputHandler.field.Goals as goal

pub field_at-requires : goal.field_at-requires
field_at-requires c =
    in_context _ _ _ _
    (sym c.is_context.ensures ∙ c.if-not-is_context.false)
    (sym c.is_field.ensures ∙ c.if-not-is_field.false)
