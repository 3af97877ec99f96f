use Rattle.std.specs.Prelude.{true, ◌&&◌, ◌≡◌, refl}
use Rattle.context_field.specs.Field.{apart}
use Rattle.context_block.specs.Fields.{apart_from_all, pairwise_apart, fields_of_control, fields_of_slot, fields_of_endpoint}

-- No two fields of one context overlap.
pub no_overlap : (pairwise_apart fields_of_control && (pairwise_apart fields_of_slot && pairwise_apart fields_of_endpoint)) ≡ true
unfolding apart pairwise_apart apart_from_all
no_overlap = refl
