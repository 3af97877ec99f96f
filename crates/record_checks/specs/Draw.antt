-- What a claim asks of a setting and of the number of free rings.
use Rattle.std.specs.Prelude.{ℕ, Bool, true, false, ◌&&◌, List, [], ◌∷◌, eqb, leb, length}
use Rattle.answer.specs.declared.Answer.TheVariants as answer
use Rattle.answer.specs.Check.{Check, unless}
use Rattle.descriptor_list.specs.Lookup.{find_endpoints}
use Rattle.record_endpoint.specs.declared.endpoint_map.EndpointMap.{EndpointMap}
use Rattle.record_settings.specs.Held.{is_found, setting_words}
use Rattle.record_settings.specs.Match.{addresses_free}

-- 8, 9, 21, and then what follows: an alternate that lookup finds in a list, beside the endpoints of a record and so many free rings.
abbrev pub draw_check : List ℕ → ℕ → ℕ → EndpointMap → ℕ → Check → Check
draw_check list interface alternate c free next =
    let words = setting_words list interface alternate in
    unless (is_found (find_endpoints list interface alternate)) answer.NotFound
    (unless (addresses_free words interface c) answer.InvalidParameter
    (unless (leb (length words) free) answer.TooFewRings next))

-- Rings that are the same in number and order.
unfoldable pub same_rings : List ℕ → List ℕ → Bool
same_rings [] [] = true
same_rings [] (s ∷ ss) = false
same_rings (r ∷ rs) [] = false
same_rings (r ∷ rs) (s ∷ ss) = eqb r s && same_rings rs ss
