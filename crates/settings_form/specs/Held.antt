-- Settings that a list of descriptor words has.
use Rattle.std.specs.Prelude.{ℕ, suc, Bool, true, false, cond, ◌&&◌, Option, Some, None, List, [], ◌∷◌, eqb, leb, length}
use Rattle.std.specs.List.{list_any}
use Rattle.descriptor.specs.Word.{CONFIGURATION, kind, configuration_value}
use Rattle.descriptor_list.specs.Lookup.{is_alternate}
use Rattle.descriptor_configuration.specs.Words.{up_to_configuration}

unfoldable pub is_configuration : ℕ → ℕ → Bool
is_configuration value w = eqb (kind w) CONFIGURATION && eqb (configuration_value w) value

-- The words of the first configuration of a value, its own word apart, if the list has one.
unfoldable pub configuration_words : ℕ → List ℕ → Option (List ℕ)
configuration_words value [] = None
configuration_words value (w ∷ l) =
    cond (is_configuration value w) (Some (up_to_configuration l)) (configuration_words value l)

-- Pairs of an interface, at least `least`, and an alternate: the words have each, and each interface is above those before it.
unfoldable pub pairs_held : ℕ → List ℕ → List ℕ → Bool
pairs_held least words [] = true
pairs_held least words (i ∷ []) = false
pairs_held least words (i ∷ (a ∷ pairs)) = leb least i && (list_any (is_alternate i a) words && pairs_held (suc i) words pairs)

unfoldable pub held_in : Option (List ℕ) → List ℕ → Bool
held_in None pairs = false
held_in (Some words) pairs = pairs_held 0 words pairs

-- At most 32 pairs, of the first configuration of a value.
unfoldable pub settings_held : List ℕ → ℕ → List ℕ → Bool
settings_held list value pairs = leb (length pairs) 64 && held_in (configuration_words value list) pairs
