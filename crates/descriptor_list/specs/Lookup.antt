-- Where the endpoint words of an interface's alternate setting stand in a list of descriptor words.
use Rattle.std.specs.Prelude.{ℕ, suc, ◌+◌, Bool, cond, ◌&&◌, Option, Some, None, List, [], ◌∷◌, eqb}
use Rattle.descriptor.specs.Word.{kind, interface_number, alternate_setting, ALTERNATE, ENDPOINT}
use Rattle.descriptor_list.specs.declared.EndpointWords.{EndpointWords}

-- How many endpoint words a list begins with.
unfoldable pub endpoint_run : List ℕ → ℕ
endpoint_run [] = 0
endpoint_run (w ∷ l) = cond (eqb (kind w) ENDPOINT) (suc (endpoint_run l)) 0

-- An alternate word of this interface.
unfoldable pub of_interface : ℕ → ℕ → Bool
of_interface interface w = eqb (kind w) ALTERNATE && eqb (interface_number w) interface

unfoldable pub is_alternate : ℕ → ℕ → ℕ → Bool
is_alternate interface alternate w = of_interface interface w && eqb (alternate_setting w) alternate

-- Lookup in the words from index `at` on: the first matching alternate over all configurations.
unfoldable pub find_from : ℕ → ℕ → ℕ → List ℕ → Option EndpointWords
find_from interface alternate at [] = None
find_from interface alternate at (w ∷ l) =
    cond (is_alternate interface alternate w) (Some (record { start = at + 1; count = endpoint_run l })) (find_from interface alternate (at + 1) l)

-- 01's lookup.
unfoldable pub find_endpoints : List ℕ → ℕ → ℕ → Option EndpointWords
find_endpoints list interface alternate = find_from interface alternate 0 list
