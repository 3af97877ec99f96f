-- What a configuration and an interface say of the descriptors after them: one definition for the reader, which judges it, and for
-- the writer, which writes it.
use Rattle.std.specs.Prelude.{ℕ, suc, ◌+◌, Bool, cond, ◌||◌, List, [], ◌∷◌, length}
use Rattle.laws.specs.Distinct.{elem}
use Rattle.descriptor_raw.specs.Descriptor.{INTERFACE-NUMBER, byte_at, is_configuration, is_interface, is_endpoint}

-- The descriptors before the first that passes a test.
unfoldable pub up_to : (List ℕ → Bool) → List (List ℕ) → List (List ℕ)
up_to test [] = []
up_to test (d ∷ ds) = cond (test d) [] (d ∷ up_to test ds)

unfoldable pub bytes_of : List (List ℕ) → ℕ
bytes_of [] = 0
bytes_of (d ∷ ds) = length d + bytes_of ds

unfoldable pub interface_numbers : List (List ℕ) → List ℕ
interface_numbers [] = []
interface_numbers (d ∷ ds) = cond (is_interface d) (byte_at INTERFACE-NUMBER d ∷ interface_numbers ds) (interface_numbers ds)

unfoldable pub endpoints : List (List ℕ) → ℕ
endpoints [] = 0
endpoints (d ∷ ds) = cond (is_endpoint d) (suc (endpoints ds)) (endpoints ds)

-- How many distinct numbers a list has.
unfoldable pub distinct_count : List ℕ → ℕ
distinct_count [] = 0
distinct_count (x ∷ l) = cond (elem x l) (distinct_count l) (suc (distinct_count l))

-- The total length of a configuration, its own descriptor apart: up to the next configuration or the end.
unfoldable pub bytes_after : List (List ℕ) → ℕ
bytes_after ds = bytes_of (up_to is_configuration ds)

-- The number of interfaces of a configuration: distinct ones.
unfoldable pub interfaces_after : List (List ℕ) → ℕ
interfaces_after ds = distinct_count (interface_numbers (up_to is_configuration ds))

-- The number of endpoints of an interface: up to the next interface or configuration or the end, repeated addresses too.
unfoldable pub endpoints_after : List (List ℕ) → ℕ
endpoints_after ds = endpoints (up_to (λ d. is_configuration d || is_interface d) ds)
