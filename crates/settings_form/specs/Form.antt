-- 02's two forms of held settings. The old form is a byte for each interface and for its alternate. The new form is bits: value 8,
-- count of pairs 6, the bytes of the pairs, and zeros to a byte, which are always two: 8 + 6 + 16 n + 2 bits are 2 n + 2 bytes.
use Rattle.std.specs.Prelude.{ℕ, ◌+◌, ◌*◌, ◌/◌, Bool, ◌&&◌, List, ◌++◌, eqb, length, take, drop}
use Rattle.settings_form.specs.Bits.{bits, number_of, all_bits, bytes_from}

-- The new form of a configuration's value and an old form.
unfoldable pub new_form : ℕ → List ℕ → List ℕ
new_form value pairs = bytes_from (length pairs + 2) (bits 8 value ++ (bits 6 (length pairs / 2) ++ (all_bits pairs ++ bits 2 0)))

-- What bytes say as a new form: the value, the count, and the old form of the pairs.
unfoldable pub value_in : List ℕ → ℕ
value_in form = number_of (take 8 (all_bits form))

unfoldable pub count_in : List ℕ → ℕ
count_in form = number_of (take 6 (drop 8 (all_bits form)))

unfoldable pub pairs_in : List ℕ → List ℕ
pairs_in form = bytes_from (2 * count_in form) (drop 14 (all_bits form))

-- They are one: no byte too few or too many, and no bit set after the last pair.
unfoldable pub is_new_form : List ℕ → Bool
is_new_form form =
    eqb (length form) (2 * count_in form + 2) && eqb (number_of (drop (14 + 16 * count_in form) (all_bits form))) 0
