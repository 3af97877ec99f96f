-- Numbers as bits, the most significant first, and bytes made of them.
use Rattle.std.specs.Prelude.{ℕ, zero, suc, ◌+◌, ◌*◌, ◌/◌, ◌%◌, ◌^◌, List, [], ◌∷◌, ◌++◌, length, take, drop}

-- The low `width` bits of a number.
unfoldable pub bits : ℕ → ℕ → List ℕ
bits zero n = []
bits (suc k) n = n / 2 ^ k % 2 ∷ bits k n

-- The number that bits are.
unfoldable pub number_of : List ℕ → ℕ
number_of [] = 0
number_of (b ∷ l) = b * 2 ^ length l + number_of l

-- The bits of bytes.
unfoldable pub all_bits : List ℕ → List ℕ
all_bits [] = []
all_bits (b ∷ l) = bits 8 b ++ all_bits l

-- The first `n` bytes of bits.
unfoldable pub bytes_from : ℕ → List ℕ → List ℕ
bytes_from zero l = []
bytes_from (suc n) l = number_of (take 8 l) ∷ bytes_from n (drop 8 l)
