-- Endpoint words as flags.
use Rattle.std.specs.Prelude.{ℕ, zero, suc, ◌+◌, ◌/◌, ◌%◌, ◌^◌, ◌<◌, cond, List, ◌≡◌}
use Rattle.context_block.specs.Blocks.{some_dci}

-- Bit d is set for each Dci d below n that one of the words has.
unfoldable pub flags_below : ℕ → List ℕ → ℕ
flags_below zero words = 0
flags_below (suc n) words = flags_below n words + cond (some_dci n words) (2 ^ n) 0

unfoldable pub flags_of : List ℕ → ℕ
flags_of words = flags_below 32 words

-- What the bits are: proofs/Flags.antt.
abbrev pub FlagsPromise : Type 0
FlagsPromise = (words : List ℕ) (d : ℕ) → d < 32 → flags_of words / 2 ^ d % 2 ≡ cond (some_dci d words) 1 0
