-- Numbers of a list that are below a bound: bytes are below 2 ^ 8, words below 2 ^ 32.
use Rattle.std.specs.Prelude.{ℕ, ◌<◌, List, length, get_or}

abbrev pub Below : ℕ → List ℕ → Type 0
Below bound l = (k : ℕ) → k < length l → get_or l k 0 < bound
