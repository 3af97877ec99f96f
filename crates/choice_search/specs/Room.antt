-- How many names the search takes, and how many candidates all of them.
use Rattle.std.specs.Prelude.{ℕ}

abbrev pub NAMES : ℕ
NAMES = 8

abbrev pub CANDIDATES : ℕ
CANDIDATES = 256
