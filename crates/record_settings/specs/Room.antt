-- How many settings a record has room for: one of each interface.
use Rattle.std.specs.Prelude.{ℕ}

abbrev pub HELD-ROOM : ℕ
HELD-ROOM = 32
