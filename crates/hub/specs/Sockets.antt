-- The ports on the way up from a socket; proofs/Sockets.antt proves which sockets a route string tells apart.
use Rattle.std.specs.Prelude.{ℕ, ◌<◌, ◌≤◌, List, length, get_or}

-- All ports of a way are numbered from 1 to 15.
abbrev pub Numbered : List ℕ → Type 0
Numbered ps = (i : ℕ) → i < length ps → (1 ≤ get_or ps i 0) × (get_or ps i 0 ≤ 15)
