-- The words that give packets.
use Prim.Native.Nat.{ℕ}
use mathlib.Core.Path.{◌≡◌, refl}
use mathlib.Core.List.{List, [], ◌∷◌}
use Rattle.std.specs.List.{list_all}
use Rattle.descriptor_raw.specs.Write.{packets_given}
use Rattle.descriptor_writer.specs.Written.{gives_packets}

pub given_all : (list : List ℕ) → list_all gives_packets list ≡ packets_given list
unfolding packets_given gives_packets
given_all [] = refl
given_all (w ∷ l) = rw (given_all l)
