-- The bytes of a device keep within the room for them.
use Rattle.std.proofs.Common.{◌≤◌, vec_len}
use Rattle.vectors_descriptors.proofs.text.put_line.Given as goal

abbrev pub invariant-loop-digits : goal.invariant-loop-digits
invariant-loop-digits g l = vec_len l.initial.bytes ≤ 1024 → vec_len l.bytes ≤ 1024
