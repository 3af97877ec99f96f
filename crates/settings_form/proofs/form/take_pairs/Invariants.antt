use Prim.Native.Nat.{◌+◌, ◌-◌}
use mathlib.Core.Path.{◌≡◌}
use lib.ListN.{length, drop}
use lib.Seq.{sets}
use Rattle.settings_form.specs.Bits.{all_bits, bytes_from}
use Rattle.settings_form.specs.Form.{pairs_in}
use Rattle.settings_form.proofs.form.take_pairs.Given as goal

abbrev pub invariant-loop-i : goal.invariant-loop-i
invariant-loop-i l =
    sets l.initial.pairs 0 (pairs_in l.form)
    ≡ sets l.pairs l.i (bytes_from (length l.form - 2 - l.i) (drop 6 (all_bits (drop (l.i + 1) l.form))))
