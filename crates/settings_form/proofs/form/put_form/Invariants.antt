use Prim.Native.Nat.{◌+◌, ◌<◌}
use mathlib.Core.Path.{◌≡◌}
use lib.ListN.{drop}
use lib.Seq.{sets}
use Rattle.settings_form.specs.Promises.{carried}
use Rattle.settings_form.proofs.form.put_form.Given as goal

abbrev pub invariant-loop-i : goal.invariant-loop-i
invariant-loop-i l =
    record {
      six_bits : l.low < 64;
      carries : sets l.initial.bytes 1 (carried l.initial.low l.pairs) ≡ sets l.bytes (l.i + 1) (carried l.low (drop l.i l.pairs));
    }
