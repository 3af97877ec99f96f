use Prim.Native.Nat.{◌+◌, ◌≤◌}
use native.Mathlib.Nat.{zero-add}
use native.Mathlib.Omega.{arith}
use mathlib.Core.Path.{sym, ◌∙◌}
use lib.ListN.{length}
use lib.Seq.{sets-eq}
use Rattle.descriptor_reader.proofs.words.take_list.Goals as goal

pub returns : goal.returns
returns c =
    let r : 0 + length c.args.list.now ≤ length c.args.words.now = omega arith in
    rw (c.copy_from_slice.ensures.after, sets-eq c.args.list.now c.args.words.now 0 r, zero-add (length c.args.list.now), sym c.list_ok.ensures ∙ c.if-not-list_ok.false, c.if-not-fit.false, sym c.companions_fit.ensures ∙ c.if-not-companions_fit.false)
