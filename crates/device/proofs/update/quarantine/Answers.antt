use borrow.Author.Rules.{rules}
use lib.Seq.{length-take-le}
use native.Mathlib.Omega.{arith}
use mathlib.Core.Path.{◌≡◌}
use lib.ListN.{take, length}
use Rattle.device.specs.Device.{with_quarantined}
use Rattle.device.proofs.update.quarantine.Goals as goal

pub returns : goal.returns
unfolding with_quarantined
returns c =
    let q = c.args.q in
    let room : length q.rings ≡ 30 = search rules in
    let counted : length (take q.count q.rings) ≡ q.count = length-take-le q.count q.rings (omega (arith, room, q.fits)) in
    rw (c.requires, c.padded-quarantined.ensures, c.rings.ensures, counted)
