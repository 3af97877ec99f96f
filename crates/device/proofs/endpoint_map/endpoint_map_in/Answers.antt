use mathlib.Core.Path.{◌≡◌, ◌∙◌}
use native.Mathlib.Omega.{arith}
use lib.ListN.{length}
use borrow.Author.Rules.{rules}
use Rattle.record_endpoint.proofs.Clean.{front_of}
use Rattle.device.specs.Device.{endpoint_map_in}
use Rattle.device.proofs.endpoint_map.endpoint_map_in.Goals as goal

pub returns : goal.returns
unfolding endpoint_map_in
returns c =
    let room : length c.args.d.now.eps ≡ 30 = search rules in
    c.endpoint_map_of.ensures ∙ front_of _ _ _ (omega (arith, room, c.requires))
