use mathlib.Core.Path.{refl}
use Rattle.transfer.specs.Routes.{route_index}
use Rattle.transfer.proofs.route_index.Goals as goal

pub returns : goal.returns
unfolding route_index
returns c = refl
