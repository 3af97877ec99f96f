use Rattle.std.proofs.lemmas.List.{drop-replicate}
use Rattle.record_endpoint.specs.Endpoint.{padded}
use Rattle.record_endpoint.proofs.array.padded.Goals as goal

pub returns : goal.returns
unfolding padded
returns g c = rw (c.copy_from_slice.ensures.after, drop-replicate)
