use mathlib.Core.Path.{◌≡◌, refl, ◌∙◌}
use denote.Enum.Bare.{sameb}
use Rattle.record_endpoint.specs.EndpointMap.{is_active}
use Rattle.record_endpoint.specs.contracts.entry.Handle.{the_type}
use Rattle.record_endpoint.specs.declared.entry.Handle.{Handle}
use Rattle.record_endpoint.specs.declared.entry.Handle.TheVariants.{Active, Revoked}
use Rattle.record_endpoint.proofs.entry.Handle.is_active.Goals as goal

same : (h : Handle) → sameb the_type h Active ≡ is_active h
unfolding is_active
same Active = refl
same Revoked = refl

pub returns : goal.returns
returns c = c.eq.ensures ∙ same c.args.self
