-- What each definition of the hubs says at the hub at an index, at any depth, in terms of the hub above it.
use Prim.Native.Nat.{ℕ, ◌+◌, ◌*◌, ◌-◌, ◌<◌, ◌^◌}
use mathlib.Core.Path.{◌≡◌, ◌∙◌}
use mathlib.Core.Bool.{Bool, true, false, not, ◌&&◌}
use mathlib.Core.List.{List}
use native.Mathlib.Omega.{arith}
use borrow.Author.Tests.{ne_eqb, not-true, not-false}
use Rattle.def.specs.Speed.{HIGH}
use Rattle.hub.specs.declared.hub_word.HubInfo.{HubInfo}
use Rattle.hub.specs.HubWord.{hub_at}
use Rattle.hub.specs.Chain.{hub_fits, chain_from}
use Rattle.hub.specs.Route.{ports, clamp, route_of_ports}
use Rattle.hub.specs.Translator.{nearest_high}
use Rattle.hub.proofs.Steps.{chain_step, route_step, high_step}

-- A chain, at a hub that fits or not.
module _ (hubs : List ℕ) (at d : ℕ) (h : HubInfo) (is : h ≡ hub_at hubs at) (r : Bool) (f : r ≡ hub_fits h d) (z : 0 < d) where
  chain_here : chain_from hubs at d ≡ (r && (h.has_parent && chain_from hubs h.parent (d - 1)))
  chain_here = chain_step hubs at d z ∙ rw (← is, ← f)

  pub chain_unfit : not r ≡ true → chain_from hubs at d ≡ false
  chain_unfit n = rw (chain_here, not-true r n)

  pub chain_up : not r ≡ false → not h.has_parent ≡ false → chain_from hubs at d ≡ chain_from hubs h.parent (d - 1)
  chain_up y p = rw (chain_here, not-false r y, not-false h.has_parent p)

-- A route string, from a port of the hub: the route so far and what is left are the whole.
pub route_up :
    (hubs : List ℕ) (at port d : ℕ) (h : HubInfo) → h ≡ hub_at hubs at → 0 < d → (n : ℕ) → n ≡ clamp port * 16 ^ (d - 1) →
    (whole route : ℕ) → whole ≡ route + route_of_ports (ports hubs at port d) →
    whole ≡ (route + n) + route_of_ports (ports hubs h.parent h.port_id (d - 1))
route_up hubs at port d h is z n e whole route w = omega (arith, rw (← is, ← e) at (route_step hubs at port d z))

-- The nearest High hub, where this one is not.
pub high_up :
    (hubs : List ℕ) (at port d : ℕ) (h : HubInfo) → h ≡ hub_at hubs at → 0 < d → (h.speed ≡ HIGH → ⊥) →
    nearest_high hubs at port d ≡ nearest_high hubs h.parent h.port_id (d - 1)
high_up hubs at port d h is z n = high_step hubs at port d z ∙ rw (← is, ne_eqb h.speed HIGH n)
