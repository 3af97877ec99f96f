-- What callers use of the chain, the route string, the translator and the think time.
use Prim.Native.Nat.{ℕ, zero, suc, ◌-◌, ◌/◌, ◌<◌, ◌≤◌, ◌^◌}
use mathlib.Core.Path.{◌≡◌, refl, ap}
use mathlib.Core.Bool.{Bool, true, false, cond, ◌&&◌, ◌||◌}
use mathlib.Core.List.{List}
use native.Mathlib.Omega.{arith}
use native.Mathlib.Nat.{mod-lt, pow-le-pow_right}
use borrow.Author.Tests.{leb-true}
use lib.Dec.{eqb, leb}
use lib.ListN.{length}
use Rattle.laws.proofs.Tests.{and_left, and_right}
use Rattle.def.specs.Speed.{FULL, LOW, HIGH}
use Rattle.hub.specs.declared.translator.Translator.{Translator}
use Rattle.std.proofs.Common.{Option, Some, None}
use Rattle.hub.specs.HubWord.{hub_info, hub_at}
use Rattle.hub.specs.Chain.{chain_from, chain_ok}
use Rattle.hub.specs.Route.{ports, route_of_ports, route_string}
use Rattle.hub.specs.Translator.{no_translator, nearest_high, translator_of}
use Rattle.hub.proofs.Sockets.{route_below}
use Rattle.hub.specs.ThinkTime.{think_time}

-- The depth plus one of a hub word has three bits.
pub depth_below : (hubs : List ℕ) (at : ℕ) → (hub_at hubs at).depth_plus_one < 8
unfolding hub_at hub_info
depth_below hubs at = mod-lt _ (omega arith)

-- An accepted parent has a depth of at most 4.
pub chain_depth : (hubs : List ℕ) (at : ℕ) → chain_ok hubs (Some at) ≡ true → (hub_at hubs at).depth_plus_one ≤ 5
unfolding chain_ok
chain_depth hubs at e =
    let d = (hub_at hubs at).depth_plus_one in
    let o = and_right (leb (length hubs) 256) (leb d 5 && chain_from hubs at d) e in
    leb-true d 5 (and_left (leb d 5) (chain_from hubs at d) o)

-- There is a port for each hub on the way but the root hub.
pub length_ports : (hubs : List ℕ) (at port d : ℕ) → length (ports hubs at port d) ≡ d
unfolding ports
length_ports hubs at port zero = refl
length_ports hubs at port (suc d) = ap suc (length_ports hubs (hub_at hubs at).parent (hub_at hubs at).port_id d)

-- The route string over at most k hubs fits k nibbles.
pub ports_below : (hubs : List ℕ) (at port d k : ℕ) → d ≤ k → route_of_ports (ports hubs at port d) < 16 ^ k
ports_below hubs at port d k h =
    let b : 16 ^ d ≤ 16 ^ k = pow-le-pow_right {n = 16} (omega arith) {i = d} {j = k} h in
    omega (arith, rw (length_ports hubs at port d) at (route_below (ports hubs at port d)))

-- The route string of an accepted chain fits its field.
pub route_fits : (hubs : List ℕ) (parent : Option ℕ) (port : ℕ) → chain_ok hubs parent ≡ true → route_string hubs parent port < 2 ^ 20
unfolding route_string
route_fits hubs (Some at) port e = ports_below hubs at port (hub_at hubs at).depth_plus_one 5 (chain_depth hubs at e)
route_fits hubs None port e = omega arith

-- A translator whose slot and port are bytes.
abbrev pub Bytes : Translator → Type 0
Bytes t = (t.slot_id < 256) × (t.port < 256)

choice_bytes : (b : Bool) (t u : Translator) → Bytes t → Bytes u → Bytes (cond b t u)
choice_bytes true t u p q = p
choice_bytes false t u p q = q

no_bytes : Bytes no_translator
no_bytes = (omega arith, omega arith)

high_bytes : (hubs : List ℕ) (at port d : ℕ) → port < 256 → Bytes (nearest_high hubs at port d)
unfolding nearest_high hub_at hub_info
high_bytes hubs at port zero h = no_bytes
high_bytes hubs at port (suc d) h =
    choice_bytes (eqb (hub_at hubs at).speed HIGH) _ _
    (mod-lt _ (omega arith), h)
    (high_bytes hubs (hub_at hubs at).parent (hub_at hubs at).port_id d (mod-lt _ (omega arith)))

-- The translator of a device on a port that is a byte.
pub translator_bytes : (speed : ℕ) (hubs : List ℕ) (parent : Option ℕ) (port : ℕ) → port < 256 → Bytes (translator_of speed hubs parent port)
unfolding translator_of
translator_bytes speed hubs None port h = no_bytes
translator_bytes speed hubs (Some at) port h =
    choice_bytes (eqb speed FULL || eqb speed LOW) _ _ (high_bytes hubs at port (hub_at hubs at).depth_plus_one h) no_bytes

think_choice : (a b : Bool) (q v : ℕ) → (b ≡ true → q ≤ 4) → cond a (Some 0) (cond b (Some (q - 1)) None) ≡ Some v → v < 4
think_choice true b q v f e = let z : 0 ≡ v = cc in omega arith
think_choice false true q v f e = let z : q - 1 ≡ v = cc in omega (arith, f refl)
think_choice false false q v f e = absurd cc

-- A think time that has a value fits its two bits.
pub think_below : (ns v : ℕ) → think_time ns ≡ Some v → v < 4
unfolding think_time
think_below ns v e =
    think_choice (eqb ns 0) (leb 1 (ns / 666) && leb (ns / 666) 4) (ns / 666) v
    (λ t. leb-true (ns / 666) 4 (and_right (leb 1 (ns / 666)) (leb (ns / 666) 4) t))
    e
