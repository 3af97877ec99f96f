-- What each exit of a walk says of its definition, and where a port stands in the route.
use Prim.Native.Nat.{ℕ, zero, suc, ◌+◌, ◌*◌, ◌-◌, ◌%◌, ◌<◌, ◌≤◌, ◌^◌}
use mathlib.Core.Path.{◌≡◌, refl, ◌∙◌}
use mathlib.Core.Bool.{Bool, true, false, not, cond, ◌&&◌, and-false}
use mathlib.Core.List.{List}
use Rattle.std.proofs.Common.{Option, Some, None}
use native.Mathlib.Omega.{arith}
use native.Mathlib.Decide.{dec_lt}
use native.Mathlib.Nat.{mul-le-mul, pow-le-pow_right}
use borrow.Author.Tests.{lt-ltb, le-leb, lt-leb, eqb-true, eq-eqb, ne_eqb, not-true, not-false}
use lib.Dec.{eqb, ltb}
use lib.ListN.{length, get_or-eq_default}
use Rattle.std.proofs.Math.Pow.{shl_exact}
use Rattle.std.proofs.Common.{ap}
use Rattle.hub.specs.declared.way.Way.{Way}
use Rattle.hub.specs.declared.way.Socket.{Socket}
use Rattle.hub.specs.Way.{Given}
use Rattle.laws.proofs.Computed.{all_below}
use Rattle.def.specs.Speed.{FULL, LOW, HIGH}
use Rattle.hub.specs.declared.hub_word.HubInfo.{HubInfo}
use Rattle.hub.specs.HubWord.{hub_info, hub_at}
use Rattle.hub.specs.Chain.{hub_fits, chain_from, chain_ok}
use Rattle.hub.specs.Route.{ports, clamp, route_of_ports, route_string}
use Rattle.hub.specs.Translator.{no_translator, nearest_high, translator_of}
use Rattle.hub.proofs.Laws.{depth_below, length_ports, ports_below}

less_one : (d : ℕ) → suc d - 1 ≡ d
less_one d = omega arith

-- past the end of the list there is no hub
absent : (hubs : List ℕ) (at d : ℕ) → length hubs ≤ at → hub_fits (hub_at hubs at) d ≡ false
unfolding hub_fits hub_at hub_info
absent hubs at d l = rw (get_or-eq_default hubs 0 l)

in_list : (hubs : List ℕ) (at d : ℕ) → (ltb at (length hubs) && hub_fits (hub_at hubs at) d) ≡ hub_fits (hub_at hubs at) d
in_list hubs at d = go (dec_lt at (length hubs))
  where
    go : Dec (at < length hubs) → (ltb at (length hubs) && hub_fits (hub_at hubs at) d) ≡ hub_fits (hub_at hubs at) d
    go (yes l) = rw (lt-ltb at (length hubs) l)
    go (no n) = rw (absent hubs at d (omega arith), and-false (ltb at (length hubs)))

pub chain_step : (hubs : List ℕ) (at d : ℕ) → 0 < d → chain_from hubs at d
    ≡ (hub_fits (hub_at hubs at) d && ((hub_at hubs at).has_parent && chain_from hubs (hub_at hubs at).parent (d - 1)))
unfolding chain_from
chain_step hubs at zero z = absurd (omega arith)
chain_step hubs at (suc d) z = rw (in_list hubs at (suc d), less_one d)

pub chain_many : (hubs : List ℕ) (parent : Option ℕ) → 256 < length hubs → chain_ok hubs parent ≡ false
unfolding chain_ok
chain_many hubs None l = lt-leb (length hubs) 256 l
chain_many hubs (Some at) l = rw (lt-leb (length hubs) 256 l)

-- A walk of a chain: its beginning, and then at the hub at an index.
module _ (hubs : List ℕ) (at : ℕ) (l : length hubs ≤ 256) (h : HubInfo) (is : h ≡ hub_at hubs at) where
  pub chain_deep : 5 < h.depth_plus_one → chain_ok hubs (Some at) ≡ false
  unfolding chain_ok
  chain_deep d = rw (le-leb (length hubs) 256 l, ← is, lt-leb h.depth_plus_one 5 d)

  pub chain_starts : h.depth_plus_one ≤ 5 → chain_ok hubs (Some at) ≡ chain_from hubs at h.depth_plus_one
  unfolding chain_ok
  chain_starts d = rw (le-leb (length hubs) 256 l, ← is, le-leb h.depth_plus_one 5 d)

pub chain_root : (hubs : List ℕ) (at d : ℕ) → d ≡ 0 → chain_from hubs at d ≡ hub_fits (hub_at hubs at) 0
unfolding chain_from
chain_root hubs at d z = rw z (in_list hubs at 0)

-- The walk at a socket, whose hub fits or not.
module _ (old new : Way) (s : Socket) (g : Given old s new) (r : Bool) (f : r ≡ hub_fits s.hub (s.depth + 1)) where
  chain_here : chain_from old.hubs.now old.at old.depth_plus_one ≡ (r && (s.hub.has_parent && chain_from new.hubs.now new.at new.depth_plus_one))
  chain_here =
      let e : s.depth + 1 ≡ old.depth_plus_one = omega (arith, g.depth_is, g.to_come) in
      chain_step old.hubs.now old.at old.depth_plus_one g.to_come ∙ rw (f, e, g.up.hubs_is, g.up.at_is, g.up.depth_is, ← g.hub_is)

  pub chain_unfit : r ≡ false → chain_from old.hubs.now old.at old.depth_plus_one ≡ false
  chain_unfit n = rw (chain_here, n)

  module _ (y : r ≡ true) where
    pub chain_alone : not s.hub.has_parent ≡ true → chain_from old.hubs.now old.at old.depth_plus_one ≡ false
    chain_alone n = rw (chain_here, y, not-true s.hub.has_parent n)

    pub chain_up : not s.hub.has_parent ≡ false → chain_from old.hubs.now old.at old.depth_plus_one ≡ chain_from new.hubs.now new.at new.depth_plus_one
    chain_up p = rw (chain_here, y, not-false s.hub.has_parent p)

pub route_step : (hubs : List ℕ) (at port d : ℕ) → 0 < d → route_of_ports (ports hubs at port d)
    ≡ clamp port * 16 ^ (d - 1) + route_of_ports (ports hubs (hub_at hubs at).parent (hub_at hubs at).port_id (d - 1))
unfolding ports route_of_ports
route_step hubs at port zero z = absurd (omega arith)
route_step hubs at port (suc d) z = rw (less_one d, length_ports hubs (hub_at hubs at).parent (hub_at hubs at).port_id d)

-- The walk of a route string at a socket: the route so far and what is left are the whole.
module _ (old new : Way) (s : Socket) (g : Given old s new) (n : ℕ) (e : n ≡ clamp s.port * 16 ^ s.depth)
    (whole route : ℕ) (w : whole ≡ route + route_of_ports (ports old.hubs.now old.at old.port old.depth_plus_one)) where
  pub route_up : whole ≡ (route + n) + route_of_ports (ports new.hubs.now new.at new.port new.depth_plus_one)
  route_up =
      let k : route_of_ports (ports old.hubs.now old.at old.port old.depth_plus_one) ≡ n + route_of_ports (ports new.hubs.now new.at new.port new.depth_plus_one) =
      route_step old.hubs.now old.at old.port old.depth_plus_one g.to_come
      ∙ rw (g.up.hubs_is, g.up.at_is, g.up.port_is, g.up.depth_is, e, g.port_is, g.depth_is, ← g.hub_is) in
      omega (arith, w, k)

  pub route_room : whole < 16 ^ 7 → route + n < 16 ^ 7
  route_room b = omega (arith, route_up)

pub route_end : (hubs : List ℕ) (at port d : ℕ) → d ≡ 0 → (whole route : ℕ) → whole ≡ route + route_of_ports (ports hubs at port d) → route ≡ whole
unfolding ports route_of_ports
route_end hubs at port zero z whole route w = omega arith
route_end hubs at port (suc d) z whole route w = absurd (omega arith)

-- A hub word has a depth of at most 6, so any route string has at most seven nibbles.
pub route_small : (hubs : List ℕ) (parent : Option ℕ) (port : ℕ) → route_string hubs parent port < 16 ^ 7
unfolding route_string
route_small hubs (Some at) port = ports_below hubs at port (hub_at hubs at).depth_plus_one 7 (omega (arith, depth_below hubs at))
route_small hubs None port = omega arith

pub high_step : (hubs : List ℕ) (at port d : ℕ) → 0 < d → nearest_high hubs at port d
    ≡ cond (eqb (hub_at hubs at).speed HIGH)
    (record { slot_id = (hub_at hubs at).slot_id; multi = (hub_at hubs at).multi; port = port })
    (nearest_high hubs (hub_at hubs at).parent (hub_at hubs at).port_id (d - 1))
unfolding nearest_high
high_step hubs at port zero z = absurd (omega arith)
high_step hubs at port (suc d) z = rw (less_one d)

-- Only Low and Full devices have a translator.
pub not_slow : (speed : ℕ) (hubs : List ℕ) (parent : Option ℕ) (port : ℕ) → (speed ≡ FULL → ⊥) → (speed ≡ LOW → ⊥)
    → translator_of speed hubs parent port ≡ no_translator
unfolding translator_of
not_slow speed hubs None port f l = refl
not_slow speed hubs (Some at) port f l = rw (ne_eqb speed FULL f, ne_eqb speed LOW l)

-- The walk to the nearest High hub at a socket.
module _ (old new : Way) (s : Socket) (g : Given old s new) where
  high_at : nearest_high old.hubs.now old.at old.port old.depth_plus_one
      ≡ cond (eqb s.hub.speed HIGH) (record { slot_id = s.hub.slot_id; multi = s.hub.multi; port = s.port })
      (nearest_high new.hubs.now new.at new.port new.depth_plus_one)
  high_at = high_step old.hubs.now old.at old.port old.depth_plus_one g.to_come
      ∙ rw (g.up.hubs_is, g.up.at_is, g.up.port_is, g.up.depth_is, g.port_is, ← g.hub_is)

  pub high_here : s.hub.speed ≡ HIGH
      → nearest_high old.hubs.now old.at old.port old.depth_plus_one ≡ record { slot_id = s.hub.slot_id; multi = s.hub.multi; port = s.port }
  high_here e = high_at ∙ rw (eq-eqb s.hub.speed HIGH e)

  pub high_up : (s.hub.speed ≡ HIGH → ⊥)
      → nearest_high old.hubs.now old.at old.port old.depth_plus_one ≡ nearest_high new.hubs.now new.at new.port new.depth_plus_one
  high_up n = high_at ∙ rw (ne_eqb s.hub.speed HIGH n)

pub high_none : (hubs : List ℕ) (at port d : ℕ) → d ≡ 0 → nearest_high hubs at port d ≡ no_translator
unfolding nearest_high
high_none hubs at port zero z = refl
high_none hubs at port (suc d) z = absurd (omega arith)

abbrev right : ℕ → Bool
right d = eqb (2 ^ (4 * d)) (16 ^ d)

weight_right : (d : ℕ) → d < 7 → 2 ^ (4 * d) ≡ 16 ^ d
weight_right d h = eqb-true (2 ^ (4 * d)) (16 ^ d) (all_below right 7 refl d h)

-- A port in its nibble, which fits 28 bits.
pub nibble_right : (n d : ℕ) → n ≤ 15 → d < 7 → n * 2 ^ (4 * d) % 2 ^ 32 ≡ n * 16 ^ d
nibble_right n d l h = shl_exact 4 (4 * d) 32 (omega arith) (omega arith) ∙ ap (λ (k : ℕ). n * k) (weight_right d h)

-- A nibble at any of its places fits 28 bits.
pub scaled_below : (d n : ℕ) → d < 7 → n ≤ 15 → n * 2 ^ (4 * d) < 0x1000_0000
scaled_below d n h l =
    let w : 16 ^ d ≤ 16 ^ 6 = pow-le-pow_right {n = 16} (omega arith) {i = d} {j = 6} (omega arith) in
    rw (weight_right d h) (omega (arith, mul-le-mul l w))
