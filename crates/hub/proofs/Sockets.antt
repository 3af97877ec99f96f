-- Which sockets a route string tells apart, by the ports on the way up from each (`ports`): `told_apart` where all are numbered
-- from 1 to 15, `above_fifteen` and `at_most_fifteen` where one is not. The lemmas between serve their proofs.
use Rattle.std.specs.Prelude.{ℕ, suc, ◌+◌, ◌*◌, ◌/◌, ◌%◌, ◌<◌, ◌≤◌, ◌^◌, ◌≡◌, refl, List, [], ◌∷◌, ◌++◌, length}
use Rattle.std.proofs.Common.{sym, ◌∙◌, ap, arith, mul-le-mul_right, length-append}
use Rattle.std.proofs.Math.Nat.{pow-succ', pow-le-pow_right}
use Rattle.std.proofs.Math.Decide.{dec_lt}
use Rattle.std.proofs.Math.Arith.{digits_lt, digits_div, digits_mod}
use Rattle.hub.specs.Route.{ports, clamp, route_of_ports}
use Rattle.hub.specs.Sockets.{Numbered}

others : (p : ℕ) (ps : List ℕ) → Numbered (p ∷ ps) → Numbered ps
others p ps n i h = n (suc i) (omega arith)

-- A route string has four bits for each port, so that of five ports fits the 20 bits of its field.
pub route_below : (ps : List ℕ) → route_of_ports ps < 16 ^ length ps
unfolding route_of_ports clamp
route_below [] = omega arith
route_below (p ∷ ps) = rw (pow-succ' 16 (length ps)) (digits_lt (omega arith) (route_below ps))

-- The port nearest the device is the highest digit, so the longer of two ways has the larger route string.
route_above : (p : ℕ) (ps : List ℕ) → 1 ≤ p → 16 ^ length ps ≤ route_of_ports (p ∷ ps)
unfolding route_of_ports clamp
route_above p ps h = let c : 1 ≤ clamp p = omega arith in omega (arith, mul-le-mul_right (16 ^ length ps) c)

longer : (ps : List ℕ) (q : ℕ) (qs : List ℕ) → 1 ≤ q → length ps ≤ length qs → route_of_ports ps ≡ route_of_ports (q ∷ qs) → ⊥
longer ps q qs h l e =
    let b : 16 ^ length ps ≤ 16 ^ length qs = pow-le-pow_right {n = 16} (omega arith) {i = length ps} {j = length qs} l in
    omega (arith, route_below ps, route_above q qs h)

same_length : (ps qs : List ℕ) → Numbered ps → Numbered qs → route_of_ports ps ≡ route_of_ports qs → length ps ≡ length qs
same_length [] [] m n e = refl
same_length [] (q ∷ qs) m n e = absurd (longer [] q qs (n 0 (omega arith)).0 (omega arith) e)
same_length (p ∷ ps) [] m n e = absurd (longer [] p ps (m 0 (omega arith)).0 (omega arith) (sym e))
same_length (p ∷ ps) (q ∷ qs) m n e = go (dec_lt (length ps) (length qs)) (dec_lt (length qs) (length ps))
  where
    go : Dec (length ps < length qs) → Dec (length qs < length ps) → suc (length ps) ≡ suc (length qs)
    go (yes l) k = absurd (longer (p ∷ ps) q qs (n 0 (omega arith)).0 l e)
    go (no l) (yes k) = absurd (longer (q ∷ qs) p ps (m 0 (omega arith)).0 k (sym e))
    go (no l) (no k) = omega arith

same_digits : (a b m r s : ℕ) → r < m → s < m → a * m + r ≡ b * m + s → (a ≡ b) × (r ≡ s)
same_digits a b m r s h k e = (
  sym (digits_div a h) ∙ ap (λ (x : ℕ). x / m) e ∙ digits_div b k,
  sym (digits_mod a h) ∙ ap (λ (x : ℕ). x % m) e ∙ digits_mod b k,
)

same_ports : (ps qs : List ℕ) → length ps ≡ length qs → Numbered ps → Numbered qs → route_of_ports ps ≡ route_of_ports qs → ps ≡ qs
unfolding route_of_ports clamp
same_ports [] [] l m n e = refl
same_ports [] (q ∷ qs) l m n e = absurd (omega arith)
same_ports (p ∷ ps) [] l m n e = absurd (omega arith)
same_ports (p ∷ ps) (q ∷ qs) l m n e =
    let k : length qs ≡ length ps = omega arith in
    let b : route_of_ports qs < 16 ^ length ps = rw (sym k) (route_below qs) in
    let d = same_digits (clamp p) (clamp q) (16 ^ length ps) (route_of_ports ps) (route_of_ports qs) (route_below ps) b (rw k at e) in
    let h : p ≡ q = omega (arith, d.0, m 0 (omega arith), n 0 (omega arith)) in
    rw (h, same_ports ps qs (sym k) (others p ps m) (others q qs n) d.1)

-- Two ways, in any two lists of hubs and over any numbers of hubs, whose ports are all numbered from 1 to 15:
-- if their route strings are equal, then they have the same ports.
pub told_apart : (hubs hubs' : List ℕ) (at at' port port' d d' : ℕ)
    → Numbered (ports hubs at port d) → Numbered (ports hubs' at' port' d')
    → route_of_ports (ports hubs at port d) ≡ route_of_ports (ports hubs' at' port' d')
    → ports hubs at port d ≡ ports hubs' at' port' d'
told_apart hubs hubs' at at' port port' d d' m n e = same_ports _ _ (same_length _ _ m n e) m n e

held : (before after : List ℕ) (p : ℕ) → 15 ≤ p → route_of_ports (before ++ (p ∷ after)) ≡ route_of_ports (before ++ (15 ∷ after))
unfolding route_of_ports clamp
held [] after p h = let c : clamp p ≡ 15 = omega arith in rw c
held (b ∷ before) after p h =
    let k : length (before ++ (p ∷ after)) ≡ length (before ++ (15 ∷ after)) = simp length-append in
    rw (k, held before after p h)

-- A port above 15, anywhere on the way, gives the route string of port 15.
pub above_fifteen : (before after : List ℕ) (p : ℕ) → 15 < p → route_of_ports (before ++ (p ∷ after)) ≡ route_of_ports (before ++ (15 ∷ after))
above_fifteen before after p h = held before after p (omega arith)

-- So sockets 15 and up of one hub are not told apart.
pub at_most_fifteen : (before after : List ℕ) (p q : ℕ) → 15 ≤ p → 15 ≤ q
    → route_of_ports (before ++ (p ∷ after)) ≡ route_of_ports (before ++ (q ∷ after))
at_most_fifteen before after p q h k = held before after p h ∙ sym (held before after q k)
