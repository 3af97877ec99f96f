-- The table of first packet sizes holds their rule; which speeds are SuperSpeed, and what a packet byte is there.
use Prim.Native.Nat.{ℕ, ◌<◌, ◌≤◌}
use mathlib.Core.Path.{◌≡◌, refl}
use mathlib.Core.Logic.{◌⊎◌, ⊎_elim, inl, inr}
use mathlib.Core.Bool.{Bool, true, false, not, ◌&&◌, ◌||◌}
use native.Mathlib.Decide.{dec_lt}
use mathlib.Core.List.{List, [], ◌∷◌}
use native.Mathlib.Omega.{arith}
use borrow.Author.Tests.{eqb-true, eq-eqb, ne_eqb, le-leb, lt-leb}
use lib.Dec.{eqb, leb}
use lib.ListN.{get_or}
use Rattle.laws.proofs.Cases.{or_right}
use Rattle.laws.proofs.Computed.{all, all_below}
use Rattle.def.specs.Speed.{SUPER, SUPER-PLUS, first_packet_size, is_super, exponent_ok}

sizes : List ℕ
sizes = 0 ∷ 64 ∷ 8 ∷ 64 ∷ 512 ∷ 512 ∷ []

right : ℕ → Bool
right s = eqb (get_or sizes s 0) (first_packet_size s)

all_right : all right 6 ≡ true
unfolding right sizes first_packet_size
all_right = refl

pub table_right : (s : ℕ) → s < 6 → get_or (0 ∷ 64 ∷ 8 ∷ 64 ∷ 512 ∷ 512 ∷ []) s 0 ≡ first_packet_size s
unfolding right sizes
table_right s h = eqb-true (get_or sizes s 0) (first_packet_size s) (all_below right 6 all_right s h)

pub size_unknown : (s : ℕ) → 5 < s → first_packet_size s ≡ 0
unfolding first_packet_size
size_unknown s h =
    rw (ne_eqb s 1 (omega arith), ne_eqb s 2 (omega arith), ne_eqb s 3 (omega arith), ne_eqb s 4 (omega arith), ne_eqb s 5 (omega arith))

pub super_true : (s : ℕ) → SUPER ≤ s → s ≤ SUPER-PLUS → is_super s ≡ true
unfolding is_super
super_true s l h = rw (le-leb SUPER s l, le-leb s SUPER-PLUS h)

pub super_false : (s : ℕ) → (s < SUPER) ⊎ (SUPER-PLUS < s) → is_super s ≡ false
unfolding is_super
super_false s =
    ⊎_elim (λ l. rw (lt-leb SUPER s l)) (λ h. rw (le-leb SUPER s (omega (arith, h)), lt-leb s SUPER-PLUS h))

-- At SuperSpeed the byte is 9.
pub exponent_nine : (s b : ℕ) → is_super s ≡ true → exponent_ok s b ≡ true → b ≡ 9
unfolding exponent_ok
exponent_nine s b e o = eqb-true b 9 (rw e at o)

-- and 9 there is enough
pub exponent_fits : (s b : ℕ) → ((s ≡ SUPER) ⊎ (s ≡ SUPER-PLUS) → b ≡ 9) → exponent_ok s b ≡ true
unfolding exponent_ok is_super
exponent_fits s b nine = go (dec_lt s SUPER) (dec_lt SUPER-PLUS s) (dec_lt s SUPER-PLUS)
  where
    super : (s ≡ SUPER) ⊎ (s ≡ SUPER-PLUS) → (not (leb SUPER s && leb s SUPER-PLUS) || eqb b 9) ≡ true
    super e = or_right (not (leb SUPER s && leb s SUPER-PLUS)) (eqb b 9) (eq-eqb b 9 (nine e))

    go : Dec (s < SUPER) → Dec (SUPER-PLUS < s) → Dec (s < SUPER-PLUS) → (not (leb SUPER s && leb s SUPER-PLUS) || eqb b 9) ≡ true
    go (yes l) h e = rw (lt-leb SUPER s l)
    go (no l) (yes h) e = rw (le-leb SUPER s (omega arith), lt-leb s SUPER-PLUS h)
    go (no l) (no h) (yes e) = super (inl (omega arith))
    go (no l) (no h) (no e) = super (inr (omega arith))
