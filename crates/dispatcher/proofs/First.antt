-- What the search for a waiting slot finds.
use Prim.Native.Nat.{ℕ, zero, suc, ◌+◌, ◌-◌, ◌%◌, ◌<◌, ◌≤◌}
use mathlib.Core.Path.{◌≡◌, refl, ◌∙◌}
use mathlib.Core.Logic.{◌⊎◌, inl, inr}
use mathlib.Core.Bool.{Bool, true, false, cond}
use native.Mathlib.Omega.{arith}
use lib.Dec.{leb}
use lib.ListN.{get_or}
use borrow.Author.Tests.{eqb-true, leb-true, leb-false}
use Rattle.laws.proofs.Cases.{Decided, decided}
use Rattle.dispatcher.specs.declared.Dispatcher.{Dispatcher}
use Rattle.dispatcher.specs.Dispatcher.{waiting, first_waiting, next_slot}

-- None of k slots from one on waits.
abbrev pub NoneOf : (ℕ → Bool) → ℕ → ℕ → Type 0
NoneOf p k at = (i : ℕ) → i < k → p ((at + i) % 256) ≡ false

-- The first that does, and how far it is.
pub record FirstAt (p : ℕ → Bool) (k at r : ℕ) : Type 0 where
  pub far : ℕ
  pub near : far < k
  pub place : r ≡ (at + far) % 256
  pub here : p r ≡ true
  pub none : NoneOf p far at

-- Which of the two the search finds.
abbrev pub Sought : (ℕ → Bool) → ℕ → ℕ → ℕ → Type 0
Sought p k at r = ((r ≡ 256) × NoneOf p k at) ⊎ FirstAt p k at r

none_more : (p : ℕ → Bool) (k at : ℕ) → p (at % 256) ≡ false → NoneOf p k (at + 1) → NoneOf p (suc k) at
none_more p k at e f zero h = let z : at + 0 ≡ at = omega arith in rw z e
none_more p k at e f (suc i) h = let z : at + suc i ≡ at + 1 + i = omega arith in rw z (f i (omega arith))

pub first_is : (p : ℕ → Bool) (k at : ℕ) → Sought p k at (first_waiting p k at)
unfolding first_waiting
first_is p zero at = inl (refl, λ i h. absurd (omega arith))
first_is p (suc k) at = go (decided (p (at % 256))) (first_is p k (at + 1))
  where
    go : Decided (p (at % 256)) → Sought p k (at + 1) (first_waiting p k (at + 1)) →
        Sought p (suc k) at (cond (p (at % 256)) (at % 256) (first_waiting p k (at + 1)))
    go (inl e) ih =
        let z : at + 0 ≡ at = omega arith in
        rw e (inr (record { far = 0; near = omega arith; place = rw z; here = e; none = λ i h. absurd (omega arith) }))
    go (inr e) (inl ih) = rw e (inl (ih.0, none_more p k at e ih.1))
    go (inr e) (inr ih) =
        let z : at + 1 + ih.far ≡ at + suc ih.far = omega arith in
        rw e (inr
        (record {
          far = suc ih.far;
          near = let l = ih.near in omega arith;
          place = ih.place ∙ rw z;
          here = ih.here;
          none = none_more p ih.far at e ih.none;
        }))

-- What a turn finds.
pub next_found : (d : Dispatcher) → Sought (waiting d.marks) 256 d.from (next_slot d)
unfolding next_slot
next_found d = first_is (waiting d.marks) 256 d.from

-- What it finds below 256 waits.
pub next_mark : (d : Dispatcher) → next_slot d < 256 → get_or d.marks (next_slot d) 0 ≡ 2
unfolding waiting
next_mark d h = go (next_found d)
  where
    go : Sought (waiting d.marks) 256 d.from (next_slot d) → get_or d.marks (next_slot d) 0 ≡ 2
    go (inl n) = absurd (omega (arith, n.0))
    go (inr f) = eqb-true (get_or d.marks (next_slot d) 0) 2 f.here

-- How far a slot lies from one on, and that the search gets there.
unfoldable pub distance : ℕ → ℕ → ℕ
distance at slot = cond (leb at slot) (slot - at) (256 + slot - at)

pub far_from : (at slot : ℕ) → at ≤ 256 → slot < 256 →
    ((at ≤ slot) × (distance at slot ≡ slot - at)) ⊎ ((slot < at) × (distance at slot ≡ 256 + slot - at))
unfolding distance
far_from at slot h g = go (decided (leb at slot))
  where
    go : Decided (leb at slot) → ((at ≤ slot) × (cond (leb at slot) (slot - at) (256 + slot - at) ≡ slot - at))
        ⊎ ((slot < at) × (cond (leb at slot) (slot - at) (256 + slot - at) ≡ 256 + slot - at))
    go (inl e) = inl (leb-true at slot e, rw e)
    go (inr e) = inr (leb-false at slot e, rw e)

pub distance_there : (at slot : ℕ) → at ≤ 256 → slot < 256 → ((at + distance at slot) % 256 ≡ slot) × (distance at slot < 256)
distance_there at slot h g = go (far_from at slot h g)
  where
    go : ((at ≤ slot) × (distance at slot ≡ slot - at)) ⊎ ((slot < at) × (distance at slot ≡ 256 + slot - at)) →
        ((at + distance at slot) % 256 ≡ slot) × (distance at slot < 256)
    go (inl e) = (omega (arith, e.0, e.1), omega (arith, e.0, e.1))
    go (inr e) = (omega (arith, e.0, e.1), omega (arith, e.0, e.1))
