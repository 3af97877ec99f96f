-- The rings that a claim draws, where they stand in arrays.
use Prim.Native.Nat.{ℕ, ◌+◌, ◌-◌, ◌≤◌}
use mathlib.Core.Path.{◌≡◌, sym, ap, ◌∙◌}
use mathlib.Core.List.{List, ◌++◌}
use native.Mathlib.Nat.{add-sub_cancel_left}
use native.Mathlib.Omega.{arith}
use lib.ListN.{length, take, drop, length-drop}
use lib.Seq.{length-take-le, take-add, take-take, drop_at}
use Rattle.record_ring.specs.Store.{sorted, lowest}
use Rattle.record_ring.proofs.Sorted.{length_sorted}

-- The free rings stand rising from an index on, up to the number of those given.
module _ (g first : ℕ) (rings free : List ℕ) (room : g ≤ length rings) (low : first ≤ g) (kept : drop first (take g rings) ≡ sorted free) where
  count : g - first ≡ length free
  count =
      omega (
        arith,
        length-drop first (take g rings),
        length-take-le g rings room,
        ap length kept,
        length_sorted free,
      )

  pub drawn_inside : (k : ℕ) → k ≤ length free → first + k ≤ g
  drawn_inside k h = omega (arith, count)

  front : take (g - first) (drop first rings) ≡ sorted free
  front =
      let e : first + (g - first) ≡ g = omega arith in
      let s : take g rings ≡ take first rings ++ take (g - first) (drop first rings) = ap (λ (k : ℕ). take k rings) (sym e) ∙ take-add first (g - first) rings in
      sym (drop_at (take first rings) (take (g - first) (drop first rings)) first (length-take-le first rings (omega arith)))
      ∙ ap (drop first) (sym s)
      ∙ kept

  pub drawn_part : (k : ℕ) → k ≤ length free → take (first + k - first) (drop first rings) ≡ lowest k free
  unfolding lowest
  drawn_part k h =
      rw add-sub_cancel_left
      (sym (take-take k (g - first) (drop first rings) (omega (arith, count))) ∙ ap (take k) front)

-- What the code makes of them.
module _ (g first : ℕ) (rings free words : List ℕ) (room : length rings ≡ 64) (few : g ≤ 64)
    (kept : (first ≤ g) × (drop first (take g rings) ≡ sorted free))
    (enough : length words ≤ length free) where
  pub drawn_room : first + length words ≤ length rings
  drawn_room = omega (arith, drawn_inside g first rings free (omega arith) kept.0 kept.1 (length words) enough)

  pub drawn_lowest : take (first + length words - first) (drop first rings) ≡ lowest (length words) free
  drawn_lowest = drawn_part g first rings free (omega arith) kept.0 kept.1 (length words) enough
