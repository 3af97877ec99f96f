-- What it says that a block is shown.
use Prim.Native.Nat.{ℕ, ◌+◌, ◌-◌, ◌*◌, ◌≤◌, ◌<◌}
use mathlib.Core.Path.{◌≡◌, refl, sym, ap, ◌∙◌}
use mathlib.Core.Logic.{◌⊎◌, inl, inr}
use mathlib.Core.Bool.{Bool, true, false, cond, ◌&&◌, and-false}
use mathlib.Core.List.{List, []}
use Rattle.std.proofs.Common.{Option, Some, None, Result, Ok, Err}
use native.Mathlib.Nat.{add-sub_cancel_left}
use native.Mathlib.Omega.{arith}
use borrow.Author.Tests.{eqb-true, leb-true, lt-leb, le-leb}
use lib.Dec.{eqb, leb}
use lib.ListN.{length, take, drop}
use Rattle.laws.proofs.Tests.{and_left, and_right}
use Rattle.laws.proofs.Cases.{Decided, decided}
use Rattle.function_answer.specs.declared.Refusal.{Refusal}
use Rattle.function_answer.specs.declared.Refusal.TheVariants.{ContextLength, NoEndpoint}
use Rattle.context_part.specs.declared.Part.{Part}
use Rattle.context_part.specs.Part.{are_spaced, spacing_of, shown_at, shown, block_at, block_place, shown_part, endpoint_block, placed_at, placed_block}

pub record Spaced (input output spacing : ℕ) : Type 0 where
  pub long : input ≡ 33 * spacing
  pub short : output ≡ 32 * spacing
  pub either : (spacing ≡ 32) ⊎ (spacing ≡ 64)

spaced_at : (k input output : ℕ) → (k ≡ 32) ⊎ (k ≡ 64) → are_spaced k input output ≡ true → Spaced input output k
unfolding are_spaced
spaced_at k input output small e =
    record {
      long = eqb-true _ _ (and_left (eqb input (33 * k)) _ e);
      short = eqb-true _ _ (and_right (eqb input (33 * k)) _ e);
      either = small;
    }

pub spacing_facts : (input output s : ℕ) → spacing_of input output ≡ Some s → Spaced input output s
unfolding spacing_of
spacing_facts input output s e = go (decided (are_spaced 32 input output)) (decided (are_spaced 64 input output))
  where
    go : Decided (are_spaced 32 input output) → Decided (are_spaced 64 input output) → Spaced input output s
    go (inl p) r = let q : Some 32 ≡ Some s = rw p at e in let z : s ≡ 32 = cc in rw z (spaced_at 32 input output (inl refl) p)
    go (inr p) (inl r) = let q : Some 64 ≡ Some s = rw (p, r) at e in let z : s ≡ 64 = cc in rw z (spaced_at 64 input output (inr refl) r)
    go (inr p) (inr r) = let q : ◌≡◌ {A = Option ℕ} None (Some s) = rw (p, r) at e in absurd (cc)

pub record Seen (input output dci spacing : ℕ) : Type 0 where
  pub spaced : Spaced input output spacing
  pub low : 1 ≤ dci
  pub high : dci ≤ 31

seen_at : (input output dci s : ℕ) (x : Option ℕ) → spacing_of input output ≡ x → shown_at x dci ≡ Ok s → Seen input output dci s
unfolding shown_at
seen_at input output dci s None e q = let z : ◌≡◌ {A = Result ℕ Refusal} (Err ContextLength) (Ok s) = q in absurd (cc)
seen_at input output dci s (Some k) e q = go (decided (leb 1 dci && leb dci 31))
  where
    go : Decided (leb 1 dci && leb dci 31) → Seen input output dci s
    go (inl p) =
        let f : ◌≡◌ {A = Result ℕ Refusal} (Ok k) (Ok s) = rw p at q in
        let z : k ≡ s = cc in
        record {
          spaced = spacing_facts input output s (rw z at e);
          low = leb-true 1 dci (and_left (leb 1 dci) _ p);
          high = leb-true dci 31 (and_right (leb 1 dci) _ p);
        }
    go (inr p) = let f : ◌≡◌ {A = Result ℕ Refusal} (Err NoEndpoint) (Ok s) = rw p at q in absurd (cc)

pub shown_facts : (input output dci s : ℕ) → shown input output dci ≡ Ok s → Seen input output dci s
shown_facts input output dci s e = seen_at input output dci s (spacing_of input output) refl e

-- A block lies in its context.
pub block_inside : (input output dci s : ℕ) (which : Bool) → Seen input output dci s →
    (block_place which dci * s + s ≤ cond which output input) × (block_place which dci * s + s ≤ 2112)
block_inside input output dci s which v = go which v.spaced.either
  where
    go : (b : Bool) → (s ≡ 32) ⊎ (s ≡ 64) → (block_place b dci * s + s ≤ cond b output input) × (block_place b dci * s + s ≤ 2112)
    go true (inl e) = let o = v.spaced.short in let h = v.high in rw e (omega (arith, rw e at o), omega arith)
    go true (inr e) = let o = v.spaced.short in let h = v.high in rw e (omega (arith, rw e at o), omega arith)
    go false (inl e) = let o = v.spaced.long in let h = v.high in rw e (omega (arith, rw e at o), omega arith)
    go false (inr e) = let o = v.spaced.long in let h = v.high in rw e (omega (arith, rw e at o), omega arith)

-- The exits of `placed_block`.
pub no_spacing : (input output dci : ℕ) (which : Bool) → spacing_of input output ≡ None → Err ContextLength ≡ placed_block input output which dci
unfolding placed_block placed_at shown_at
no_spacing input output dci which e = rw e

module _ (input output dci s : ℕ) (which : Bool) (e : spacing_of input output ≡ Some s) where
  pub no_dci : (dci < 1) ⊎ (31 < dci) → Err NoEndpoint ≡ placed_block input output which dci
  unfolding placed_block placed_at shown_at
  no_dci (inl h) = rw (e, lt-leb 1 dci h)
  no_dci (inr h) = rw (e, lt-leb dci 31 h, and-false (leb 1 dci))

  module _ (low : 1 ≤ dci) (high : dci ≤ 31) (at : ℕ) (a : at ≡ block_place which dci) where
    seen : Seen input output dci s
    seen = record { spaced = spacing_facts input output s e; low = low; high = high }

    pub at_inside : at * s + s ≤ 2112
    at_inside = rw a (block_inside input output dci s which seen).1

    pub block_placed : Ok (record { offset = at * s; length = s }) ≡ placed_block input output which dci
    unfolding placed_block placed_at shown_at
    block_placed = rw (e, le-leb 1 dci low, le-leb dci 31 high, a)

-- Where a block is placed, and where it is refused.
pub record Found (input output : ℕ) (which : Bool) (dci : ℕ) (p : Part) : Type 0 where
  pub spacing : ℕ
  pub seen : Seen input output dci spacing
  pub shows : shown input output dci ≡ Ok spacing
  pub is : p ≡ record { offset = block_place which dci * spacing; length = spacing }

pub placed_facts : (input output dci : ℕ) (which : Bool) (p : Part) → placed_block input output which dci ≡ Ok p → Found input output which dci p
unfolding placed_block placed_at
placed_facts input output dci which p e = go (shown input output dci) refl
  where
    go : (x : Result ℕ Refusal) → shown input output dci ≡ x → Found input output which dci p
    go (Ok s) k =
        let f : ◌≡◌ {A = Result Part Refusal} (Ok (record { offset = block_place which dci * s; length = s })) (Ok p) = rw k at e in
        record { spacing = s; seen = shown_facts input output dci s k; shows = k; is = cc }
    go (Err r) k = let f : ◌≡◌ {A = Result Part Refusal} (Err r) (Ok p) = rw k at e in absurd (cc)

-- The exits of `endpoint_block`.
module _ (input output : List ℕ) (which : Bool) (dci : ℕ) where
  pub nothing_shown : (r : Refusal) → placed_block (length input) (length output) which dci ≡ Err r → [] ≡ endpoint_block which dci input output
  unfolding placed_block placed_at endpoint_block shown_part
  nothing_shown r e = go (shown (length input) (length output) dci) refl
    where
      go : (x : Result ℕ Refusal) → shown (length input) (length output) dci ≡ x → [] ≡ endpoint_block which dci input output
      go (Ok s) k =
          let f : ◌≡◌ {A = Result Part Refusal} (Ok (record { offset = block_place which dci * s; length = s })) (Err r) = rw k at e in
          absurd (cc)
      go (Err t) k = rw k refl

  module _ (p : Part) (e : placed_block (length input) (length output) which dci ≡ Ok p) where
    found : Found (length input) (length output) which dci p
    found = placed_facts (length input) (length output) dci which p e

    pub part_inside : (p.offset + p.length ≤ cond which (length output) (length input)) × (p.offset + p.length ≤ 2112)
    part_inside = rw found.is (block_inside (length input) (length output) dci found.spacing which found.seen)

    pub part_is : take p.length (drop p.offset (cond which output input)) ≡ endpoint_block which dci input output
    unfolding endpoint_block shown_part block_at
    part_is = rw (found.is, found.shows)

    pub part_shown : (b : Bool) → which ≡ b → take (p.offset + p.length - p.offset) (drop p.offset (cond b output input)) ≡ endpoint_block which dci input output
    part_shown b w = rw (add-sub_cancel_left p.offset p.length) (ap (λ (x : Bool). take p.length (drop p.offset (cond x output input))) (sym w) ∙ part_is)
