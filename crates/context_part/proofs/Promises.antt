-- The blocks of two contexts.
use Prim.Native.Nat.{ℕ, ◌+◌, ◌*◌}
use mathlib.Core.Path.{◌≡◌, refl, sym, ◌∙◌}
use mathlib.Core.Logic.{◌⊎◌, inl, inr}
use mathlib.Core.Bool.{Bool, true, false, cond}
use mathlib.Core.List.{List}
use Rattle.std.proofs.Common.{Some, None, Err, Option}
use native.Mathlib.Omega.{arith}
use lib.ListN.{length}
use Rattle.function_answer.specs.declared.Refusal.TheVariants.{ContextLength}
use Rattle.context_part.specs.Part.{are_spaced, spacing_of, block_place, placed_block}
use Rattle.context_part.specs.Promises.{Lengths, BlockPromise}
use Rattle.context_part.proofs.Laws.{Spaced, spacing_facts, no_spacing, no_dci, block_placed, Found, placed_facts, nothing_shown, part_inside, part_is}

spacing_some : (input output s : ℕ) → Lengths input output s → spacing_of input output ≡ Some s
unfolding spacing_of are_spaced
spacing_some input output s (inl t) = rw (t.0, t.1, t.2)
spacing_some input output s (inr t) = rw (t.0, t.1, t.2)

lengths_of : (input output s : ℕ) → Spaced input output s → Lengths input output s
lengths_of input output s v = go v.either
  where
    go : (s ≡ 32) ⊎ (s ≡ 64) → Lengths input output s
    go (inl e) = inl (e, omega (arith, v.long), omega (arith, v.short))
    go (inr e) = inr (e, omega (arith, v.long), omega (arith, v.short))

same_spacing : (input output s t : ℕ) → Lengths input output s → Lengths input output t → s ≡ t
same_spacing input output s t (inl a) (inl b) = omega (arith, a.0, b.0)
same_spacing input output s t (inl a) (inr b) = absurd (omega (arith, a.1, b.1))
same_spacing input output s t (inr a) (inl b) = absurd (omega (arith, a.1, b.1))
same_spacing input output s t (inr a) (inr b) = omega (arith, a.0, b.0)

module _ (input output : ℕ) (which : Bool) where
  refused : ((s : ℕ) → Lengths input output s → ⊥) → (dci : ℕ) → placed_block input output which dci ≡ Err ContextLength
  refused n dci = go (spacing_of input output) refl
    where
      go : (x : Option ℕ) → spacing_of input output ≡ x → placed_block input output which dci ≡ Err ContextLength
      go (Some s) e = absurd (n s (lengths_of input output s (spacing_facts input output s e)))
      go None e = sym (no_spacing input output dci which e)

  blocks_next : (dci s t : ℕ) → Lengths input output s → Lengths input output t → block_place which dci * s + s ≡ block_place which (dci + 1) * t
  blocks_next dci s t v w = rw (← same_spacing input output s t v w) (go which v)
    where
      go : (b : Bool) → Lengths input output s → block_place b dci * s + s ≡ block_place b (dci + 1) * s
      go true (inl x) = rw x.0 (omega arith)
      go true (inr x) = rw x.0 (omega arith)
      go false (inl x) = rw x.0 (omega arith)
      go false (inr x) = rw x.0 (omega arith)

  blocks_end : (s : ℕ) → Spaced input output s → block_place which 31 * s + s ≡ cond which output input
  blocks_end s v = go which
    where
      go : (b : Bool) → block_place b 31 * s + s ≡ cond b output input
      go true = omega (arith, v.short)
      go false = omega (arith, v.long)

length_of : (which : Bool) (input output : List ℕ) → cond which (length output) (length input) ≡ length (cond which output input)
length_of true input output = refl
length_of false input output = refl

pub blocks : BlockPromise
blocks input output which =
    let long = length input in
    let short = length output in
    record {
      lengths = λ n dci. refused long short which n dci;
      no_endpoint = λ s v dci h. sym (no_dci long short dci s which (spacing_some long short s v) h);
      some = λ s v dci low high. (_, sym (block_placed long short dci s which (spacing_some long short s v) low high _ refl));
      shown = λ dci p e. sym (part_is input output which dci p e);
      nothing = λ dci r e. sym (nothing_shown input output which dci r e);
      whole = λ s v dci p e.
          let f : Found long short which dci p = placed_facts long short dci which p e in
          rw f.is (same_spacing long short f.spacing s (lengths_of long short f.spacing f.seen.spaced) v);
      inside = λ dci p e. rw (length_of which input output) at ((part_inside input output which dci p e).0);
      next = λ dci p q e g.
          let f : Found long short which dci p = placed_facts long short dci which p e in
          let k : Found long short which (dci + 1) q = placed_facts long short (dci + 1) which q g in
          rw (f.is, k.is)
          (blocks_next long short which dci f.spacing k.spacing (lengths_of long short f.spacing f.seen.spaced) (lengths_of long short k.spacing k.seen.spaced));
      last = λ p e.
          let f : Found long short which 31 p = placed_facts long short 31 which p e in
          rw f.is (blocks_end long short which f.spacing f.seen.spaced ∙ length_of which input output);
    }
