-- What the blocks of two contexts are: proofs/Promises.antt proves it.
use Rattle.std.specs.Prelude.{ℕ, ◌+◌, ◌≤◌, ◌<◌, ◌≡◌, ◌⊎◌, Bool, cond, List, [], Result, Ok, Err, length, take, drop}
use Rattle.function_answer.specs.declared.Refusal.{Refusal}
use Rattle.function_answer.specs.declared.Refusal.TheVariants.{ContextLength, NoEndpoint}
use Rattle.context_part.specs.declared.Part.{Part}
use Rattle.context_part.specs.Part.{placed_block, endpoint_block}

-- 1,056 and 1,024 bytes at a spacing of 32, 2,112 and 2,048 at 64.
abbrev pub Lengths : ℕ → ℕ → ℕ → Type 0
Lengths input output spacing =
    ((spacing ≡ 32) × (input ≡ 1056) × (output ≡ 1024)) ⊎ ((spacing ≡ 64) × (input ≡ 2112) × (output ≡ 2048))

-- In one of two contexts: where the block of each Dci is placed, and the part that is shown.
pub record Blocks (input output : ℕ) (ctx : List ℕ) (placed : ℕ → Result Part Refusal) (part : ℕ → List ℕ) : Type 0 where
  -- 1, then 4
  pub lengths : ((spacing : ℕ) → Lengths input output spacing → ⊥) → (dci : ℕ) → placed dci ≡ Err ContextLength
  pub no_endpoint : (spacing : ℕ) → Lengths input output spacing → (dci : ℕ) → (dci < 1) ⊎ (31 < dci) → placed dci ≡ Err NoEndpoint
  pub some : (spacing : ℕ) → Lengths input output spacing → (dci : ℕ) → 1 ≤ dci → dci ≤ 31 → (p : Part) × (placed dci ≡ Ok p)
  -- the part is so many bytes of the context from there on; no byte where it is refused
  pub shown : (dci : ℕ) (p : Part) → placed dci ≡ Ok p → part dci ≡ take p.length (drop p.offset ctx)
  pub nothing : (dci : ℕ) (refusal : Refusal) → placed dci ≡ Err refusal → part dci ≡ []
  -- a whole block
  pub whole : (spacing : ℕ) → Lengths input output spacing → (dci : ℕ) (p : Part) → placed dci ≡ Ok p → p.length ≡ spacing
  pub inside : (dci : ℕ) (p : Part) → placed dci ≡ Ok p → p.offset + p.length ≤ length ctx
  -- each begins where the one before it ends, so no two overlap, and the last ends where the context does
  pub next : (dci : ℕ) (p q : Part) → placed dci ≡ Ok p → placed (dci + 1) ≡ Ok q → p.offset + p.length ≡ q.offset
  pub last : (p : Part) → placed 31 ≡ Ok p → p.offset + p.length ≡ length ctx

abbrev pub BlockPromise : Type 0
BlockPromise =
    (input output : List ℕ) (from_output : Bool) →
    Blocks (length input) (length output) (cond from_output output input)
    (λ dci. placed_block (length input) (length output) from_output dci) (λ dci. endpoint_block from_output dci input output)
