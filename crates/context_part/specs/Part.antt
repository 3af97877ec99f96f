-- An endpoint's block as a part of an input or an output context: when it is shown, and where it stands.
use Rattle.std.specs.Prelude.{ℕ, ◌+◌, ◌*◌, Bool, cond, ◌&&◌, List, [], Option, Some, None, Result, Ok, Err, eqb, leb, length, take, drop}
use Rattle.function_answer.specs.declared.Refusal.{Refusal}
use Rattle.function_answer.specs.declared.Refusal.TheVariants.{ContextLength, NoEndpoint}
use Rattle.context_part.specs.declared.Part.{Part}

-- Two contexts at a spacing: the input context has 33 blocks, control, slot and Dci 1 to 31, the output context no control block.
unfoldable pub are_spaced : ℕ → ℕ → ℕ → Bool
are_spaced spacing input output = eqb input (33 * spacing) && eqb output (32 * spacing)

-- Their spacing; none where a length is another or the two differ in spacing.
unfoldable pub spacing_of : ℕ → ℕ → Option ℕ
spacing_of input output = cond (are_spaced 32 input output) (Some 32) (cond (are_spaced 64 input output) (Some 64) None)

-- 1, then 4; else the spacing of the block that is shown.
unfoldable pub shown_at : Option ℕ → ℕ → Result ℕ Refusal
shown_at None dci = Err ContextLength
shown_at (Some spacing) dci = cond (leb 1 dci && leb dci 31) (Ok spacing) (Err NoEndpoint)

abbrev pub shown : ℕ → ℕ → ℕ → Result ℕ Refusal
shown input output dci = shown_at (spacing_of input output) dci

-- The block at a place of a context.
unfoldable pub block_at : ℕ → ℕ → List ℕ → List ℕ
block_at spacing place ctx = take spacing (drop (place * spacing) ctx)

-- Dci d is block d of the output context and block d + 1 of the input context.
abbrev pub block_place : Bool → ℕ → ℕ
block_place from_output dci = cond from_output dci (dci + 1)

-- The part of the context that is asked for; no byte where it is refused.
unfoldable pub shown_part : Result ℕ Refusal → Bool → ℕ → List ℕ → List ℕ → List ℕ
shown_part (Ok spacing) from_output dci input output = block_at spacing (block_place from_output dci) (cond from_output output input)
shown_part (Err refusal) from_output dci input output = []

unfoldable pub endpoint_block : Bool → ℕ → List ℕ → List ℕ → List ℕ
endpoint_block from_output dci input output = shown_part (shown (length input) (length output) dci) from_output dci input output

-- Where it begins in its context, and how many bytes it has.
unfoldable pub placed_at : Result ℕ Refusal → Bool → ℕ → Result Part Refusal
placed_at (Ok spacing) from_output dci = Ok (record { offset = block_place from_output dci * spacing; length = spacing })
placed_at (Err refusal) from_output dci = Err refusal

unfoldable pub placed_block : ℕ → ℕ → Bool → ℕ → Result Part Refusal
placed_block input output from_output dci = placed_at (shown input output dci) from_output dci
