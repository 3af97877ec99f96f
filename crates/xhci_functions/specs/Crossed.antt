-- The functions outside a slot across the C boundary.
use Rattle.std.specs.Prelude.{ℕ, List, Result, Ok, Err}
use Rattle.answer.specs.declared.Answered.{Answered}
use Rattle.function_answer.specs.declared.Refusal.{Refusal}
use Rattle.function_answer.specs.Answer.{Left, number, count_of}
use Rattle.context_part.specs.declared.Part.{Part}
use Rattle.xhci_functions.specs.declared.Placed.{Placed}

-- What a function returns, and leaves in the memory that it is lent.
pub record Crossed : Type 0 where
  pub answered : Answered
  pub memory : List ℕ

abbrev pub crosses : Answered → List ℕ → Crossed
crosses answered memory = record { answered = answered; memory = memory }

unfoldable pub answered_of : Result ℕ Refusal → Answered
answered_of a = record { answer = number a; code = 0; count = count_of a }

unfoldable pub crossed : Left → Crossed
crossed left = crosses (answered_of left.answer) left.memory

-- Where a block stands; nowhere where it is refused.
unfoldable pub placed_of : Result Part Refusal → Placed
placed_of (Ok part) = record { answer = 0; offset = part.offset; length = part.length }
placed_of (Err refusal) = record { answer = number (Err refusal); offset = 0; length = 0 }
