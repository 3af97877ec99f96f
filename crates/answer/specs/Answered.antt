-- What a call returns to C.
use Rattle.std.specs.Prelude.{ℕ}
use Rattle.answer.specs.declared.Answer.{Answer}
use Rattle.answer.specs.declared.Answered.{Answered}
use Rattle.answer.specs.Answer.{number, code_of}

unfoldable pub answered_of : Answer → ℕ → Answered
answered_of a count = record { answer = number a; code = code_of a; count = count }
