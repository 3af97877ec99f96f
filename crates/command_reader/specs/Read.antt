-- A word of the log, read: 01, "Log".
use Rattle.std.specs.Prelude.{ℕ, ◌/◌, ◌%◌, ◌^◌, Bool, cond, ◌&&◌, ◌||◌, eqb, leb}
use Rattle.command.specs.Command.{operation_of}
use Rattle.command_reader.specs.declared.Logged.{Logged}

abbrev pub logged : ℕ → ℕ → ℕ → Logged
logged operation first second = record { operation = operation; first = first; second = second }

-- Stop, Resume, SetConfiguration and ReadConfig have one operand, SetInterface two.
unfoldable pub has_one : ℕ → Bool
has_one operation = eqb operation 4 || (eqb operation 5 || (eqb operation 7 || eqb operation 11))

unfoldable pub has_two : ℕ → Bool
has_two operation = eqb operation 6

-- The lowest bit that a word of this operation may have: below its last operand it is 0.
unfoldable pub lowest_bit : ℕ → ℕ
lowest_bit operation = cond (has_one operation) (2 ^ 20) (cond (has_two operation) (2 ^ 12) (2 ^ 28))

unfoldable pub is_command : ℕ → Bool
is_command word = leb (operation_of word) 12 && eqb (word % lowest_bit (operation_of word)) 0

-- The command of a word, by its numbers; a word of no command has none, as operation 0 has.
unfoldable pub command_of : ℕ → Logged
command_of word =
    cond (is_command word) (logged (operation_of word) (word / 2 ^ 20 % 256) (word / 2 ^ 12 % 256)) (logged 0 0 0)
