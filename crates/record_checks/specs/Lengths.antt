-- The lengths of what is lent to a call.
use Rattle.std.specs.Prelude.{ℕ, ◌+◌, ◌*◌, eqb, leb}
use Rattle.answer.specs.declared.Answer.TheVariants as answer
use Rattle.answer.specs.Check.{Check, unless}
use Rattle.command.specs.Command.{LOG-ROOM}

-- 1, 2, 3, and then the call's own.
abbrev pub lengths_check : ℕ → ℕ → ℕ → ℕ → ℕ → Check → Check
lengths_check spacing slots ctx routes log next =
    unless (eqb ctx (33 * spacing)) answer.ContextLength
    (unless (eqb routes (32 * (slots + 1))) answer.RoutesLength
    (unless (leb LOG-ROOM log) answer.LogTooShort next))
