-- Commands: the words of the log and the outcomes, from 01, "Log" and "Outcomes".
use Rattle.std.specs.Prelude.{ℕ, ◌+◌, ◌*◌, ◌/◌, ◌^◌, cond, List, eqb, ltb, length, get_or}
use Rattle.command.specs.declared.Command.{Command}
use Rattle.command.specs.declared.Command.TheVariants as command
use Rattle.command.specs.declared.Sent.{Sent}
use Rattle.command.specs.declared.Sent.TheVariants.{Done, Failed, Cut}

-- How many words the log of a call has at least.
abbrev pub LOG-ROOM : ℕ
LOG-ROOM = 64

-- A log word, 32 bits: operation 4, first 8, second 8.
abbrev pub log_word : ℕ → ℕ → ℕ → ℕ
log_word operation first second = operation * 2 ^ 28 + first * 2 ^ 20 + second * 2 ^ 12

-- The operation of a log word.
abbrev pub operation_of : ℕ → ℕ
operation_of word = word / 2 ^ 28

-- The word of each command; missing operands are 0.
unfoldable pub command_word : Command → ℕ
command_word command.Address = log_word 1 0 0
command_word command.Evaluate = log_word 2 0 0
command_word command.Configure = log_word 3 0 0
command_word (command.Stop dci) = log_word 4 dci.0 0
command_word (command.Resume dci) = log_word 5 dci.0 0
command_word (command.SetInterface interface alternate) = log_word 6 interface alternate
command_word (command.SetConfiguration value) = log_word 7 value 0
command_word command.ReadHeader = log_word 8 0 0
command_word command.ReadConfiguration = log_word 9 0 0
command_word command.ReadDevice = log_word 10 0 0
command_word (command.ReadConfig index) = log_word 11 index 0
command_word command.Disable = log_word 12 0 0

-- Stop and Resume of an endpoint by its number.
abbrev pub stop_command : ℕ → Command
stop_command dci = command.Stop (record { 0 = dci })

abbrev pub resume_command : ℕ → Command
resume_command dci = command.Resume (record { 0 = dci })

-- The outcome of command number n: byte n, 0 being done; when none is left the call is cut.
unfoldable pub outcome_at : List ℕ → ℕ → Sent
outcome_at outcomes n =
    cond (ltb n (length outcomes)) (cond (eqb (get_or outcomes n 0) 0) Done (Failed (get_or outcomes n 0))) Cut
