-- What reading a word promises: it gives back each command, and there is no other word that it takes for one.
use Rattle.std.specs.Prelude.{ℕ, ◌<◌, ◌≡◌, ◌⊎◌}
use Rattle.command.specs.declared.Command.{Command}
use Rattle.command.specs.declared.Command.TheVariants as command
use Rattle.command.specs.Command.{command_word}
use Rattle.command_reader.specs.declared.Logged.{Logged}
use Rattle.command_reader.specs.Read.{logged, command_of}

-- Each command by its numbers.
unfoldable pub numbers : Command → Logged
numbers command.Address = logged 1 0 0
numbers command.Evaluate = logged 2 0 0
numbers command.Configure = logged 3 0 0
numbers (command.Stop dci) = logged 4 dci.0 0
numbers (command.Resume dci) = logged 5 dci.0 0
numbers (command.SetInterface interface alternate) = logged 6 interface alternate
numbers (command.SetConfiguration value) = logged 7 value 0
numbers command.ReadHeader = logged 8 0 0
numbers command.ReadConfiguration = logged 9 0 0
numbers command.ReadDevice = logged 10 0 0
numbers (command.ReadConfig index) = logged 11 index 0
numbers command.Disable = logged 12 0 0

-- The word of a command, whose operands are bytes, gives back its numbers.
abbrev pub GivesBack : Type 0
GivesBack =
    (c : Command) → (numbers c).first < 256 → (numbers c).second < 256 → command_of (command_word c) ≡ numbers c

-- A word that is some command's, and reads as it.
pub record Named (word : ℕ) : Type 0 where
  pub which : Command
  pub is_word : word ≡ command_word which
  pub read : command_of word ≡ numbers which

-- Every other word reads as none.
abbrev pub NoOther : Type 0
NoOther = (word : ℕ) → (command_of word ≡ logged 0 0 0) ⊎ Named word
