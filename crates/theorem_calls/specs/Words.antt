-- 01's log words: each command's, with its operands.
use Rattle.std.specs.Prelude.{ℕ}
use Rattle.command.specs.Command.{log_word}

abbrev pub address : ℕ
address = log_word 1 0 0

abbrev pub evaluate : ℕ
evaluate = log_word 2 0 0

abbrev pub configure : ℕ
configure = log_word 3 0 0

abbrev pub stop : (dci : ℕ) → ℕ
stop dci = log_word 4 dci 0

abbrev pub resume : (dci : ℕ) → ℕ
resume dci = log_word 5 dci 0

abbrev pub set_interface : (interface alternate : ℕ) → ℕ
set_interface interface alternate = log_word 6 interface alternate

abbrev pub set_value : (value : ℕ) → ℕ
set_value value = log_word 7 value 0

abbrev pub read_header : ℕ
read_header = log_word 8 0 0

abbrev pub read_configuration : ℕ
read_configuration = log_word 9 0 0

abbrev pub read_device : ℕ
read_device = log_word 10 0 0

abbrev pub read_config : (index : ℕ) → ℕ
read_config index = log_word 11 index 0

abbrev pub disable : ℕ
disable = log_word 12 0 0
