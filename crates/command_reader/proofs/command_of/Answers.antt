use borrow.Author.Tests.{le-leb, lt-leb, eq-eqb, ne_eqb}
use Rattle.command_reader.specs.Read.{is_command, command_of}
use Rattle.command_reader.proofs.command_of.Goals.{then-operation-gt-OPERATIONS-via-then-operation-gt-OPERATIONS, then-operation-gt-OPERATIONS-via-else-operation-gt-OPERATIONS+then-word-lowest_bit-ne0}
use Rattle.command_reader.proofs.command_of.Goals as goal

pub returns-then-operation-gt-OPERATIONS : goal.returns-then-operation-gt-OPERATIONS
unfolding command_of is_command
returns-then-operation-gt-OPERATIONS c = elim c.then-operation-gt-OPERATIONS.branch [
  | then-operation-gt-OPERATIONS-via-then-operation-gt-OPERATIONS w ↦ rw (lt-leb _ _ w.if-operation-gt-OPERATIONS.true)
  | then-operation-gt-OPERATIONS-via-else-operation-gt-OPERATIONS+then-word-lowest_bit-ne0 w ↦
      rw (le-leb _ _ w.if-operation-gt-OPERATIONS.false, ← w.lowest_bit.ensures.lowest, ne_eqb _ _ w.if-word-lowest_bit-ne0.true)
]

pub returns : goal.returns
unfolding command_of is_command
returns c = rw (le-leb _ _ c.if-operation-gt-OPERATIONS.false, ← c.lowest_bit.ensures.lowest, eq-eqb _ _ c.if-word-lowest_bit-ne0.false)
