use Rattle.descriptor_reader.proofs.Gather.{Gathering}
use Rattle.descriptor_reader.proofs.words.gather.Given as goal

abbrev pub invariant-loop-d : goal.invariant-loop-d
invariant-loop-d l = Gathering l.fn.all.companions l.fn.all.bytes.now l.list l.count l.last l.d-iterator
