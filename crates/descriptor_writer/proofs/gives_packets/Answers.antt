use Rattle.descriptor.proofs.Kind.{kind_true, kind_equal}
use Rattle.descriptor_writer.specs.Written.{gives_packets}
use Rattle.descriptor_writer.proofs.gives_packets.Goals as goal
use Rattle.descriptor_writer.proofs.gives_packets.Goals.{then-eq, else-eq}

pub returns : goal.returns
unfolding gives_packets
returns c =
    elim c.if-eq.branch [
      | then-eq w ↦
          rw (w.result-is, kind_true _ _ c.word_kind.ensures _ _ c.eq.ensures w.if-eq.true, w.endpoint_descriptor.ensures)
      | else-eq w ↦
          rw (w.result-is, ← kind_equal _ _ c.word_kind.ensures _ _ c.eq.ensures, w.if-eq.false)
    ]
