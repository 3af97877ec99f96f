-- What one turn of each loop comes to.
use Prim.Native.Nat.{ℕ, suc, ◌+◌, ◌*◌, ◌<◌, ◌≤◌}
use mathlib.Core.Path.{◌≡◌, sym, ap, ◌∙◌}
use mathlib.Core.List.{List}
use native.Mathlib.Numerals.{add-one}
use native.Mathlib.Omega.{arith}
use lib.ListN.{length, drop, get_or}
use lib.Seq.{drop-cons}
use Rattle.context_field.specs.Field.{write_field}
use Rattle.context_block.specs.Fields.{ADD-FLAG, DROP-FLAG}
use Rattle.context_block.specs.FieldWrite.{fields_written}
use Rattle.context_block.specs.Blocks.{drop_flags, word_dci, endpoint_fields}
use Rattle.descriptor.specs.declared.EndpointDescriptor.{EndpointDescriptor}
use Rattle.descriptor.specs.Endpoint.{dci_of}
use Rattle.descriptor.specs.Word.{endpoint_descriptor}
use Rattle.descriptor.proofs.Laws.{dci_small, fields_fit}
use Rattle.transfer.specs.Routes.{Queue, ring_for}
use Rattle.context.specs.Place.{CONTROL, Spaced, in_block, on_part, written}
use Rattle.context.specs.Steps.{add_writes}
use Rattle.context.proofs.Laws.{written_block, block_room}
use Rattle.context_block_writer.proofs.Laws.{control_write}

-- One more word dropped.
pub drop_next :
    (s : ℕ) (ws ctx ctx' : List ℕ) (i d : ℕ) →
    i < length ws →
    32 ≤ length ctx →
    d ≡ word_dci (get_or ws i 0) →
    d < 32 →
    ctx' ≡ write_field ctx (DROP-FLAG d) 1 →
    written s (in_block CONTROL (drop_flags (drop i ws))) ctx ≡ written s (in_block CONTROL (drop_flags (drop (i + 1) ws))) ctx'
unfolding drop_flags in_block written
drop_next s ws ctx ctx' i d h room e low p =
    rw (p, add-one i, drop-cons ws i 0, ← e)
    (ap (written s (in_block CONTROL (drop_flags (drop (suc i) ws)))) (control_write s (DROP-FLAG d) 1 ctx room (omega arith, omega arith)))

-- The Dci of an endpoint word.
pub dci_given : (w d : ℕ) (e : EndpointDescriptor) → e ≡ endpoint_descriptor w → d ≡ dci_of e.address → d ≡ word_dci w
unfolding word_dci
dci_given w d e h k = k ∙ rw h

pub dci_below : (w d : ℕ) (e : EndpointDescriptor) → e ≡ endpoint_descriptor w → d ≡ dci_of e.address → d < 32
dci_below w d e h k = rw (k, h) (dci_small _ (fields_fit w).address)

-- Its block is within the context.
pub endpoint_room :
    (s len w d : ℕ) (e : EndpointDescriptor) →
    Spaced s len →
    e ≡ endpoint_descriptor w →
    d ≡ dci_of e.address →
    s * (d + 1) + 32 ≤ len
endpoint_room s len w d e r h k = block_room s (d + 1) len r (omega (arith, dci_below w d e h k))

-- A word added.
pub word_added :
    (s speed : ℕ) (qs : List Queue) (w d ring : ℕ) (ctx ctx' : List ℕ) →
    32 ≤ length ctx →
    d ≡ word_dci w →
    d < 32 →
    ring ≡ ring_for d qs 0 →
    ctx' ≡ write_field ctx (ADD-FLAG d) 1 →
    on_part (s * (d + 1)) 32 (fields_written (endpoint_fields speed (endpoint_descriptor w) ring)) ctx' ≡ written s (add_writes speed qs w) ctx
unfolding add_writes in_block written
word_added s speed qs w d ring ctx ctx' room e low r p =
    rw (← e, r, p, ← control_write s (ADD-FLAG d) 1 ctx room (omega arith, omega arith))
    (sym (written_block s (d + 1) (endpoint_fields speed (endpoint_descriptor w) (ring_for d qs 0)) _))
