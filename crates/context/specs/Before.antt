-- What a Configure is given where there are no companions: at speeds 1 to 3 it is what it was before 02's request 11.
use Rattle.std.specs.Prelude.{ℕ, ◌+◌, false, List, [], ◌∷◌, ◌++◌, ◌≡◌}
use Rattle.def.specs.Speed.{is_super}
use Rattle.descriptor.specs.Word.{endpoint_descriptor}
use Rattle.transfer.specs.Routes.{Queue, ring_for}
use Rattle.context_block.specs.Fields.{ADD-FLAG, INTERFACE-NUMBER, ALTERNATE-SETTING, CONTEXT-ENTRIES}
use Rattle.context_block.specs.FieldWrite.{◌:=◌}
use Rattle.context_block.specs.Blocks.{changed, word_dci, drop_flags}
use Rattle.context_block.specs.Promises.{fields_before}
use Rattle.context.specs.Place.{Write, in_block, CONTROL, SLOT}
use Rattle.context.specs.Steps.{context_entries, configure_writes}

unfoldable pub add_all_before : ℕ → List Queue → List ℕ → List Write
add_all_before speed queues [] = []
add_all_before speed queues (w ∷ ws) =
    (in_block CONTROL ((ADD-FLAG (word_dci w) := 1) ∷ [])
    ++ in_block (word_dci w + 1) (fields_before speed (endpoint_descriptor w) (ring_for (word_dci w) queues 0)))
    ++ add_all_before speed queues ws

unfoldable pub configure_writes_before : ℕ → ℕ → ℕ → List ℕ → List ℕ → List Queue → List ℕ → List Write
configure_writes_before speed interface alternate dropped added queues dcis =
    in_block CONTROL (changed ++ ((INTERFACE-NUMBER := interface) ∷ (ALTERNATE-SETTING := alternate) ∷ drop_flags dropped))
    ++ (add_all_before speed queues added ++ in_block SLOT ((CONTEXT-ENTRIES := context_entries dropped dcis added) ∷ []))

abbrev pub BeforePromise : Type 0
BeforePromise =
    (speed interface alternate : ℕ) (dropped added : List ℕ) (queues : List Queue) (dcis : List ℕ) →
    is_super speed ≡ false →
    configure_writes speed interface alternate dropped added queues dcis
    ≡ configure_writes_before speed interface alternate dropped added queues dcis
