-- The context interval that xHCI 1.2, section 6.2.3.6, decides, in the block that a Configure leaves.
use Rattle.std.specs.Prelude.{ℕ, ◌+◌, min, max, ◌≡◌, false, List, ◌∷◌, ◌++◌}
use Rattle.def.specs.Speed.{FULL}
use Rattle.descriptor.specs.declared.TransferType.TheVariants.{Isochronous}
use Rattle.descriptor.specs.Word.{endpoint_descriptor}
use Rattle.transfer.specs.Routes.{Queue}
use Rattle.context_block.specs.Fields.{INTERVAL}
use Rattle.context_block.specs.Blocks.{word_dci, some_dci}
use Rattle.context.specs.Place.{read_at}
use Rattle.context.specs.Promises.{ConfigureReads}

-- Of an isochronous endpoint that it adds at Full speed (of several words of an address the last): the byte of the word, held to 1
-- through 16, plus 2.
abbrev pub FullIsochronousInterval : Type 0
FullIsochronousInterval =
    (s interface alternate : ℕ) (dropped added : List ℕ) (queues : List Queue) (dcis was ctx : List ℕ) →
    ConfigureReads s FULL interface alternate dropped added queues dcis was ctx →
    (xs ys : List ℕ) (w : ℕ) →
    added ≡ xs ++ (w ∷ ys) →
    some_dci (word_dci w) ys ≡ false →
    (endpoint_descriptor w).transfer_type ≡ Isochronous →
    read_at s ctx (word_dci w + 1) INTERVAL ≡ min (max (endpoint_descriptor w).interval 1) 16 + 2
