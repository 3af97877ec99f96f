-- An endpoint added over zeros: what 01's Dci 3 case is about.
use Rattle.std.specs.Prelude.{ℕ, ◌+◌, ◌*◌, ◌^◌, Bool, cond, ◌&&◌, List, [], ◌∷◌, eqb, replicate}
use Rattle.descriptor.specs.Word.{kind, ENDPOINT, COMPANION}
use Rattle.context_field.specs.Field.{word_at}
use Rattle.transfer.specs.Routes.{queues}
use Rattle.context_block.specs.Fields.{CONTEXT-ENTRIES}
use Rattle.context_block.specs.Blocks.{word_dci}
use Rattle.context.specs.Place.{SLOT, written, block_at, read_at}
use Rattle.context.specs.Steps.{configure_writes}

-- An endpoint word of its fields, packed most significant first.
abbrev pub word_of : (direction_in number type size packets interval : ℕ) → ℕ
word_of direction_in number type size packets interval =
    ENDPOINT * 2 ^ 30
    + direction_in * 2 ^ 29
    + number * 2 ^ 25
    + type * 2 ^ 23
    + size * 2 ^ 12
    + packets * 2 ^ 10
    + interval * 2 ^ 2

-- 0x81, interrupt, size 64, packets 1, interval 4.
abbrev pub interrupt81 : ℕ
interrupt81 = word_of 1 1 3 64 1 4

-- The same of 0x8F.
abbrev pub interrupt8_f : ℕ
interrupt8_f = word_of 1 15 3 64 1 4

-- A companion of its fields, and one of burst 5 and 0x123 bytes per interval.
abbrev pub companion : (burst mult bytes : ℕ) → ℕ
companion burst mult bytes = COMPANION * 2 ^ 30 + burst * 2 ^ 26 + mult * 2 ^ 24 + bytes * 2 ^ 8

abbrev pub plain_companion : ℕ
plain_companion = companion 5 0 0x123

-- A list with that one directly behind each endpoint word.
abbrev pub companions_behind : List ℕ → List ℕ
companions_behind [] = []
companions_behind (w ∷ l) =
    cond (eqb (kind w) ENDPOINT) (w ∷ plain_companion ∷ companions_behind l) (w ∷ companions_behind l)

-- The context of a Configure that adds one word, over zeros and with no endpoint in the record.
abbrev pub one_added : (spacing speed word ring : ℕ) → List ℕ
one_added spacing speed word ring =
    written spacing (configure_writes speed 0 0 [] (word ∷ []) (queues (word_dci word ∷ []) (ring ∷ [])) [])
    (replicate (33 * spacing) 0)

-- Its endpoint's doublewords 0, 1 and 4, and its entries.
abbrev pub added_holds : (spacing speed word ring first second fifth entries : ℕ) → Bool
added_holds spacing speed word ring first second fifth entries =
    let ctx = one_added spacing speed word ring in
    let block = block_at spacing ctx (word_dci word + 1) in
    eqb (word_at block 0) first
    && (eqb (word_at block 1) second
    && (eqb (word_at block 4) fifth && eqb (read_at spacing ctx SLOT CONTEXT-ENTRIES) entries))
