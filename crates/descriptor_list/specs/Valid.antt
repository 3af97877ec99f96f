-- The valid list of descriptor words, from 01, "Descriptor word".
use Rattle.std.specs.Prelude.{ℕ, suc, Bool, true, false, not, cond, ◌&&◌, ◌||◌, List, [], ◌∷◌, eqb, leb, length}
use Rattle.descriptor.specs.Word.{kind, interface_number, word_ok, CONFIGURATION, ALTERNATE}
use Rattle.descriptor_list.specs.Lookup.{endpoint_run, of_interface}

-- How many words a list may have, and a record has room for.
abbrev pub LIST-ROOM : ℕ
LIST-ROOM = 256

-- A nonempty list begins with a configuration.
unfoldable pub begins_with_configuration : List ℕ → Bool
begins_with_configuration [] = true
begins_with_configuration (w ∷ l) = eqb (kind w) CONFIGURATION

-- Each word by itself.
unfoldable pub words_ok : List ℕ → Bool
words_ok [] = true
words_ok (w ∷ l) = word_ok w && words_ok l

-- How many endpoint words may follow a word: none a configuration, since endpoints follow an alternate of the same
-- configuration, and 30 an alternate. After an endpoint word its alternate's count goes on.
unfoldable pub run_fits : ℕ → ℕ → Bool
run_fits k run = cond (eqb k CONFIGURATION) (eqb run 0) (cond (eqb k ALTERNATE) (leb run 30) true)

unfoldable pub runs_fit : List ℕ → Bool
runs_fit [] = true
runs_fit (w ∷ l) = run_fits (kind w) (endpoint_run l) && runs_fit l

unfoldable pub configurations : List ℕ → ℕ
configurations [] = 0
configurations (w ∷ l) = cond (eqb (kind w) CONFIGURATION) (suc (configurations l)) (configurations l)

-- Whether some alternate word is of this interface.
unfoldable pub has_interface : ℕ → List ℕ → Bool
has_interface i [] = false
has_interface i (w ∷ l) = of_interface i w || has_interface i l

-- Whether a word, before others, is the last alternate word of its interface.
unfoldable pub last_alternate : ℕ → List ℕ → Bool
last_alternate w l = eqb (kind w) ALTERNATE && not (has_interface (interface_number w) l)

-- The number of distinct interfaces: each is counted at its last alternate word.
unfoldable pub interfaces : List ℕ → ℕ
interfaces [] = 0
interfaces (w ∷ l) = cond (last_alternate w l) (suc (interfaces l)) (interfaces l)

-- 01's valid list; any other gives 4.
unfoldable pub valid_list : List ℕ → Bool
valid_list l =
    leb (length l) LIST-ROOM
    && (begins_with_configuration l
    && (words_ok l
    && (runs_fit l
    && (leb (configurations l) 8
    && leb (interfaces l) 32))))
