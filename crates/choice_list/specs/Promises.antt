-- What a panel concludes of the longest interval that it names.
use Rattle.std.specs.Prelude.{ℕ, ◌<◌, ◌≡◌, List, length, get_or}
use Rattle.descriptor.specs.Word.{type_number}
use Rattle.choice_list.specs.Candidate.{words_at, is_candidate}

-- No word of type 3, which is interrupt.
unfoldable pub NoInterrupt : List ℕ → Type 0
NoInterrupt ws = (k : ℕ) → k < length ws → type_number (get_or ws k 0) ≡ 3 → ⊥

-- An alternate without interrupt endpoints may be chosen whatever interval is named, or never.
abbrev pub LongestPromise : Type 0
LongestPromise =
    (list : List ℕ) (speed interface place one other : ℕ) →
    NoInterrupt (words_at list interface place) →
    is_candidate list speed one interface place ≡ is_candidate list speed other interface place
